use Rattle.std.proofs.Common.{◌≡◌, map, take}
use Rattle.page.specs.InUse.{in_use}
use Rattle.page.specs.View.{pair}
use Rattle.page.proofs.page_words.PageWords.to_page.Given as goal

abbrev pub invariant-loop-i : goal.invariant-loop-i
invariant-loop-i l = map pair (in_use l.entries) ≡ take l.i l.self.entries
