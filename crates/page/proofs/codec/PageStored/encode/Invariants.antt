use Rattle.std.proofs.Common.{◌≡◌, ◌-◌, ◌*◌, ◌∷◌, ◌++◌, length, take, replicate}
use Rattle.page.specs.InUse.{in_use}
use Rattle.page.specs.Block.{header_of, value_kind, flat}
use Rattle.page.specs.View.{entries}
use Rattle.page.proofs.codec.PageStored.encode.Given as goal

abbrev pub invariant-loop-i : goal.invariant-loop-i
invariant-loop-i l =
    l.out ≡ header_of l.self.level (length (in_use l.self.entries)) ∷ 0 ∷ (flat (value_kind l.self.level) (take l.i (entries l.self)) ++ replicate (length l.fn.out - 2 - 2 * l.i) 0)
