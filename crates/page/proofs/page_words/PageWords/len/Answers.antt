use Rattle.std.proofs.Common.{length, sym, ap, ◌∙◌}
use Rattle.page.specs.Block.{Block}
use Rattle.page.proofs.Seen.{read_length}
use Rattle.page.proofs.page_words.PageWords.len.Goals as goal

pub returns-clause-len : goal.returns-clause-len
returns-clause-len c = sym (read_length c.self.inside.words) ∙ ap (λ (b : Block). length b.entries) c.self.view_is
