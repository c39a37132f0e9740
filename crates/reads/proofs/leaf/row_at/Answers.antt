use Rattle.std.proofs.Common.{ℕ, ◌∙◌, ap₂}
use Rattle.table.specs.Rows.{angle_of}
use Rattle.reads.proofs.leaf.row_at.Goals as goal

pub returns : goal.returns
returns c = c.from_stored.ensures.row ∙ ap₂ (λ (x y : ℕ). (x, angle_of y)) c.speed.ensures.is c.value.ensures.is
