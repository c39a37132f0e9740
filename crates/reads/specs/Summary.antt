-- The summary of rows.
use Rattle.std.specs.Prelude.{ℕ, List, ℤ}
use Rattle.table.specs.Summary.{Summing}
use Rattle.tree.specs.Reads.{total}

-- the rows' values joined in order, of the kind that x is
abbrev pub summary_of : {S : Type 0} → Summing S → List (ℕ × ℤ) → S
summary_of x rows = total x.none x.joined x.value_of rows
