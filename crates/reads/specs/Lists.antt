-- Rows written to a slice of pairs.
use Rattle.std.specs.Prelude.{ℕ, List, [], ◌∷◌, filter, ℤ, nat_le}
use Rattle.table.specs.declared.pair.Pair.{Pair}

-- the row that a pair shows
abbrev pub row_in : Pair → ℕ × ℤ
row_in p = (p.speed, p.angle)

abbrev pub pair_for : ℕ × ℤ → Pair
pair_for r = record { speed = r.0; angle = r.1 }

-- the rows of speed s or above
abbrev pub due : ℕ → List (ℕ × ℤ) → List (ℕ × ℤ)
due s rs = filter (λ (r : ℕ × ℤ). nat_le s r.0) rs

-- a slice after rows were written to it from its start, as many as it takes
abbrev pub written : List (ℕ × ℤ) → List Pair → List Pair
written [] out = out
written (r ∷ rs) [] = []
written (r ∷ rs) (p ∷ out) = pair_for r ∷ written rs out
