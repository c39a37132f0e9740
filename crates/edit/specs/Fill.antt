-- Children in a row, opened.
use Rattle.std.specs.Prelude.{ℕ, ◌+◌, List, [], ◌∷◌}
use Rattle.tree.specs.Tree.{Tree}
use Rattle.counts.specs.Counts.{occ}
use Rattle.edit.specs.Plan.{kids}
use Rattle.counts.specs.Moves.{Move, opening}

abbrev pub opens : {X : Type 0} → List (ℕ × (ℕ × X)) → List Move
opens [] = []
opens (e ∷ r) = opening e.1.0 ∷ opens r

-- how often b is referred to by these children
abbrev pub below : (l : ℕ) → List (ℕ × Tree ℕ ℕ l) → ℕ → ℕ
below l [] b = 0
below l (e ∷ r) b = occ b (kids l e.1.1) + below l r b
