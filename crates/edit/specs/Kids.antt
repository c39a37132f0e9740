-- The parts that stand for a child, of which one was made anew.
use Rattle.std.specs.Prelude.{◌≡◌, ℕ, ◌<◌, List, [], ◌∷◌}
use Rattle.page.specs.View.{entries}
use Rattle.edit.specs.declared.kids.Rest.{Rest}
use Rattle.edit.specs.declared.kids.Rest.TheVariants.{Nothing, After, Before}

-- the parts under the separator k
abbrev pub with_rest : ℕ → Rest → List (ℕ × ℕ) → List (ℕ × List (ℕ × ℕ))
with_rest k Nothing made = (k, made) ∷ []
with_rest k (After s p) made = (k, made) ∷ (s, entries p) ∷ []
with_rest k (Before s p) made = (k, entries p) ∷ (s, made) ∷ []

-- the rest has level l, and its separator fits an entry
abbrev pub Beside : ℕ → Rest → Type 0
Beside l Nothing = Unit {0}
Beside l (After s p) = (p.level ≡ l) × (s < 268435456)
Beside l (Before s p) = (p.level ≡ l) × (s < 268435456)
