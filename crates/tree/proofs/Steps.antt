-- Entries of numbered blocks: one of them, and a tree that has no fresh number.
use Rattle.std.proofs.Common.{◌≡◌, ℕ, zero, suc, ◌<◌, Bool, false, List, [], ◌∷◌, length, get_or, Some, None, Option, refl, ap₂, not-suc-le-zero, arith}
use Rattle.std.proofs.lemmas.Bool.{cond-false}
use Rattle.tree.specs.Node.{Every, map_e}
use Rattle.tree.specs.Tree.{Pay, over}
use Rattle.tree.specs.Stored.{forget, same, Numbers}

pub map_get : {X Y : Type 0} (F : X → Y) (es : List (ℕ × X)) (i : ℕ) (d : ℕ × X) → get_or (map_e F es) i (d.0, F d.1) ≡ ((get_or es i d).0, F (get_or es i d).1)
map_get F [] i d = refl
map_get F (e ∷ r) zero d = refl
map_get F (e ∷ r) (suc i) d = map_get F r i d

pub every_get : {X : Type 0} (F : X → Type 0) (es : List (ℕ × X)) (i : ℕ) (d : ℕ × X) → i < length es → Every F es → F (get_or es i d).1
every_get F [] i d h p = absurd (not-suc-le-zero h)
every_get F (e ∷ r) zero d h p = p.0
every_get F (e ∷ r) (suc i) d h p = every_get F r i d (omega arith) p.1

-- a tree without fresh numbers
module _ (P : Type 0) (fresh : ℕ → Bool) where
  abbrev pub Old : (l : ℕ) → Pay ℕ P l → Type 0
  Old l p = Numbers P (λ b. fresh b ≡ false) l p

  abbrev pub new_of : (l : ℕ) → Pay ℕ P l → Pay (Option ℕ) P l
  new_of l p = over (forget fresh) same l p

  abbrev pub old_of : (l : ℕ) → Pay ℕ P l → Pay (Option ℕ) P l
  old_of l p = over Some same l p

  pub over_old : (l : ℕ) (p : Pay ℕ P l) → Old l p → new_of l p ≡ old_of l p
  over_old zero p h = refl
  over_old (suc l) t h =
      ap₂ {C = Option ℕ × List (ℕ × Pay (Option ℕ) P l)} (λ (m : Option ℕ) (x : List (ℕ × Pay (Option ℕ) P l)). (m, x)) (cond-false (fresh t.0) None (Some t.0) h.0) (go (over_old l) t.1 h.1)
    where
      go : ((p : Pay ℕ P l) → Old l p → new_of l p ≡ old_of l p) → (es : List (ℕ × Pay ℕ P l)) → Every (Old l) es → map_e (new_of l) es ≡ map_e (old_of l) es
      go ih [] h = refl
      go ih (e ∷ r) h = ap₂ (λ (x : Pay (Option ℕ) P l) (y : List (ℕ × Pay (Option ℕ) P l)). (e.0, x) ∷ y) (ih e.1 h.0) (go ih r h.1)

  pub map_old : (l : ℕ) (es : List (ℕ × Pay ℕ P l)) → Every (Old l) es → map_e (new_of l) es ≡ map_e (old_of l) es
  map_old l [] h = refl
  map_old l (e ∷ r) h = ap₂ (λ (x : Pay (Option ℕ) P l) (y : List (ℕ × Pay (Option ℕ) P l)). (e.0, x) ∷ y) (over_old l e.1 h.0) (map_old l r h.1)
