-- Put and remove with numbers from a grant: a list of distinct numbers that the tree before does not have.
use Rattle.std.specs.Prelude.{◌≡◌, ℕ, suc, ◌+◌, ◌*◌, ◌≤◌, Bool, false, cond, ◌||◌, List, [], ◌∷◌, length, Some, None, Option, ◌==◌, slice_index}
use Rattle.tree.specs.Tree.{Root, over_root, blocks, put_root, rem_root}
use Rattle.tree.specs.Stored.{Numbers, same, IsPut, IsRemove}
use Rattle.tree.specs.Numbered.{numbered}
use Rattle.tree.specs.Apart.{Distinct}

-- whether b is one of the numbers
abbrev pub inside : List ℕ → ℕ → Bool
inside [] b = false
inside (x ∷ xs) b = x == b || inside xs b

-- those that pass a test, in their order
abbrev pub sift : (ℕ → Bool) → List ℕ → List ℕ
sift f [] = []
sift f (x ∷ xs) = cond (f x) (x ∷ sift f xs) (sift f xs)

-- the numbers of a tree's blocks that come from a grant
abbrev pub taken : (P : Type 0) → List ℕ → Root ℕ P → List ℕ
taken P grant u = sift (inside grant) (blocks ℕ P u.0 u.1)

-- t with a row set or cleared, its new blocks numbered by level from a grant
abbrev pub put_from : (P : Type 0) → List ℕ → ℕ → P → Root ℕ P → Root ℕ P
put_from P grant s a t = numbered P (λ i. slice_index grant i) (put_root (Option ℕ) P None s a (over_root Some same t))

abbrev pub rem_from : (P : Type 0) → List ℕ → ℕ → Root ℕ P → Root ℕ P
rem_from P grant s t = numbered P (λ i. slice_index grant i) (rem_root (Option ℕ) P None s (over_root Some same t))

-- a grant for a tree: 2h + 1 numbers or more, all distinct, none of them the tree's
pub record Grants (P : Type 0) (grant : List ℕ) (t : Root ℕ P) : Type 0 where
  pub enough : 2 * suc t.0 + 1 ≤ length grant
  pub apart : Distinct grant
  pub fresh : Numbers P (λ b. inside grant b ≡ false) (suc t.0) t.1

-- The new blocks are just those with a number from the grant, and none of these numbers is taken twice.
abbrev pub FromGrant : Type 0 → Type 0
FromGrant P = (grant : List ℕ) (s : ℕ) (t : Root ℕ P) → Grants P grant t →
    ((a : P) → IsPut (inside grant) s a t (put_from P grant s a t) × Distinct (taken P grant (put_from P grant s a t)))
    × (IsRemove (inside grant) s t (rem_from P grant s t) × Distinct (taken P grant (rem_from P grant s t)))
