-- What holds of each row of a list, and of its parts.
use Rattle.std.proofs.Common.{ℕ, ◌<◌, ◌≤◌, List, [], ◌∷◌, ◌++◌, arith}
use Rattle.tree.specs.Node.{Asc}
use Rattle.tree.proofs.Segs.{asc_le}
use Rattle.model.specs.TreeBlocks.{Each}

module _ {A : Type 0} (P : A → Type 0) where
  pub each_left : (xs ys : List A) → Each P (xs ++ ys) → Each P xs
  each_left [] ys a = tt
  each_left (x ∷ xs) ys a = (a.0, each_left xs ys a.1)

  pub each_right : (xs ys : List A) → Each P (xs ++ ys) → Each P ys
  each_right [] ys a = a
  each_right (x ∷ xs) ys a = each_right xs ys a.1

  pub each_both : (Q : A → Type 0) (xs : List A) → Each P xs → Each Q xs → Each (λ x. P x × Q x) xs
  each_both Q [] a b = tt
  each_both Q (x ∷ xs) a b = ((a.0, b.0), each_both Q xs a.1 b.1)

module _ {P : Type 0} where
  pub asc_below : (lo hi : ℕ) (es : List (ℕ × P)) → Asc lo hi es → Each (λ (r : ℕ × P). r.0 < hi) es
  asc_below lo hi [] p = tt
  asc_below lo hi (e ∷ r) p = (omega (arith, p.1.1, asc_le p.1.0 hi r p.1.2), asc_below p.1.0 hi r p.1.2)

  pub asc_above : (k lo hi : ℕ) (es : List (ℕ × P)) → k ≤ lo → Asc lo hi es → Each (λ (r : ℕ × P). k ≤ r.0) es
  asc_above k lo hi [] h p = tt
  asc_above k lo hi (e ∷ r) h p = (omega (arith, p.0), asc_above k p.1.0 hi r (omega (arith, p.0, p.1.1)) p.1.2)
