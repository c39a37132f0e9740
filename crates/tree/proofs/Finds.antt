-- For code that finds the child by its index.
use Rattle.std.proofs.Common.{◌≡◌, ℕ, zero, suc, ◌<◌, ◌≤◌, true, false, List, [], ◌∷◌, ◌++◌, length, get_or, take, drop, refl, ap, not-suc-le-zero, arith}
use Rattle.std.proofs.lemmas.Bool.{lt-ltb, le-ltb}
use Rattle.tree.specs.Node.{ahead, is_nil, at, beside, Seg}

module _ {X : Type 0} (W : ℕ → ℕ → X → Type 0) (wle : (k m : ℕ) (x : X) → W k m x → k ≤ m) where
  pub seg_key : (lo hi : ℕ) (es : List (ℕ × X)) (i : ℕ) (d : ℕ × X) → Seg ◌≡◌ W lo hi es → i < length es → lo ≤ (get_or es i d).0
  seg_key lo hi [] i d p h = absurd (not-suc-le-zero h)
  seg_key lo hi (e ∷ r) zero d p h = omega (arith, p.0)
  seg_key lo hi (e ∷ r) (suc i) d p h = omega (arith, p.0, wle _ _ _ p.1.1, seg_key p.1.0 hi r i d p.1.2 (omega arith))

  not_nil : (r : List (ℕ × X)) → 0 < length r → is_nil r ≡ false
  not_nil [] h = absurd (not-suc-le-zero h)
  not_nil (x ∷ r) h = refl

  pub ahead_yes : (s : ℕ) (e : ℕ × X) (r : List (ℕ × X)) (d : ℕ × X) → (1 < length (e ∷ r) → s < (get_or (e ∷ r) 1 d).0) → ahead s r ≡ true
  ahead_yes s e [] d h = refl
  ahead_yes s e (x ∷ r) d h = lt-ltb s x.0 (h (omega arith))

  pub ahead_no : (s m hi : ℕ) (r : List (ℕ × X)) (i : ℕ) (d : ℕ × X) → Seg ◌≡◌ W m hi r → i < length r → (get_or r i d).0 ≤ s → ahead s r ≡ false
  ahead_no s m hi [] i d p h k = absurd (not-suc-le-zero h)
  ahead_no s m hi (x ∷ r) i d p h k = le-ltb s x.0 (omega (arith, p.0, k, seg_key m hi (x ∷ r) i d p h))

  pub at_index : (s : ℕ) (f : ℕ → X → List (ℕ × X)) (lo hi : ℕ) (es : List (ℕ × X)) (i : ℕ) (d : ℕ × X) → Seg ◌≡◌ W lo hi es → i < length es → (get_or es i d).0 ≤ s → (suc i < length es → s < (get_or es (suc i) d).0)
      → at s f es ≡ take i es ++ (f (get_or es i d).0 (get_or es i d).1 ++ drop (suc i) es)
  at_index s f lo hi [] i d p h k n = absurd (not-suc-le-zero h)
  at_index s f lo hi (e ∷ r) zero d p h k n = rw (ahead_yes s e r d n)
  at_index s f lo hi (e ∷ r) (suc i) d p h k n =
      rw (ahead_no s p.1.0 hi r i d p.1.2 (omega arith) k) (ap (λ (z : List (ℕ × X)). e ∷ z) (at_index s f p.1.0 hi r i d p.1.2 (omega arith) k (λ j. n (omega arith))))

  module _ (s : ℕ) (f : ℕ → X → List (ℕ × X)) (fR fL : (ℕ × X) → (ℕ × X) → List (ℕ × X)) where
    pub beside_right : (lo hi : ℕ) (e : ℕ × X) (r : List (ℕ × X)) (i : ℕ) (d : ℕ × X) → Seg ◌≡◌ W lo hi (e ∷ r) → suc i < length (e ∷ r) → (get_or (e ∷ r) i d).0 ≤ s → s < (get_or (e ∷ r) (suc i) d).0
        → beside s f fR fL e r ≡ take i (e ∷ r) ++ (fR (get_or (e ∷ r) i d) (get_or (e ∷ r) (suc i) d) ++ drop (suc (suc i)) (e ∷ r))
    beside_right lo hi e [] i d p n a b = absurd (omega arith)
    beside_right lo hi e (x ∷ r) zero d p n a b = rw (lt-ltb s x.0 b)
    beside_right lo hi e (x ∷ r) (suc i) d p n a b =
        let q = p.1.2 in
        let g : x.0 ≤ s = omega (arith, a, q.0, seg_key p.1.0 hi (x ∷ r) i d q (omega arith)) in
        rw (le-ltb s x.0 g, not_nil r (omega arith)) (ap (λ (z : List (ℕ × X)). e ∷ z) (beside_right p.1.0 hi x r i d q (omega arith) a b))

    pub beside_left : (lo hi : ℕ) (e : ℕ × X) (r : List (ℕ × X)) (i : ℕ) (d : ℕ × X) → Seg ◌≡◌ W lo hi (e ∷ r) → suc (suc i) ≡ length (e ∷ r) → (get_or (e ∷ r) (suc i) d).0 ≤ s
        → beside s f fR fL e r ≡ take i (e ∷ r) ++ fL (get_or (e ∷ r) i d) (get_or (e ∷ r) (suc i) d)
    beside_left lo hi e [] i d p n a = absurd (omega arith)
    beside_left lo hi e (x ∷ []) zero d p n a = rw (le-ltb s x.0 a)
    beside_left lo hi e (x ∷ y ∷ r) zero d p n a = absurd (omega arith)
    beside_left lo hi e (x ∷ r) (suc i) d p n a =
        let q = p.1.2 in
        let g : x.0 ≤ s = omega (arith, a, q.0, seg_key p.1.0 hi (x ∷ r) (suc i) d q (omega arith)) in
        rw (le-ltb s x.0 g, not_nil r (omega arith)) (ap (λ (z : List (ℕ × X)). e ∷ z) (beside_left p.1.0 hi x r i d q (omega arith) a))
