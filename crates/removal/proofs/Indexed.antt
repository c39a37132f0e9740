-- The children of a block by their places.
use Rattle.std.proofs.Common.{◌≡◌, ℕ, zero, suc, ◌<◌, ◌≤◌, List, [], ◌∷◌, ◌++◌, length, get_or, take, drop, refl, ap, subst, ⊎_elim, not-suc-le-zero, arith}
use Rattle.std.proofs.lemmas.Bool.{lt-ltb, le-ltb, cases_lt}
use Rattle.tree.specs.Node.{beside, Seg, map_e}
use Rattle.counts.specs.Moves.{Move}
use Rattle.edit.specs.Remove.{beside_m}

-- i is the place of the entry that covers s
pub record Covers {X : Type 0} (s : ℕ) (es : List (ℕ × X)) (i : ℕ) (d : ℕ × X) : Type 0 where
  pub within : i < length es
  pub low : (k : ℕ) → k ≤ i → (get_or es k d).0 ≤ s
  pub high : suc i < length es → s < (get_or es (suc i) d).0

-- there is one
pub covers : {X : Type 0} (s : ℕ) (e : ℕ × X) (r : List (ℕ × X)) (d : ℕ × X) → e.0 ≤ s → (i : ℕ) × Covers s (e ∷ r) i d
covers s e [] d h = (0, record { within = omega arith; low = λ k q. one k q; high = λ q. absurd (omega arith) })
  where
    one : (k : ℕ) → k ≤ 0 → (get_or (e ∷ []) k d).0 ≤ s
    one zero q = h
    one (suc k) q = absurd (omega arith)
covers {X} s e (x ∷ r) d h = ⊎_elim
    (λ v. (0, record { within = omega arith; low = λ k q. one k q; high = λ q. v }))
    (λ v. let c = covers s x r d v in (suc c.0, record { within = omega (arith, c.1.within); low = λ k q. more c.0 c.1 k q; high = λ q. c.1.high (omega arith) }))
    (cases_lt s x.0)
  where
    one : (k : ℕ) → k ≤ 0 → (get_or (e ∷ x ∷ r) k d).0 ≤ s
    one zero q = h
    one (suc k) q = absurd (omega arith)

    more : (i : ℕ) → Covers s (x ∷ r) i d → (k : ℕ) → k ≤ suc i → (get_or (e ∷ x ∷ r) k d).0 ≤ s
    more i c zero q = h
    more i c (suc k) q = c.low k (omega arith)

-- cut around one entry, or around two
pub cut_one : {X : Type 0} (es : List (ℕ × X)) (i : ℕ) (d : ℕ × X) → i < length es → es ≡ take i es ++ (get_or es i d ∷ drop (suc i) es)
cut_one [] i d h = absurd (not-suc-le-zero h)
cut_one (e ∷ r) zero d h = refl
cut_one {X} (e ∷ r) (suc i) d h = ap (λ (z : List (ℕ × X)). e ∷ z) (cut_one r i d (omega arith))

pub cut_two : {X : Type 0} (es : List (ℕ × X)) (i : ℕ) (d : ℕ × X) → suc i < length es → es ≡ take i es ++ (get_or es i d ∷ get_or es (suc i) d ∷ drop (suc (suc i)) es)
cut_two [] i d h = absurd (not-suc-le-zero h)
cut_two (e ∷ []) i d h = absurd (omega arith)
cut_two (e ∷ x ∷ r) zero d h = refl
cut_two {X} (e ∷ x ∷ r) (suc i) d h = ap (λ (z : List (ℕ × X)). e ∷ z) (cut_two (x ∷ r) i d (omega arith))

pub drop_one : {X : Type 0} (es : List (ℕ × X)) (i : ℕ) (d : ℕ × X) → i < length es → drop i es ≡ get_or es i d ∷ drop (suc i) es
drop_one [] i d h = absurd (not-suc-le-zero h)
drop_one (e ∷ r) zero d h = refl
drop_one (e ∷ r) (suc i) d h = drop_one r i d (omega arith)

pub take_one : {X : Type 0} (es : List (ℕ × X)) (i : ℕ) (d : ℕ × X) (vs : List (ℕ × X)) → i < length es → take (suc i) es ++ vs ≡ take i es ++ (get_or es i d ∷ vs)
take_one [] i d vs h = absurd (not-suc-le-zero h)
take_one (e ∷ r) zero d vs h = refl
take_one {X} (e ∷ r) (suc i) d vs h = ap (λ (z : List (ℕ × X)). e ∷ z) (take_one r i d vs (omega arith))

-- two neighbours, and their bounds
pub seg_pair : {X : Type 0} (W : ℕ → ℕ → X → Type 0) (lo hi : ℕ) (es : List (ℕ × X)) (i : ℕ) (d : ℕ × X) → Seg ◌≡◌ W lo hi es → suc i < length es
    → W (get_or es i d).0 (get_or es (suc i) d).0 (get_or es i d).1 × ((mid : ℕ) × W (get_or es (suc i) d).0 mid (get_or es (suc i) d).1 × (length es ≡ suc (suc i) → mid ≡ hi))
seg_pair W lo hi [] i d p h = absurd (not-suc-le-zero h)
seg_pair W lo hi (e ∷ []) i d p h = absurd (omega arith)
seg_pair W lo hi (e ∷ x ∷ []) zero d p h = (subst (λ (k : ℕ). W e.0 k e.1) p.1.2.0 p.1.1, (p.1.2.1.0, p.1.2.1.1, λ q. p.1.2.1.2))
seg_pair W lo hi (e ∷ x ∷ y ∷ r) zero d p h = (subst (λ (k : ℕ). W e.0 k e.1) p.1.2.0 p.1.1, (p.1.2.1.0, p.1.2.1.1, λ q. absurd (omega arith)))
seg_pair W lo hi (e ∷ x ∷ r) (suc i) d p h =
    let q = seg_pair W p.1.0 hi (x ∷ r) i d p.1.2 (omega arith) in
    (q.0, (q.1.0, q.1.1, λ n. q.1.2 (omega arith)))

-- the change of an entry together with its neighbour
module _ {X : Type 0} (s : ℕ) (f : ℕ → X → List (ℕ × X)) (fR fL : (ℕ × X) → (ℕ × X) → List (ℕ × X)) (d : ℕ × X) where
  pub beside_right : (e : ℕ × X) (r : List (ℕ × X)) (i : ℕ) → suc i < length (e ∷ r) → ((k : ℕ) → k ≤ i → (get_or (e ∷ r) k d).0 ≤ s) → s < (get_or (e ∷ r) (suc i) d).0
      → beside s f fR fL e r ≡ take i (e ∷ r) ++ (fR (get_or (e ∷ r) i d) (get_or (e ∷ r) (suc i) d) ++ drop (suc (suc i)) (e ∷ r))
  beside_right e [] i h low up = absurd (omega arith)
  beside_right e (x ∷ r) zero h low up = rw (lt-ltb s x.0 up)
  beside_right e (x ∷ []) (suc i) h low up = absurd (omega arith)
  beside_right e (x ∷ y ∷ r) (suc i) h low up =
      rw (le-ltb s x.0 (low 1 (omega arith))) (ap (λ (z : List (ℕ × X)). e ∷ z) (beside_right x (y ∷ r) i (omega arith) (λ k q. low (suc k) (omega arith)) up))

  pub beside_left : (e : ℕ × X) (r : List (ℕ × X)) (i : ℕ) → length (e ∷ r) ≡ suc (suc i) → ((k : ℕ) → k ≤ suc i → (get_or (e ∷ r) k d).0 ≤ s)
      → beside s f fR fL e r ≡ take i (e ∷ r) ++ fL (get_or (e ∷ r) i d) (get_or (e ∷ r) (suc i) d)
  beside_left e [] i h low = absurd (omega arith)
  beside_left e (x ∷ []) zero h low = rw (le-ltb s x.0 (low 1 (omega arith)))
  beside_left e (x ∷ y ∷ r) zero h low = absurd (omega arith)
  beside_left e (x ∷ []) (suc i) h low = absurd (omega arith)
  beside_left e (x ∷ y ∷ r) (suc i) h low =
      rw (le-ltb s x.0 (low 1 (omega arith))) (ap (λ (z : List (ℕ × X)). e ∷ z) (beside_left x (y ∷ r) i (omega arith) (λ k q. low (suc k) (omega arith))))

module _ {X : Type 0} (s : ℕ) (f : (ℕ × X) → List Move) (fR fL : (ℕ × X) → (ℕ × X) → List Move) (d : ℕ × X) where
  pub moves_right : (e : ℕ × X) (r : List (ℕ × X)) (i : ℕ) → suc i < length (e ∷ r) → ((k : ℕ) → k ≤ i → (get_or (e ∷ r) k d).0 ≤ s) → s < (get_or (e ∷ r) (suc i) d).0
      → beside_m s f fR fL e r ≡ fR (get_or (e ∷ r) i d) (get_or (e ∷ r) (suc i) d)
  moves_right e [] i h low up = absurd (omega arith)
  moves_right e (x ∷ r) zero h low up = rw (lt-ltb s x.0 up)
  moves_right e (x ∷ []) (suc i) h low up = absurd (omega arith)
  moves_right e (x ∷ y ∷ r) (suc i) h low up =
      rw (le-ltb s x.0 (low 1 (omega arith))) (moves_right x (y ∷ r) i (omega arith) (λ k q. low (suc k) (omega arith)) up)

  pub moves_left : (e : ℕ × X) (r : List (ℕ × X)) (i : ℕ) → length (e ∷ r) ≡ suc (suc i) → ((k : ℕ) → k ≤ suc i → (get_or (e ∷ r) k d).0 ≤ s)
      → beside_m s f fR fL e r ≡ fL (get_or (e ∷ r) i d) (get_or (e ∷ r) (suc i) d)
  moves_left e [] i h low = absurd (omega arith)
  moves_left e (x ∷ []) zero h low = rw (le-ltb s x.0 (low 1 (omega arith)))
  moves_left e (x ∷ y ∷ r) zero h low = absurd (omega arith)
  moves_left e (x ∷ []) (suc i) h low = absurd (omega arith)
  moves_left e (x ∷ y ∷ r) (suc i) h low =
      rw (le-ltb s x.0 (low 1 (omega arith))) (moves_left x (y ∷ r) i (omega arith) (λ k q. low (suc k) (omega arith)))

-- the same where the entries are mapped
module _ {X Y : Type 0} (F : X → Y) (s : ℕ) (f : ℕ → Y → List (ℕ × Y)) (fR fL : (ℕ × Y) → (ℕ × Y) → List (ℕ × Y)) (d : ℕ × X) where
  abbrev up : ℕ × X → ℕ × Y
  up e = (e.0, F e.1)

  pub right_mapped : (e : ℕ × X) (r : List (ℕ × X)) (i : ℕ) → suc i < length (e ∷ r) → ((k : ℕ) → k ≤ i → (get_or (e ∷ r) k d).0 ≤ s) → s < (get_or (e ∷ r) (suc i) d).0
      → beside s f fR fL (up e) (map_e F r) ≡ map_e F (take i (e ∷ r)) ++ (fR (up (get_or (e ∷ r) i d)) (up (get_or (e ∷ r) (suc i) d)) ++ map_e F (drop (suc (suc i)) (e ∷ r)))
  right_mapped e [] i h low hi = absurd (omega arith)
  right_mapped e (x ∷ r) zero h low hi = rw (lt-ltb s x.0 hi)
  right_mapped e (x ∷ []) (suc i) h low hi = absurd (omega arith)
  right_mapped e (x ∷ y ∷ r) (suc i) h low hi =
      rw (le-ltb s x.0 (low 1 (omega arith))) (ap (λ (z : List (ℕ × Y)). up e ∷ z) (right_mapped x (y ∷ r) i (omega arith) (λ k q. low (suc k) (omega arith)) hi))

  pub left_mapped : (e : ℕ × X) (r : List (ℕ × X)) (i : ℕ) → length (e ∷ r) ≡ suc (suc i) → ((k : ℕ) → k ≤ suc i → (get_or (e ∷ r) k d).0 ≤ s)
      → beside s f fR fL (up e) (map_e F r) ≡ map_e F (take i (e ∷ r)) ++ fL (up (get_or (e ∷ r) i d)) (up (get_or (e ∷ r) (suc i) d))
  left_mapped e [] i h low = absurd (omega arith)
  left_mapped e (x ∷ []) zero h low = rw (le-ltb s x.0 (low 1 (omega arith)))
  left_mapped e (x ∷ y ∷ r) zero h low = absurd (omega arith)
  left_mapped e (x ∷ []) (suc i) h low = absurd (omega arith)
  left_mapped e (x ∷ y ∷ r) (suc i) h low =
      rw (le-ltb s x.0 (low 1 (omega arith))) (ap (λ (z : List (ℕ × Y)). up e ∷ z) (left_mapped x (y ∷ r) i (omega arith) (λ k q. low (suc k) (omega arith))))
