use Rattle.std.proofs.Common.{◌≡◌, ℕ, zero, suc, ◌<◌, ◌≤◌, List, [], ◌∷◌, length, refl, subst, not-suc-le-zero, arith}
use Rattle.tree.specs.Node.{Seg, Asc}
use Rattle.tree.specs.Tree.{Tree, Cell}
use Rattle.tree.specs.Layout.{next, Ascends, Start, Child, SameRule}

-- leaves
module _ {P : Type 0} where
  asc_next : (m hi : ℕ) (r : List (ℕ × P)) → Asc m hi r → m ≤ next hi r
  asc_next m hi [] p = p
  asc_next m hi (e ∷ r) p = p.0

  leaf_start : (lo hi : ℕ) (es : List (ℕ × P)) → Asc lo hi es → Start 0 lo es
  leaf_start lo hi [] p = tt
  leaf_start lo hi (e ∷ r) p = p.0

  leaf_to : (lo hi : ℕ) (es : List (ℕ × P)) → Asc lo hi es → Ascends (λ k m p. Unit {0}) hi es
  leaf_to lo hi [] p = tt
  leaf_to lo hi (e ∷ r) p = (omega (arith, p.1.1, asc_next p.1.0 hi r p.1.2), tt, leaf_to p.1.0 hi r p.1.2)

  leaf_from : (lo hi : ℕ) (es : List (ℕ × P)) → lo ≤ next hi es → Ascends (λ k m p. Unit {0}) hi es → Asc lo hi es
  leaf_from lo hi [] h p = h
  leaf_from lo hi (e ∷ r) h p = (h, (suc e.0, refl, leaf_from (suc e.0) hi r p.0 p.2))

  leaf_next : (lo hi : ℕ) (es : List (ℕ × P)) → lo ≤ hi → Start 0 lo es → lo ≤ next hi es
  leaf_next lo hi [] h p = h
  leaf_next lo hi (e ∷ r) h p = p

-- index blocks
module _ {X : Type 0} (W V : ℕ → ℕ → X → Type 0) where
  seg_next : (m hi : ℕ) (r : List (ℕ × X)) → Seg ◌≡◌ W m hi r → m ≡ next hi r
  seg_next m hi [] p = p
  seg_next m hi (e ∷ r) p = p.0

  index_to : ((k m : ℕ) (x : X) → W k m x → (k < m) × V k m x) → (lo hi : ℕ) (es : List (ℕ × X)) → Seg ◌≡◌ W lo hi es → Ascends V hi es
  index_to h lo hi [] p = tt
  index_to h lo hi (e ∷ r) p =
      let q = h e.0 (next hi r) e.1 (subst (λ (m : ℕ). W e.0 m e.1) (seg_next p.1.0 hi r p.1.2) p.1.1) in
      (q.0, q.1, index_to h p.1.0 hi r p.1.2)

  index_from : ((k m : ℕ) (x : X) → k < m → V k m x → W k m x) → (lo hi : ℕ) (es : List (ℕ × X)) → lo ≡ next hi es → Ascends V hi es → Seg ◌≡◌ W lo hi es
  index_from h lo hi [] e p = e
  index_from h lo hi (x ∷ r) e p = (e, (next hi r, h _ _ _ p.0 p.1, index_from h (next hi r) hi r refl p.2))

  -- not empty, so the bounds are apart
  seg_lt : ((k m : ℕ) (x : X) → W k m x → k < m) → (lo hi : ℕ) (es : List (ℕ × X)) → 0 < length es → Seg ◌≡◌ W lo hi es → lo < hi
  seg_lt h lo hi [] n p = absurd (not-suc-le-zero n)
  seg_lt h lo hi (e ∷ []) n p = omega (arith, p.0, h _ _ _ p.1.1, p.1.2)
  seg_lt h lo hi (e ∷ d ∷ r) n p = omega (arith, p.0, h _ _ _ p.1.1, seg_lt h p.1.0 hi (d ∷ r) (omega arith) p.1.2)

asc_lt : {P : Type 0} (lo hi : ℕ) (es : List (ℕ × P)) → 0 < length es → Asc lo hi es → lo < hi
asc_lt lo hi [] n p = absurd (not-suc-le-zero n)
asc_lt lo hi (e ∷ []) n p = omega (arith, p.0, p.1.1, p.1.2)
asc_lt lo hi (e ∷ d ∷ r) n p = omega (arith, p.0, p.1.1, asc_lt p.1.0 hi (d ∷ r) (omega arith) p.1.2)

start_of : {X : Type 0} (l lo hi : ℕ) (es : List (ℕ × X)) → Start (suc l) lo es → lo ≡ next hi es
start_of l lo hi [] p = absurd p
start_of l lo hi (e ∷ r) p = p

start_to : {X : Type 0} (W : ℕ → ℕ → X → Type 0) (l lo hi : ℕ) (es : List (ℕ × X)) → 0 < length es → Seg ◌≡◌ W lo hi es → Start (suc l) lo es
start_to W l lo hi [] n p = absurd (not-suc-le-zero n)
start_to W l lo hi (e ∷ r) n p = p.0

module _ (M P : Type 0) where
  pub cell_lt : (l k m : ℕ) (t : Tree M P l) → Cell M P (suc l) k m t → k < m
  cell_lt zero k m t p = asc_lt k m t.1 (omega arith) p.0
  cell_lt (suc l) k m t p = seg_lt (Cell M P (suc l)) (Cell M P (suc l)) (cell_lt l) k m t.1 (omega arith) p.0

  child_to : (l k m : ℕ) (t : Tree M P l) → Cell M P (suc l) k m t → Child M P (suc l) k m t
  child_to zero k m t p = (leaf_start k m t.1 p.0, leaf_to k m t.1 p.0, p.1, p.2)
  child_to (suc l) k m t p = (
    start_to (Cell M P (suc l)) l k m t.1 (omega arith) p.0,
    index_to (Cell M P (suc l)) (Child M P (suc l)) (λ i j x q. (cell_lt l i j x q, child_to l i j x q)) k m t.1 p.0,
    p.1,
    p.2,
  )

  child_from : (l k m : ℕ) (t : Tree M P l) → k < m → Child M P (suc l) k m t → Cell M P (suc l) k m t
  child_from zero k m t h p = (leaf_from k m t.1 (leaf_next k m t.1 (omega arith) p.0) p.1, p.2, p.3)
  child_from (suc l) k m t h p =
      (index_from (Cell M P (suc l)) (Child M P (suc l)) (child_from l) k m t.1 (start_of l k m t.1 p.0) p.1, p.2, p.3)

pub same_rule : (M P : Type 0) → SameRule M P
same_rule M P zero t = (
  (λ w. (leaf_start 0 10000 t.1 w.0, leaf_to 0 10000 t.1 w.0, w.1, w.2)),
  (λ w. (leaf_from 0 10000 t.1 (leaf_next 0 10000 t.1 (omega arith) w.0) w.1, w.2, w.3)),
)
same_rule M P (suc l) t = (
  (λ w. (
    start_to (Cell M P (suc l)) l 0 10000 t.1 (omega arith) w.0,
    index_to (Cell M P (suc l)) (Child M P (suc l)) (λ i j x q. (cell_lt M P l i j x q, child_to M P l i j x q)) 0 10000 t.1 w.0,
    w.1,
    w.2,
  )),
  (λ w. (index_from (Cell M P (suc l)) (Child M P (suc l)) (child_from M P l) 0 10000 t.1 (start_of l 0 10000 t.1 w.0) w.1, w.2, w.3)),
)
