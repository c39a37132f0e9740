-- The numbers of new blocks.
use Rattle.std.proofs.Common.{◌≡◌, ℕ, zero, suc, ◌+◌, ◌*◌, ◌≤◌, Bool, true, false, cond, List, [], ◌∷◌, Some, None, Option, refl, ap, ap₂, arith}
use Rattle.tree.specs.Node.{map_e, Every}
use Rattle.tree.specs.Tree.{Pay, Tree, Root, All, over, over_root}
use Rattle.tree.specs.Stored.{forget, same}
use Rattle.tree.specs.Numbered.{number_or, onward, beside, numbers, Known, bare, ShapeKept, NumbersNatural, NumbersFrom, Erased}

-- the shape
module _ (P : Type 0) (pick : ℕ → ℕ) where
  bare_numbers : (l : ℕ) (es : List (ℕ × Pay (Option ℕ) P l)) → map_e (over {M = ℕ} bare same l) (numbers P pick l es) ≡ map_e (over {M = Option ℕ} bare same l) es
  bare_numbers zero es = refl
  bare_numbers (suc l) es = go (bare_numbers l) (2 * l) es
    where
      go : ((es : List (ℕ × Pay (Option ℕ) P l)) → map_e (over {M = ℕ} bare same l) (numbers P pick l es) ≡ map_e (over {M = Option ℕ} bare same l) es)
          → (i : ℕ) (es : List (ℕ × Tree (Option ℕ) P l)) → map_e (over {M = ℕ} bare same (suc l)) (beside pick (numbers P pick l) i (2 * l + 1) es) ≡ map_e (over {M = Option ℕ} bare same (suc l)) es
      go ih i [] = refl
      go ih i (e ∷ r) = ap₂ (λ (x : List (ℕ × Pay (Unit {0}) P l)) (y : List (ℕ × Tree (Unit {0}) P l)). (e.0, (tt, x)) ∷ y) (ih e.1.1) (go ih (onward e.1.0 i (2 * l + 1)) r)

pub shape_kept : (P : Type 0) → ShapeKept P
shape_kept P pick r = ap (λ (x : List (ℕ × Pay (Unit {0}) P r.0)). (r.0, (tt, x))) (bare_numbers P pick r.0 r.1.1)

-- naturality
module _ (P P' : Type 0) (pick : ℕ → ℕ) (f : P → P') where
  natural_numbers : (l : ℕ) (es : List (ℕ × Pay (Option ℕ) P l)) → map_e (over {M = ℕ} same f l) (numbers P pick l es) ≡ numbers P' pick l (map_e (over {M = Option ℕ} same f l) es)
  natural_numbers zero es = refl
  natural_numbers (suc l) es = go (natural_numbers l) (2 * l) es
    where
      go : ((es : List (ℕ × Pay (Option ℕ) P l)) → map_e (over {M = ℕ} same f l) (numbers P pick l es) ≡ numbers P' pick l (map_e (over {M = Option ℕ} same f l) es))
          → (i : ℕ) (es : List (ℕ × Tree (Option ℕ) P l)) → map_e (over {M = ℕ} same f (suc l)) (beside pick (numbers P pick l) i (2 * l + 1) es) ≡ beside pick (numbers P' pick l) i (2 * l + 1) (map_e (over {M = Option ℕ} same f (suc l)) es)
      go ih i [] = refl
      go ih i (e ∷ r) = ap₂ (λ (x : List (ℕ × Pay ℕ P' l)) (y : List (ℕ × Tree ℕ P' l)). (e.0, (number_or (pick i) e.1.0, x)) ∷ y) (ih e.1.1) (go ih (onward e.1.0 i (2 * l + 1)) r)

pub numbers_natural : (P P' : Type 0) → NumbersNatural P P'
numbers_natural P P' pick f r = ap (λ (x : List (ℕ × Pay ℕ P' r.0)). (r.0, (number_or (pick (2 * r.0)) r.1.0, x))) (natural_numbers P P' pick f r.0 r.1.1)

-- where they come from
known_or : (N : ℕ → Type 0) (x : ℕ) (m : Option ℕ) → N x → Known N m → N (number_or x m)
known_or N x None a b = a
known_or N x (Some y) a b = b

pub onward_le : (m : Option ℕ) (i j k : ℕ) → i ≤ k → j ≤ k → onward m i j ≤ k
onward_le None i j k a b = b
onward_le (Some x) i j k a b = a

module _ (P : Type 0) (pick : ℕ → ℕ) (N : ℕ → Type 0) where
  abbrev Q : (l : ℕ) → Tree (Option ℕ) P l → Type 0
  Q l t = Known N t.0

  abbrev Q' : (l : ℕ) → Tree ℕ P l → Type 0
  Q' l t = N t.0

  from_numbers : (l : ℕ) (es : List (ℕ × Pay (Option ℕ) P l)) → ((i : ℕ) → i ≤ 2 * l → N (pick i)) → Every (All (Option ℕ) P Q l) es → Every (All ℕ P Q' l) (numbers P pick l es)
  from_numbers zero es h a = leaf es
    where
      leaf : (es : List (ℕ × P)) → Every (All ℕ P Q' zero) es
      leaf [] = tt
      leaf (e ∷ r) = (tt, leaf r)
  from_numbers (suc l) es h a = go (λ es. from_numbers l es (λ i q. h i (omega arith))) (2 * l) (omega arith) es a
    where
      go : ((es : List (ℕ × Pay (Option ℕ) P l)) → Every (All (Option ℕ) P Q l) es → Every (All ℕ P Q' l) (numbers P pick l es))
          → (i : ℕ) → i ≤ 2 * l + 1 → (es : List (ℕ × Tree (Option ℕ) P l)) → Every (All (Option ℕ) P Q (suc l)) es → Every (All ℕ P Q' (suc l)) (beside pick (numbers P pick l) i (2 * l + 1) es)
      go ih i b [] a = tt
      go ih i b (e ∷ r) a = (
        (known_or N (pick i) e.1.0 (h i (omega arith)) a.0.0, ih e.1.1 a.0.1),
        go ih (onward e.1.0 i (2 * l + 1)) (onward_le e.1.0 i (2 * l + 1) (2 * l + 1) b (omega arith)) r a.1,
      )

pub numbers_from : (P : Type 0) → NumbersFrom P
numbers_from P pick N r h a = (known_or N (pick (2 * r.0)) r.1.0 (h (2 * r.0) (omega arith)) a.0, from_numbers P pick N r.0 r.1.1 h a.1)

-- and back
forget_or : (fresh : ℕ → Bool) (x : ℕ) (m : Option ℕ) → fresh x ≡ true → Known (λ b. fresh b ≡ false) m → forget fresh (number_or x m) ≡ m
forget_or fresh x None a b = ap (λ (k : Bool). cond k None (Some x)) a
forget_or fresh x (Some y) a b = ap (λ (k : Bool). cond k None (Some y)) b

module _ (P : Type 0) (pick : ℕ → ℕ) (fresh : ℕ → Bool) where
  abbrev K : (l : ℕ) → Tree (Option ℕ) P l → Type 0
  K l t = Known (λ b. fresh b ≡ false) t.0

  erase_numbers : (l : ℕ) (es : List (ℕ × Pay (Option ℕ) P l)) → ((i : ℕ) → i ≤ 2 * l → fresh (pick i) ≡ true) → Every (All (Option ℕ) P K l) es → map_e (over (forget fresh) same l) (numbers P pick l es) ≡ es
  erase_numbers zero es h a = leaf es
    where
      leaf : (es : List (ℕ × P)) → map_e same es ≡ es
      leaf [] = refl
      leaf (e ∷ r) = ap (λ (z : List (ℕ × P)). e ∷ z) (leaf r)
  erase_numbers (suc l) es h a = go (λ es. erase_numbers l es (λ i q. h i (omega arith))) (2 * l) (omega arith) es a
    where
      go : ((es : List (ℕ × Pay (Option ℕ) P l)) → Every (All (Option ℕ) P K l) es → map_e (over (forget fresh) same l) (numbers P pick l es) ≡ es)
          → (i : ℕ) → i ≤ 2 * l + 1 → (es : List (ℕ × Tree (Option ℕ) P l)) → Every (All (Option ℕ) P K (suc l)) es → map_e (over (forget fresh) same (suc l)) (beside pick (numbers P pick l) i (2 * l + 1) es) ≡ es
      go ih i b [] a = refl
      go ih i b (e ∷ r) a =
          let p : forget fresh (number_or (pick i) e.1.0) ≡ e.1.0 = forget_or fresh (pick i) e.1.0 (h i (omega arith)) a.0.0 in
          let q : map_e (over (forget fresh) same l) (numbers P pick l e.1.1) ≡ e.1.1 = ih e.1.1 a.0.1 in
          let s = go ih (onward e.1.0 i (2 * l + 1)) (onward_le e.1.0 i (2 * l + 1) (2 * l + 1) b (omega arith)) r a.1 in
          λ n. (e.0, (p n, q n)) ∷ s n

pub erased : (P : Type 0) → Erased P
erased P pick fresh r h a =
    let p = forget_or fresh (pick (2 * r.0)) r.1.0 (h (2 * r.0) (omega arith)) a.0 in
    let q = erase_numbers P pick fresh r.0 r.1.1 h a.1 in
    λ n. (r.0, (p n, q n))

-- other marks and values, twice
module _ {M P M' P' M'' P'' : Type 0} (g : M → M') (f : P → P') (g' : M' → M'') (f' : P' → P'') where
  pub over_twice : (l : ℕ) (p : Pay M P l) → over g' f' l (over g f l p) ≡ over (λ m. g' (g m)) (λ x. f' (f x)) l p
  over_twice zero p = refl
  over_twice (suc l) t = ap (λ (x : List (ℕ × Pay M'' P'' l)). (g' (g t.0), x)) (go (over_twice l) t.1)
    where
      go : ((p : Pay M P l) → over g' f' l (over g f l p) ≡ over (λ m. g' (g m)) (λ x. f' (f x)) l p) → (es : List (ℕ × Pay M P l)) → map_e (over g' f' l) (map_e (over g f l) es) ≡ map_e (over (λ m. g' (g m)) (λ x. f' (f x)) l) es
      go ih [] = refl
      go ih (e ∷ r) = ap₂ (λ (x : Pay M'' P'' l) (y : List (ℕ × Pay M'' P'' l)). (e.0, x) ∷ y) (ih e.1) (go ih r)

  pub over_root_twice : (r : Root M P) → over_root g' f' (over_root g f r) ≡ over_root (λ m. g' (g m)) (λ x. f' (f x)) r
  over_root_twice r = ap (λ (t : Tree M'' P'' r.0). (r.0, t)) (over_twice (suc r.0) r.1)
