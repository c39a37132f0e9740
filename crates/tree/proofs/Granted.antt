-- Numbers from a grant: the new blocks have them, each one at most once.
use Rattle.std.proofs.Common.{◌≡◌, ℕ, zero, suc, ◌+◌, ◌*◌, ◌<◌, ◌≤◌, Bool, true, false, cond, eqb, List, [], ◌∷◌, ◌++◌, map, length, get_or, Some, None, Option, sym, refl, ap, ◌∙◌, subst, ap₂, inl, inr, arith}
use Rattle.std.proofs.lemmas.List.{map-append}
use Rattle.std.proofs.lemmas.Bool.{cond_both, eq-eqb, or_left, or_right}
use Rattle.tree.specs.Node.{flat, Every, map_e, parts}
use Rattle.tree.specs.Tree.{Pay, Tree, Root, Marks, blocks, All, over, over_root, put_root, only, lower, rem_root, rem_e}
use Rattle.tree.specs.Stored.{Numbers, forget, same}
use Rattle.tree.specs.Numbered.{number_or, onward, beside, numbers, numbered, Known}
use Rattle.tree.specs.Apart.{taking, along, collect, its_place, places, In, Distinct}
use Rattle.tree.specs.Granted.{inside, sift, taken, FromGrant}
use Rattle.tree.proofs.Kept.{kept, rem_kept}
use Rattle.tree.proofs.Numbering.{erased, onward_le}
use Rattle.tree.proofs.Apart.{below, places_apart}

-- Lists of distinct numbers.
sift_append : (f : ℕ → Bool) (xs ys : List ℕ) → sift f (xs ++ ys) ≡ sift f xs ++ sift f ys
sift_append f [] ys = refl
sift_append f (x ∷ xs) ys = go (sift_append f xs ys) (f x)
  where
    go : sift f (xs ++ ys) ≡ sift f xs ++ sift f ys → (b : Bool) → cond b (x ∷ sift f (xs ++ ys)) (sift f (xs ++ ys)) ≡ cond b (x ∷ sift f xs) (sift f xs) ++ sift f ys
    go ih true = ap (λ (z : List ℕ). x ∷ z) ih
    go ih false = ih

inside_at : (xs : List ℕ) (i : ℕ) → i < length xs → inside xs (get_or xs i 0) ≡ true
inside_at [] i h = absurd (omega arith)
inside_at (x ∷ xs) zero h = or_left (eqb x x) (inside xs x) (eq-eqb x x refl)
inside_at (x ∷ xs) (suc i) h = or_right (eqb x (get_or xs i 0)) (inside xs (get_or xs i 0)) (inside_at xs i (omega arith))

pub in_at : (xs : List ℕ) (i : ℕ) → i < length xs → In (get_or xs i 0) xs
in_at [] i h = absurd (omega arith)
in_at (x ∷ xs) zero h = inl refl
in_at (x ∷ xs) (suc i) h = inr (in_at xs i (omega arith))

pub one_place : (xs : List ℕ) (i j : ℕ) → Distinct xs → i < length xs → j < length xs → get_or xs i 0 ≡ get_or xs j 0 → i ≡ j
one_place [] i j d h k e = absurd (omega arith)
one_place (x ∷ xs) zero zero d h k e = refl
one_place (x ∷ xs) zero (suc j) d h k e = absurd (d.0 (subst (λ (y : ℕ). In y xs) (sym e) (in_at xs j (omega arith))))
one_place (x ∷ xs) (suc i) zero d h k e = absurd (d.0 (subst (λ (y : ℕ). In y xs) e (in_at xs i (omega arith))))
one_place (x ∷ xs) (suc i) (suc j) d h k e = ap suc (one_place xs i j d.1 (omega arith) (omega arith) e)

in_map : (f : ℕ → ℕ) (y : ℕ) (xs : List ℕ) → In y (map f xs) → ((x : ℕ) × In x xs × (y ≡ f x))
in_map f y [] h = absurd h
in_map f y (x ∷ xs) (inl e) = (x, inl refl, e)
in_map f y (x ∷ xs) (inr h) = let q = in_map f y xs h in (q.0, inr q.1, q.2)

distinct_map : (f : ℕ → ℕ) (xs : List ℕ) → ((x y : ℕ) → In x xs → In y xs → f x ≡ f y → x ≡ y) → Distinct xs → Distinct (map f xs)
distinct_map f [] h d = tt
distinct_map f (x ∷ xs) h d = (
  (λ u. let q = in_map f (f x) xs u in d.0 (subst (λ (y : ℕ). In y xs) (sym (h x q.0 (inl refl) (inr q.1) q.2)) q.1)),
  distinct_map f xs (λ a b u v e. h a b (inr u) (inr v) e) d.1,
)

-- The fresh numbers of a numbered tree are those at the places of its new blocks, in this order.
module _ (P : Type 0) (pick : ℕ → ℕ) (fresh : ℕ → Bool) where
  abbrev Old : (l : ℕ) → Tree (Option ℕ) P l → Type 0
  Old l t = Known (λ b. fresh b ≡ false) t.0

  abbrev marks : (l : ℕ) → List (ℕ × Pay ℕ P l) → List ℕ
  marks l es = flat (λ k x. Marks ℕ P l x) es

  abbrev ps : (l : ℕ) → List (ℕ × Pay (Option ℕ) P l) → List ℕ
  ps l es = collect P ℕ (its_place P) l es

  -- one block, before what is below it and beside it
  one : (i : ℕ) (m : Option ℕ) (xs us : List ℕ) → fresh (pick i) ≡ true → Known (λ b. fresh b ≡ false) m → sift fresh xs ≡ map pick us → sift fresh (number_or (pick i) m ∷ xs) ≡ map pick (taking m i us)
  one i None xs us f k e = ap (λ b. cond b (pick i ∷ sift fresh xs) (sift fresh xs)) f ∙ ap (λ (z : List ℕ). pick i ∷ z) e
  one i (Some b) xs us f k e = ap (λ c. cond c (b ∷ sift fresh xs) (sift fresh xs)) k ∙ e

  fresh_marks : (l : ℕ) (es : List (ℕ × Pay (Option ℕ) P l)) → ((i : ℕ) → i ≤ 2 * l → fresh (pick i) ≡ true) → Every (All (Option ℕ) P Old l) es → sift fresh (marks l (numbers P pick l es)) ≡ map pick (ps l es)
  fresh_marks zero es h a = leaf es
    where
      leaf : (es : List (ℕ × P)) → sift fresh (marks zero es) ≡ []
      leaf [] = refl
      leaf (e ∷ r) = leaf r
  fresh_marks (suc l) es h a = go (λ es. fresh_marks l es (λ i q. h i (omega arith))) (2 * l) (omega arith) es a
    where
      go : ((es : List (ℕ × Pay (Option ℕ) P l)) → Every (All (Option ℕ) P Old l) es → sift fresh (marks l (numbers P pick l es)) ≡ map pick (ps l es))
          → (i : ℕ) → i ≤ 2 * l + 1 → (es : List (ℕ × Tree (Option ℕ) P l)) → Every (All (Option ℕ) P Old (suc l)) es → sift fresh (marks (suc l) (beside pick (numbers P pick l) i (2 * l + 1) es)) ≡ map pick (along (its_place P l) (ps l) i (2 * l + 1) es)
      go ih i b [] a = refl
      go ih i b (e ∷ r) a =
          let j : ℕ = onward e.1.0 i (2 * l + 1) in
          let X : List ℕ = marks l (numbers P pick l e.1.1) in
          let R : List ℕ = marks (suc l) (beside pick (numbers P pick l) j (2 * l + 1) r) in
          sift_append fresh (number_or (pick i) e.1.0 ∷ X) R
          ∙ ap₂ (λ (y z : List ℕ). y ++ z) (one i e.1.0 X (ps l e.1.1) (h i (omega arith)) a.0.0 (ih e.1.1 a.0.1)) (go ih j (onward_le e.1.0 i (2 * l + 1) (2 * l + 1) b (omega arith)) r a.1)
          ∙ sym (map-append pick (taking e.1.0 i (ps l e.1.1)) (along (its_place P l) (ps l) j (2 * l + 1) r))

  fresh_places : (r : Root (Option ℕ) P) → ((i : ℕ) → i ≤ 2 * r.0 → fresh (pick i) ≡ true) → All (Option ℕ) P Old (suc r.0) r.1
      → sift fresh (blocks ℕ P r.0 (numbered P pick r).1) ≡ map pick (places P r)
  fresh_places r h a =
      one (2 * r.0) r.1.0 (marks r.0 (numbers P pick r.0 r.1.1)) (ps r.0 r.1.1) (h (2 * r.0) (omega arith)) a.0 (fresh_marks r.0 r.1.1 h a.1)

-- Places go up to twice the root's level.
place_le : (P : Type 0) (r : Root (Option ℕ) P) (p : ℕ) → In p (places P r) → p ≤ 2 * r.0
place_le P (l, (None, es)) p (inl e) = omega arith
place_le P (l, (None, es)) p (inr h) = let q = below P l es p h in omega arith
place_le P (l, (Some b, es)) p h = let q = below P l es p h in omega arith

-- A tree that has no fresh number, before and after.
module _ (P : Type 0) (fresh : ℕ → Bool) where
  known_over : (l : ℕ) (p : Pay ℕ P l) → Numbers P (λ b. fresh b ≡ false) l p → All (Option ℕ) P (λ i u. Known (λ b. fresh b ≡ false) u.0) l (over Some same l p)
  known_over zero p h = tt
  known_over (suc l) t h = (h.0, go (known_over l) t.1 h.1)
    where
      go : ((p : Pay ℕ P l) → Numbers P (λ b. fresh b ≡ false) l p → All (Option ℕ) P (λ i u. Known (λ b. fresh b ≡ false) u.0) l (over Some same l p))
          → (es : List (ℕ × Pay ℕ P l)) → Every (Numbers P (λ b. fresh b ≡ false) l) es → Every (All (Option ℕ) P (λ i u. Known (λ b. fresh b ≡ false) u.0) l) (map_e (over Some same l) es)
      go ih [] h = tt
      go ih (e ∷ r) h = (ih e.1 h.0, go ih r h.1)

put_level : (P : Type 0) (s : ℕ) (a : P) (r : Root (Option ℕ) P) → (put_root (Option ℕ) P None s a r).0 ≤ suc r.0
put_level P s a r = cond_both (eqb (length r.1.1) 15) (suc r.0, (None, parts None 7 0 r.1.1)) r (λ (q : Root (Option ℕ) P). q.0 ≤ suc r.0) (λ e. omega arith) (λ e. omega arith)

rem_level : (P : Type 0) (s : ℕ) (r : Root (Option ℕ) P) → (rem_root (Option ℕ) P None s r).0 ≤ r.0
rem_level P s r = go r.0 (None, rem_e (Option ℕ) P None s r.0 r.1.1)
  where
    only_le : (l : ℕ) (m : Option ℕ) (es : List (ℕ × Tree (Option ℕ) P l)) → (only (Option ℕ) P l m es).0 ≤ suc l
    only_le l m [] = omega arith
    only_le l m (e ∷ []) = omega arith
    only_le l m (e ∷ d ∷ r) = omega arith

    go : (l : ℕ) (t : Tree (Option ℕ) P l) → (lower (Option ℕ) P l t).0 ≤ l
    go zero t = omega arith
    go (suc l) t = only_le l t.0 t.1

-- a tree whose new blocks have places apart, up to the grant's end
numbered_from : (P : Type 0) (grant : List ℕ) (r : Root (Option ℕ) P) → 2 * r.0 + 1 ≤ length grant → Distinct grant → Distinct (places P r)
    → All (Option ℕ) P (λ i u. Known (λ b. inside grant b ≡ false) u.0) (suc r.0) r.1
    → (over_root (forget (inside grant)) same (numbered P (λ i. get_or grant i 0) r) ≡ r) × Distinct (taken P grant (numbered P (λ i. get_or grant i 0) r))
numbered_from P grant r n d p k =
    let pick : ℕ → ℕ = λ i. get_or grant i 0 in
    let f : (i : ℕ) → i ≤ 2 * r.0 → inside grant (pick i) ≡ true = λ i h. inside_at grant i (omega arith) in (
      erased P pick (inside grant) r f k,
      subst (λ (z : List ℕ). Distinct z) (sym (fresh_places P pick (inside grant) r f k))
          (distinct_map pick (places P r) (λ x y u v e. let a = place_le P r x u in let b = place_le P r y v in one_place grant x y d (omega arith) (omega arith) e) p),
    )

pub from_grant : (P : Type 0) → FromGrant P
from_grant P grant s t g =
    let O = Option ℕ in
    let r : Root O P = over_root Some same t in
    let Q : (l : ℕ) → Tree O P l → Type 0 = λ l u. Known (λ b. inside grant b ≡ false) u.0 in
    let old : All O P Q (suc t.0) r.1 = known_over P (inside grant) (suc t.0) t.1 g.fresh in (
      (λ a. let h = put_level P s a r in numbered_from P grant (put_root O P None s a r) (omega (arith, g.enough, h)) g.apart ((places_apart P s t).0 a) (kept O P None Q (λ l es. tt) s a r old).0),
      (let h = rem_level P s r in numbered_from P grant (rem_root O P None s r) (omega (arith, g.enough, h)) g.apart (places_apart P s t).1 (rem_kept O P None Q (λ l es. tt) s r old)),
    )
