-- Remove on numbers is remove, with the numbers of the grant forgotten.
use Rattle.std.proofs.Common.{◌≡◌, ℕ, zero, suc, ◌+◌, ◌-◌, ◌*◌, ◌<◌, ◌≤◌, Bool, true, false, cond, eqb, List, [], ◌∷◌, ◌++◌, length, get_or, take, drop, Some, None, Option, sym, refl, ap, ◌∙◌, subst, ap₂, ⊎_elim, append-nil, arith}
use Rattle.std.proofs.lemmas.Bool.{eq-eqb, ne_eqb, lt-ltb, le-ltb, cases_eq, cases_lt, cond-true}
use Rattle.tree.specs.Node.{first, at, Every, map_e, touch, ready_right, ready_left}
use Rattle.tree.specs.Tree.{Pay, Tree, Gap, Cell, Span, rem_e}
use Rattle.tree.specs.Stored.{same}
use Rattle.tree.proofs.Over.{map-append, map_take, map_drop, map_length, map_first, map_del}
use Rattle.tree.proofs.Kept.{every_append, every_take, every_drop}
use Rattle.tree.proofs.Segs.{seg_join, seg_le}
use Rattle.tree.proofs.Puts.{gap_trans, gap_le, span_cut}
use Rattle.tree.proofs.Removes.{cell_le}
use Rattle.tree.proofs.Steps.{Old, new_of, old_of, over_old, map_old}
use Rattle.edit.specs.Plan.{placed}
use Rattle.edit.specs.Remove.{short, work_r, parts_r, work_l, parts_l, right_n, shrink_n, rem_n, Removes}

abbrev O : Type 0
O = Option ℕ

one : {Y : Type 0} (x z : Y) → x ≡ z → x ∷ [] ≡ z ∷ []
one {Y} x z p = ap (λ (x : Y). x ∷ []) p

pair : {Y : Type 0} (x y z w : Y) → x ≡ z → y ≡ w → x ∷ y ∷ [] ≡ z ∷ w ∷ []
pair {Y} x y z w p q = ap₂ (λ (x y : Y). x ∷ y ∷ []) p q

module _ (fresh : ℕ → Bool) (s : ℕ) where
  abbrev G : (l : ℕ) → Pay ℕ ℕ l → Pay O ℕ l
  G = new_of ℕ fresh

  abbrev F : (l : ℕ) → Pay ℕ ℕ l → Pay O ℕ l
  F = old_of ℕ fresh

  marked : (l k b : ℕ) → fresh b ≡ true → (us : List (ℕ × Pay ℕ ℕ l)) (vs : List (ℕ × Pay O ℕ l)) → map_e (G l) us ≡ vs → ◌≡◌ {A = ℕ × Tree O ℕ l} (k, G (suc l) (b, us)) (k, (None, vs))
  marked l k b fb us vs h = ap₂ (λ (m : O) (z : List (ℕ × Pay O ℕ l)). (k, (m, z))) (cond-true (fresh b) None (Some b) fb) h

  abbrev Up : (l : ℕ) → (ℕ × Tree ℕ ℕ l) → (ℕ × Tree O ℕ l)
  Up l e = (e.0, F (suc l) e.1)

  module _ (l x y : ℕ) (fx : fresh x ≡ true) (fy : fresh y ≡ true) (e d : ℕ × Tree ℕ ℕ l) (oe : Old ℕ fresh (suc l) e.1) (od : Old ℕ fresh (suc l) d.1) (us : List (ℕ × Pay ℕ ℕ l)) where
    abbrev g : List (ℕ × Pay O ℕ l) → List (ℕ × Pay O ℕ l)
    g = rem_e O ℕ None s l

    abbrev xs : List (ℕ × Pay ℕ ℕ l)
    xs = e.1.1

    abbrev ys : List (ℕ × Pay ℕ ℕ l)
    ys = d.1.1

    right_is : s < d.0 → ((length ys ≡ 7 → ⊥) → s < first (drop 1 ys)) → map_e (G l) us ≡ g (map_e (F l) (work_r xs ys)) → map_e (G (suc l)) (placed x y (parts_r e.0 xs ys us) ++ cond (short xs) [] (d ∷ [])) ≡ at s (touch None g) (ready_right None (Up l e) (Up l d))
    right_is v w =
        ⊎_elim
        (λ m. ⊎_elim
        (λ o. rw (map_length (F l) xs, map_length (F l) ys, eq-eqb (length xs) 7 m, eq-eqb (length ys) 7 o, ← map-append (F l) xs ys) (λ p. one _ _ (marked l e.0 x fx us _ p)))
        (λ o. rw (map_length (F l) xs, map_length (F l) ys, eq-eqb (length xs) 7 m, ne_eqb (length ys) 7 o, ← map_drop (F l) 1 ys, ← map_take (F l) 1 ys, ← map-append (F l) xs (take 1 ys), map_first (F l) (drop 1 ys), lt-ltb s (first (drop 1 ys)) (w o))
        (λ p. pair _ _ _ _ (marked l e.0 x fx us _ p) (marked l _ y fy (drop 1 ys) _ (map_old ℕ fresh l (drop 1 ys) (every_drop (Old ℕ fresh l) 1 ys od.1)))))
        (cases_eq (length ys) 7))
        (λ m. rw (map_length (F l) xs, ne_eqb (length xs) 7 m, lt-ltb s d.0 v)
        (λ p. pair _ _ _ _ (marked l e.0 x fx us _ p) (ap (λ (z : Tree O ℕ l). (d.0, z)) (over_old ℕ fresh (suc l) d.1 od))))
        (cases_eq (length xs) 7)

    left_is : d.0 ≤ s → ((length xs ≡ 7 → ⊥) → first (drop (length xs - 1) xs) ≤ s) → map_e (G l) us ≡ g (map_e (F l) (work_l xs ys)) → map_e (G (suc l)) (cond (short ys) [] (e ∷ []) ++ placed x y (parts_l e.0 d.0 xs ys us)) ≡ at s (touch None g) (ready_left None (Up l e) (Up l d))
    left_is v w =
        ⊎_elim
        (λ m. ⊎_elim
        (λ o. rw (map_length (F l) xs, map_length (F l) ys, eq-eqb (length ys) 7 m, eq-eqb (length xs) 7 o, ← map-append (F l) xs ys) (λ p. one _ _ (marked l e.0 x fx us _ p)))
        (λ o. let n = length xs - 1 in
        rw (map_length (F l) xs, map_length (F l) ys, eq-eqb (length ys) 7 m, ne_eqb (length xs) 7 o, ← map_drop (F l) n xs, ← map_take (F l) n xs, ← map-append (F l) (drop n xs) ys, map_first (F l) (drop n xs), le-ltb s (first (drop n xs)) (w o))
        (λ p. pair _ _ _ _ (marked l e.0 x fx (take n xs) _ (map_old ℕ fresh l (take n xs) (every_take (Old ℕ fresh l) n xs oe.1))) (marked l _ y fy us _ p)))
        (cases_eq (length xs) 7))
        (λ m. rw (map_length (F l) ys, ne_eqb (length ys) 7 m, le-ltb s d.0 v)
        (λ p. pair _ _ _ _ (ap (λ (z : Tree O ℕ l). (e.0, z)) (over_old ℕ fresh (suc l) e.1 oe)) (marked l d.0 x fx us _ p)))
        (cases_eq (length ys) 7)

-- where the work goes on
every_work : {X : Type 0} (P : X → Type 0) (xs ys : List (ℕ × X)) → Every P xs → Every P ys → Every P (work_r xs ys) × Every P (work_l xs ys)
every_work {X} P xs ys p q = (go (eqb (length xs) 7) (eqb (length ys) 7), ho (eqb (length ys) 7) (eqb (length xs) 7))
  where
    go : (t u : Bool) → Every P (cond {A = List (ℕ × X)} t (cond u (xs ++ ys) (xs ++ take 1 ys)) xs)
    go true true = every_append P xs ys p q
    go true false = every_append P xs (take 1 ys) p (every_take P 1 ys q)
    go false u = p

    ho : (t u : Bool) → Every P (cond {A = List (ℕ × X)} t (cond u (xs ++ ys) (drop (length xs - 1) xs ++ ys)) ys)
    ho true true = every_append P xs ys p q
    ho true false = every_append P (drop (length xs - 1) xs) ys (every_drop P (length xs - 1) xs p) q
    ho false u = q

module _ (l k j hi : ℕ) (xs ys : List (ℕ × Pay ℕ ℕ l)) (p : Span ℕ ℕ l k j xs) (q : Span ℕ ℕ l j hi ys) (nx : 7 ≤ length xs) (ny : 7 ≤ length ys) where
  abbrev J : (lo mid hi : ℕ) (us vs : List (ℕ × Pay ℕ ℕ l)) → Span ℕ ℕ l lo mid us → Span ℕ ℕ l mid hi vs → Span ℕ ℕ l lo hi (us ++ vs)
  J = seg_join (Gap l) (Cell ℕ ℕ l) (gap_trans l)

  le : (lo hi : ℕ) (us : List (ℕ × Pay ℕ ℕ l)) → Span ℕ ℕ l lo hi us → lo ≤ hi
  le = seg_le (Gap l) (Cell ℕ ℕ l) (gap_le l) (cell_le ℕ ℕ l)

  span_right : (lo : ℕ) × (m : ℕ) × Span ℕ ℕ l lo m (work_r xs ys)
  span_right = go (eqb (length xs) 7) (eqb (length ys) 7)
    where
      go : (t u : Bool) → (lo : ℕ) × (m : ℕ) × Span ℕ ℕ l lo m (cond t (cond u (xs ++ ys) (xs ++ take 1 ys)) xs)
      go true true = (k, hi, J k j hi xs ys p q)
      go true false = (k, first (drop 1 ys), J k j (first (drop 1 ys)) xs (take 1 ys) p (span_cut ℕ ℕ l j hi 1 ys (omega arith) q).0)
      go false u = (k, j, p)

  span_left : (lo : ℕ) × (m : ℕ) × Span ℕ ℕ l lo m (work_l xs ys)
  span_left = go (eqb (length ys) 7) (eqb (length xs) 7)
    where
      go : (t u : Bool) → (lo : ℕ) × (m : ℕ) × Span ℕ ℕ l lo m (cond t (cond u (xs ++ ys) (drop (length xs - 1) xs ++ ys)) ys)
      go true true = (k, hi, J k j hi xs ys p q)
      go true false = let n = length xs - 1 in (first (drop n xs), hi, J (first (drop n xs)) j hi (drop n xs) ys (span_cut ℕ ℕ l k j n xs (omega arith) p).1 q)
      go false u = (j, hi, q)

  pub sep_right : (s : ℕ) → s < j → s < first (drop 1 ys)
  sep_right s h = omega (arith, le j (first (drop 1 ys)) (take 1 ys) (span_cut ℕ ℕ l j hi 1 ys (omega arith) q).0)

  pub sep_left : (s : ℕ) → j ≤ s → first (drop (length xs - 1) xs) ≤ s
  sep_left s h = let n = length xs - 1 in omega (arith, le (first (drop n xs)) j (drop n xs) (span_cut ℕ ℕ l k j n xs (omega arith) p).1)

pub removes : Removes
removes fresh gs s zero lo hi es p f old = map_del (same {X = ℕ}) s es
removes fresh gs s (suc l) lo hi [] p f old = refl
removes fresh gs s (suc l) lo hi (e ∷ r) p f old = go (removes fresh gs s l) lo e r p old
  where
    x : ℕ
    x = get_or gs (2 * l) 0

    go : ((lo hi : ℕ) (es : List (ℕ × Pay ℕ ℕ l)) → Span ℕ ℕ l lo hi es → ((j : ℕ) → j < 2 * l → fresh (get_or gs j 0) ≡ true) → Every (Old ℕ fresh l) es → map_e (new_of ℕ fresh l) (rem_n gs s l es) ≡ rem_e O ℕ None s l (map_e (old_of ℕ fresh l) es))
        → (lo : ℕ) (e : ℕ × Tree ℕ ℕ l) (r : List (ℕ × Tree ℕ ℕ l)) → Span ℕ ℕ (suc l) lo hi (e ∷ r) → Every (Old ℕ fresh (suc l)) (e ∷ r) → map_e (new_of ℕ fresh (suc l)) (shrink_n gs s l (rem_n gs s l) (e ∷ r)) ≡ rem_e O ℕ None s (suc l) (map_e (old_of ℕ fresh (suc l)) (e ∷ r))
    go ih lo e [] p old = one _ _ (marked fresh s l e.0 (get_or gs (2 * l) 0) (f (2 * l) (omega arith)) (rem_n gs s l e.1.1) _ (ih e.0 p.1.0 e.1.1 p.1.1.0 (λ j h. f j (omega arith)) old.0.1))
    go ih lo e (d ∷ []) p old =
        let px = p.1.1 in
        let py = p.1.2.1.1 in
        let eq = p.1.2.0 in
        let sx : Span ℕ ℕ l e.0 d.0 e.1.1 = subst (λ (z : ℕ). Span ℕ ℕ l e.0 z e.1.1) eq px.0 in
        let R = span_right l e.0 d.0 p.1.2.1.0 e.1.1 d.1.1 sx py.0 px.1 py.1 in
        let L = span_left l e.0 d.0 p.1.2.1.0 e.1.1 d.1.1 sx py.0 px.1 py.1 in
        let W = every_work (Old ℕ fresh l) e.1.1 d.1.1 old.0.1 old.1.0.1 in
        let f' : (j : ℕ) → j < 2 * l → fresh (get_or gs j 0) ≡ true = λ j h. f j (omega arith) in
        let FX = f (2 * l) (omega arith) in
        let FY = f (2 * l + 1) (omega arith) in
        let mp = map_e (new_of ℕ fresh (suc l)) in
        ⊎_elim
        (λ v. rw (lt-ltb s d.0 v)
        (ap mp (append-nil (right_n gs s l (rem_n gs s l) e d))
        ∙ right_is fresh s l (get_or gs (2 * l) 0) (get_or gs (2 * l + 1) 0) FX FY e d old.0 old.1.0 (rem_n gs s l (work_r e.1.1 d.1.1)) v (λ o. sep_right l e.0 d.0 p.1.2.1.0 e.1.1 d.1.1 sx py.0 px.1 py.1 s v) (ih R.0 R.1 (work_r e.1.1 d.1.1) R.2 f' W.0)
        ∙ sym (append-nil _)))
        (λ v. rw (le-ltb s d.0 v)
        (left_is fresh s l (get_or gs (2 * l) 0) (get_or gs (2 * l + 1) 0) FX FY e d old.0 old.1.0 (rem_n gs s l (work_l e.1.1 d.1.1)) v (λ o. sep_left l e.0 d.0 p.1.2.1.0 e.1.1 d.1.1 sx py.0 px.1 py.1 s v) (ih L.0 L.1 (work_l e.1.1 d.1.1) L.2 f' W.1)))
        (cases_lt s d.0)
    go ih lo e (d ∷ c ∷ r) p old =
        let px = p.1.1 in
        let py = p.1.2.1.1 in
        let eq = p.1.2.0 in
        let sx : Span ℕ ℕ l e.0 d.0 e.1.1 = subst (λ (z : ℕ). Span ℕ ℕ l e.0 z e.1.1) eq px.0 in
        let R = span_right l e.0 d.0 p.1.2.1.0 e.1.1 d.1.1 sx py.0 px.1 py.1 in
        let W = every_work (Old ℕ fresh l) e.1.1 d.1.1 old.0.1 old.1.0.1 in
        let f' : (j : ℕ) → j < 2 * l → fresh (get_or gs j 0) ≡ true = λ j h. f j (omega arith) in
        let FX = f (2 * l) (omega arith) in
        let FY = f (2 * l + 1) (omega arith) in
        ⊎_elim
        (λ v. rw (lt-ltb s d.0 v)
        (map-append (new_of ℕ fresh (suc l)) (right_n gs s l (rem_n gs s l) e d) (c ∷ r)
        ∙ ap₂ (λ (a b : List (ℕ × Tree O ℕ l)). a ++ b)
        (right_is fresh s l (get_or gs (2 * l) 0) (get_or gs (2 * l + 1) 0) FX FY e d old.0 old.1.0 (rem_n gs s l (work_r e.1.1 d.1.1)) v (λ o. sep_right l e.0 d.0 p.1.2.1.0 e.1.1 d.1.1 sx py.0 px.1 py.1 s v) (ih R.0 R.1 (work_r e.1.1 d.1.1) R.2 f' W.0))
        (map_old ℕ fresh (suc l) (c ∷ r) old.1.1)))
        (λ v. rw (le-ltb s d.0 v)
        (ap₂ (λ (a : Tree O ℕ l) (b : List (ℕ × Tree O ℕ l)). (e.0, a) ∷ b) (over_old ℕ fresh (suc l) e.1 old.0) (go ih p.1.0 d (c ∷ r) p.1.2 old.1)))
        (cases_lt s d.0)
