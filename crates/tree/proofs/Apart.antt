-- At most two blocks of a level are new, side by side, and only one of them has new blocks below it.
use Rattle.std.proofs.Common.{◌≡◌, ℕ, zero, suc, ◌+◌, ◌-◌, ◌*◌, ◌<◌, ◌≤◌, false, cond, eqb, ltb, ◌⊎◌, List, [], ◌∷◌, ◌++◌, length, take, drop, Some, None, Option, sym, refl, ap, ◌∙◌, subst, inl, inr, ⊎_elim, arith, length-drop, length-take}
use Rattle.std.proofs.lemmas.Bool.{cond_both, eq-eqb, ne_eqb, eqb-true, cases_eq}
use Rattle.tree.specs.Node.{ahead, is_nil, at, beside, Every, map_e, Node, parts, opened, touch, kid, fill_right, fill_left, ready_right, ready_left}
use Rattle.tree.specs.Tree.{Pay, Tree, Root, All, over, over_root, put_e, rem_e, put_root, only, lower, rem_root}
use Rattle.tree.specs.Stored.{same, is_new}
use Rattle.tree.specs.Numbered.{onward}
use Rattle.tree.specs.Apart.{taking, along, collect, its_place, its_level, places, often, In, Distinct, TwoEach, TwoALevel, PlacesApart}
use Rattle.tree.proofs.News.{tally_append}
use Rattle.tree.proofs.Kept.{every_append, every_take, every_drop}

abbrev O : Type 0
O = Option ℕ

abbrev IsOld : O → Type 0
IsOld None = ⊥
IsOld (Some b) = Unit {0}

old_new : (m : O) → IsOld m → is_new m ≡ 0
old_new None h = absurd h
old_new (Some b) h = refl

new_one : (m : O) → is_new m ≤ 1
new_one None = omega arith
new_one (Some b) = omega arith

abbrev tops : {X : Type 0} → List (ℕ × Node O X) → ℕ
tops [] = 0
tops (e ∷ r) = is_new e.1.0 + tops r

tops_append : {X : Type 0} (xs ys : List (ℕ × Node O X)) → tops (xs ++ ys) ≡ tops xs + tops ys
tops_append [] ys = omega arith
tops_append (e ∷ r) ys = omega (arith, tops_append r ys)

tops_length : {X : Type 0} (xs : List (ℕ × Node O X)) → tops xs ≤ length xs
tops_length [] = omega arith
tops_length (e ∷ r) = omega (arith, new_one e.1.0, tops_length r)

module _ (P : Type 0) where
  abbrev OldP : (l : ℕ) → Pay O P l → Type 0
  OldP l p = All O P (λ i u. IsOld u.0) l p

  abbrev Olds : (l : ℕ) → List (ℕ × Pay O P l) → Type 0
  Olds l es = Every (OldP l) es

  -- nothing new below
  abbrev Shallow : (l : ℕ) → Tree O P l → Type 0
  Shallow l t = Olds l t.1

  abbrev OneDeep : (l : ℕ) → (List (ℕ × Pay O P l) → Type 0) → List (ℕ × Tree O P l) → Type 0
  OneDeep l S [] = Unit {0}
  OneDeep l S (e ∷ r) = (Olds l e.1.1 × OneDeep l S r) ⊎ (S e.1.1 × Every (Shallow l) r)

  abbrev Slim : (l : ℕ) → List (ℕ × Pay O P l) → Type 0
  Slim zero es = Unit {0}
  Slim (suc l) es = (tops es ≤ 2) × OneDeep l (Slim l) es

  olds_tops : (l : ℕ) (es : List (ℕ × Tree O P l)) → Olds (suc l) es → tops es ≡ 0
  olds_tops l [] o = refl
  olds_tops l (e ∷ r) o = omega (arith, old_new e.1.0 o.0.0, olds_tops l r o.1)

  olds_shallow : (l : ℕ) (es : List (ℕ × Tree O P l)) → Olds (suc l) es → Every (Shallow l) es
  olds_shallow l [] o = tt
  olds_shallow l (e ∷ r) o = (o.0.1, olds_shallow l r o.1)

  shallow_deep : (l : ℕ) (S : List (ℕ × Pay O P l) → Type 0) (es : List (ℕ × Tree O P l)) → Every (Shallow l) es → OneDeep l S es
  shallow_deep l S [] o = tt
  shallow_deep l S (e ∷ r) o = inl (o.0, shallow_deep l S r o.1)

  old_slim : (l : ℕ) (es : List (ℕ × Pay O P l)) → Olds l es → Slim l es
  old_slim zero es o = tt
  old_slim (suc l) es o = (omega (arith, olds_tops l es o), shallow_deep l (Slim l) es (olds_shallow l es o))

  deep_append : (l : ℕ) (S : List (ℕ × Pay O P l) → Type 0) (xs ys : List (ℕ × Tree O P l)) → OneDeep l S xs → Every (Shallow l) ys → OneDeep l S (xs ++ ys)
  deep_append l S [] ys d o = shallow_deep l S ys o
  deep_append l S (e ∷ r) ys (inl d) o = inl (d.0, deep_append l S r ys d.1 o)
  deep_append l S (e ∷ r) ys (inr d) o = inr (d.0, every_append (Shallow l) r ys d.1 o)

  slim_append : (l : ℕ) (xs ys : List (ℕ × Tree O P l)) → Slim (suc l) xs → Olds (suc l) ys → Slim (suc l) (xs ++ ys)
  slim_append l xs ys q o = (omega (arith, q.0, tops_append xs ys, olds_tops l ys o), deep_append l (Slim l) xs ys q.1 (olds_shallow l ys o))

  slim_cons : (l : ℕ) (e : ℕ × Tree O P l) (r : List (ℕ × Tree O P l)) → OldP (suc l) e.1 → Slim (suc l) r → Slim (suc l) (e ∷ r)
  slim_cons l e r o q = (omega (arith, q.0, old_new e.1.0 o.0), inl (o.1, q.1))

  module _ (s : ℕ) where
    at_slim : (l : ℕ) (f : ℕ → Tree O P l → List (ℕ × Tree O P l)) → ((k : ℕ) (x : Tree O P l) → OldP (suc l) x → Slim (suc l) (f k x)) → (es : List (ℕ × Tree O P l)) → Olds (suc l) es → Slim (suc l) (at s f es)
    at_slim l f h [] o = (omega arith, tt)
    at_slim l f h (e ∷ r) o =
        cond_both (ahead s r) _ _ (Slim (suc l)) (λ t. slim_append l (f e.0 e.1) r (h e.0 e.1 o.0) o.1) (λ t. slim_cons l e (at s f r) o.0 (at_slim l f h r o.1))

    -- one of few blocks is written anew, with its entries changed by g
    module _ (l : ℕ) (g : List (ℕ × Pay O P l) → List (ℕ × Pay O P l)) (h : (es : List (ℕ × Pay O P l)) → Olds l es → Slim l (g es)) (f : ℕ → Tree O P l → List (ℕ × Tree O P l)) where
      Touches : Tree O P l → Type 0
      Touches t = (k : ℕ) → f k t ≡ touch None g k t

      touch_length : (ms : List (ℕ × Tree O P l)) → Every Touches ms → length (at s f ms) ≡ length ms
      unfolding Touches
      touch_length [] y = refl
      touch_length (e ∷ r) y =
          cond_both (ahead s r) _ _ (λ (z : List (ℕ × Tree O P l)). length z ≡ length (e ∷ r))
          (λ t. ap (λ (z : List (ℕ × Tree O P l)). length (z ++ r)) (y.0 e.0)) (λ t. ap suc (touch_length r y.1))

      touch_deep : (ms : List (ℕ × Tree O P l)) → Every Touches ms → Every (Shallow l) ms → OneDeep l (Slim l) (at s f ms)
      unfolding Touches
      touch_deep [] y o = tt
      touch_deep (e ∷ r) y o =
          cond_both (ahead s r) _ _ (OneDeep l (Slim l))
          (λ t. subst (λ (z : List (ℕ × Tree O P l)). OneDeep l (Slim l) (z ++ r)) (sym (y.0 e.0)) (inr (h e.1.1 o.0, o.1))) (λ t. inl (o.0, touch_deep r y.1 o.1))

      touched : (ms : List (ℕ × Tree O P l)) → length ms ≤ 2 → Every Touches ms → Every (Shallow l) ms → Slim (suc l) (at s f ms)
      touched ms k y o = (omega (arith, tops_length (at s f ms), touch_length ms y), touch_deep ms y o)

    all_touch : (l : ℕ) (g : List (ℕ × Pay O P l) → List (ℕ × Pay O P l)) (h : (es : List (ℕ × Pay O P l)) → Olds l es → Slim l (g es)) (ms : List (ℕ × Tree O P l)) → Every (Touches l g h (touch None g)) ms
    unfolding Touches
    all_touch l g h [] = tt
    all_touch l g h (e ∷ r) = ((λ k. refl), all_touch l g h r)

    touch_few : (l : ℕ) (g : List (ℕ × Pay O P l) → List (ℕ × Pay O P l)) (h : (es : List (ℕ × Pay O P l)) → Olds l es → Slim l (g es)) (ms : List (ℕ × Tree O P l)) → length ms ≤ 2 → Every (Shallow l) ms → Slim (suc l) (at s (touch None g) ms)
    touch_few l g h ms k o = touched l g h (touch None g) ms k (all_touch l g h ms) o

    parts_shallow : (l n k : ℕ) (es : List (ℕ × Pay O P l)) → Olds l es → Every (Shallow l) (parts None n k es)
    parts_shallow l n k es o = (every_take (OldP l) n es o, (every_drop (OldP l) n es o, tt))

    put_slim : (a : P) (l : ℕ) (es : List (ℕ × Pay O P l)) → Olds l es → Slim l (put_e O P None s a l es)
    put_slim a zero es o = tt
    put_slim a (suc l) es o =
        at_slim l (kid None s (put_e O P None s a l))
        (λ k t q. touch_few l (put_e O P None s a l) (put_slim a l) (opened None k t)
        (cond_both (eqb (length t.1) 15) (parts None 7 k t.1) ((k, t) ∷ []) (λ (z : List (ℕ × Tree O P l)). length z ≤ 2) (λ u. omega arith) (λ u. omega arith))
        (cond_both (eqb (length t.1) 15) (parts None 7 k t.1) ((k, t) ∷ []) (Every (Shallow l)) (λ u. parts_shallow l 7 k t.1 q.1) (λ u. (q.1, tt))))
        es o

    beside_slim : (l : ℕ) (f : ℕ → Tree O P l → List (ℕ × Tree O P l)) (fR fL : (ℕ × Tree O P l) → (ℕ × Tree O P l) → List (ℕ × Tree O P l))
        → ((k : ℕ) (x : Tree O P l) → OldP (suc l) x → Slim (suc l) (f k x))
        → ((e d : ℕ × Tree O P l) → OldP (suc l) e.1 → OldP (suc l) d.1 → Slim (suc l) (fR e d)) → ((e d : ℕ × Tree O P l) → OldP (suc l) e.1 → OldP (suc l) d.1 → Slim (suc l) (fL e d))
        → (e : ℕ × Tree O P l) (r : List (ℕ × Tree O P l)) → OldP (suc l) e.1 → Olds (suc l) r → Slim (suc l) (beside s f fR fL e r)
    beside_slim l f fR fL h hR hL e [] a o = h e.0 e.1 a
    beside_slim l f fR fL h hR hL e (d ∷ r) a o =
        cond_both (ltb s d.0) _ _ (Slim (suc l)) (λ t. slim_append l (fR e d) r (hR e d a o.0) o.1)
        (λ t. cond_both (is_nil r) _ _ (Slim (suc l)) (λ u. hL e d a o.0) (λ u. slim_cons l e (beside s f fR fL d r) a (beside_slim l f fR fL h hR hL d r o.0 o.1)))

    ready_right_lem : (l : ℕ) (e d : ℕ × Tree O P l) → Shallow l e.1 → Shallow l d.1 → (length (ready_right None e d) ≤ 2) × Every (Shallow l) (ready_right None e d)
    ready_right_lem l e d a b =
        let R : List (ℕ × Tree O P l) → Type 0 = λ z. (length z ≤ 2) × Every (Shallow l) z in
        cond_both (eqb (length e.1.1) 7) (fill_right None e.0 e.1.1 d.1.1) (e ∷ d ∷ []) R
        (λ t. cond_both (eqb (length d.1.1) 7) _ _ R
        (λ u. (omega arith, (every_append (OldP l) e.1.1 d.1.1 a b, tt)))
        (λ u. (omega arith, (every_append (OldP l) e.1.1 (take 1 d.1.1) a (every_take (OldP l) 1 d.1.1 b), (every_drop (OldP l) 1 d.1.1 b, tt)))))
        (λ t. (omega arith, (a, (b, tt))))

    ready_left_lem : (l : ℕ) (e d : ℕ × Tree O P l) → Shallow l e.1 → Shallow l d.1 → (length (ready_left None e d) ≤ 2) × Every (Shallow l) (ready_left None e d)
    ready_left_lem l e d a b =
        let R : List (ℕ × Tree O P l) → Type 0 = λ z. (length z ≤ 2) × Every (Shallow l) z in
        let n : ℕ = length e.1.1 - 1 in
        cond_both (eqb (length d.1.1) 7) (fill_left None e.0 e.1.1 d.1.1) (e ∷ d ∷ []) R
        (λ t. cond_both (eqb (length e.1.1) 7) _ _ R
        (λ u. (omega arith, (every_append (OldP l) e.1.1 d.1.1 a b, tt)))
        (λ u. (omega arith, (every_take (OldP l) n e.1.1 a, (every_append (OldP l) (drop n e.1.1) d.1.1 (every_drop (OldP l) n e.1.1 a) b, tt)))))
        (λ t. (omega arith, (a, (b, tt))))

    rem_slim : (l : ℕ) (es : List (ℕ × Pay O P l)) → Olds l es → Slim l (rem_e O P None s l es)
    rem_slim zero es o = tt
    rem_slim (suc l) [] o = (omega arith, tt)
    rem_slim (suc l) (e ∷ r) o =
        let g : List (ℕ × Pay O P l) → List (ℕ × Pay O P l) = rem_e O P None s l in
        beside_slim l (touch None g) (λ e d. at s (touch None g) (ready_right None e d)) (λ e d. at s (touch None g) (ready_left None e d))
        (λ k x q. (omega arith, inr (rem_slim l x.1 q.1, tt)))
        (λ e d a b. let y = ready_right_lem l e d a.1 b.1 in touch_few l g (rem_slim l) (ready_right None e d) y.0 y.1)
        (λ e d a b. let y = ready_left_lem l e d a.1 b.1 in touch_few l g (rem_slim l) (ready_left None e d) y.0 y.1)
        e r o.0 o.1

    -- a split root: both halves are new, and neither is full
    kid_touch : (l : ℕ) (g : List (ℕ × Pay O P l) → List (ℕ × Pay O P l)) (k : ℕ) (t : Tree O P l) → eqb (length t.1) 15 ≡ false → kid None s g k t ≡ touch None g k t
    kid_touch l g k t e = ap (λ b. at s (touch None g) (cond b (parts None 7 k t.1) ((k, t) ∷ []))) e

    halves_slim : (a : P) (l : ℕ) (es : List (ℕ × Pay O P l)) → length es ≡ 15 → Olds l es → Slim (suc l) (put_e O P None s a (suc l) (parts None 7 0 es))
    unfolding Touches
    halves_slim a l es n o =
        let g : List (ℕ × Pay O P l) → List (ℕ × Pay O P l) = put_e O P None s a l in
        let lo : eqb (length (take 7 es)) 15 ≡ false = ne_eqb (length (take 7 es)) 15 (λ e. omega (arith, length-take 7 es)) in
        let hi : eqb (length (drop 7 es)) 15 ≡ false = ne_eqb (length (drop 7 es)) 15 (λ e. omega (arith, length-drop 7 es)) in
        touched l g (put_slim a l) (kid None s g) (parts None 7 0 es) (omega arith)
        ((λ k. kid_touch l g k (None, take 7 es) lo), ((λ k. kid_touch l g k (None, drop 7 es) hi), tt)) (parts_shallow l 7 0 es o)

  -- slim, so apart
  abbrev ps : (l : ℕ) → List (ℕ × Pay O P l) → List ℕ
  ps l es = collect P ℕ (its_place P) l es

  abbrev line : (l : ℕ) → ℕ → List (ℕ × Tree O P l) → List ℕ
  line l i es = along (its_place P l) (ps l) i (2 * l + 1) es

  in_append : (p : ℕ) (xs ys : List ℕ) → In p (xs ++ ys) → In p xs ⊎ In p ys
  in_append p [] ys h = inr h
  in_append p (x ∷ xs) ys (inl e) = inl (inl e)
  in_append p (x ∷ xs) ys (inr h) = ⊎_elim (λ q. inl (inr q)) (λ q. inr q) (in_append p xs ys h)

  apart_append : (xs ys : List ℕ) → Distinct xs → Distinct ys → ((p : ℕ) → In p xs → In p ys → ⊥) → Distinct (xs ++ ys)
  apart_append [] ys a b h = b
  apart_append (x ∷ xs) ys a b h =
      ((λ q. ⊎_elim (λ k. a.0 k) (λ k. h x (inl refl) k) (in_append x xs ys q)), apart_append xs ys a.1 b (λ p u v. h p (inr u) v))

  -- nothing is collected where nothing is new
  none_old : (Y : Type 0) (g : (l : ℕ) → ℕ → List (ℕ × Pay O P l) → Y) (l : ℕ) (es : List (ℕ × Pay O P l)) → Olds l es → collect P Y g l es ≡ []
  none_old Y g zero es o = refl
  none_old Y g (suc l) es o = go (none_old Y g l) (2 * l) es o
    where
      go : ((es : List (ℕ × Pay O P l)) → Olds l es → collect P Y g l es ≡ []) → (i : ℕ) (es : List (ℕ × Tree O P l)) → Olds (suc l) es → along (g l) (collect P Y g l) i (2 * l + 1) es ≡ []
      go ih i [] o = refl
      go ih i ((k, (None, xs)) ∷ r) o = absurd o.0.0
      go ih i ((k, (Some b, xs)) ∷ r) o = ap (λ (z : List Y). z ++ along (g l) (collect P Y g l) i (2 * l + 1) r) (ih xs o.0.1) ∙ go ih i r o.1

  -- below level l all places are below 2l
  pub below : (l : ℕ) (es : List (ℕ × Pay O P l)) (p : ℕ) → In p (ps l es) → p < 2 * l
  below zero es p h = absurd h
  below (suc l) es p h = go (below l) (2 * l) (omega arith) es h
    where
      go : ((es : List (ℕ × Pay O P l)) (p : ℕ) → In p (ps l es) → p < 2 * l) → (i : ℕ) → i ≤ 2 * l + 1 → (es : List (ℕ × Tree O P l)) → In p (line l i es) → p < 2 * suc l
      go ih i b [] h = absurd h
      go ih i b ((k, (None, xs)) ∷ r) (inl e) = omega arith
      go ih i b ((k, (None, xs)) ∷ r) (inr h) = ⊎_elim (λ u. let q = ih xs p u in omega arith) (λ u. go ih (2 * l + 1) (omega arith) r u) (in_append p (ps l xs) (line l (2 * l + 1) r) h)
      go ih i b ((k, (Some x, xs)) ∷ r) h = ⊎_elim (λ u. let q = ih xs p u in omega arith) (λ u. go ih i b r u) (in_append p (ps l xs) (line l i r) h)

  range : (l i : ℕ) (es : List (ℕ × Tree O P l)) → 2 * l ≤ i → i ≤ 2 * l + 1 → i + tops es ≤ 2 * l + 2 → (p : ℕ) → In p (line l i es) → (p < 2 * l) ⊎ ((i ≤ p) × (p < i + tops es))
  range l i [] a b c p h = absurd h
  range l i ((k, (None, xs)) ∷ r) a b c p (inl e) = inr (omega arith, omega arith)
  range l i ((k, (None, xs)) ∷ r) a b c p (inr h) =
      ⊎_elim (λ u. inl (below l xs p u))
      (λ u. ⊎_elim (λ v. inl v) (λ v. let x = v.0 in let y = v.1 in inr (omega arith, omega arith)) (range l (2 * l + 1) r (omega arith) (omega arith) (omega arith) p u))
      (in_append p (ps l xs) (line l (2 * l + 1) r) h)
  range l i ((k, (Some z, xs)) ∷ r) a b c p h =
      ⊎_elim (λ u. inl (below l xs p u))
      (λ u. ⊎_elim (λ v. inl v) (λ v. let x = v.0 in let y = v.1 in inr (omega arith, omega arith)) (range l i r a b (omega arith) p u))
      (in_append p (ps l xs) (line l i r) h)

  high : (l i : ℕ) (es : List (ℕ × Tree O P l)) → 2 * l ≤ i → Every (Shallow l) es → (p : ℕ) → In p (line l i es) → 2 * l ≤ p
  high l i [] a o p h = absurd h
  high l i ((k, (None, xs)) ∷ r) a o p (inl e) = omega arith
  high l i ((k, (None, xs)) ∷ r) a o p (inr h) =
      ⊎_elim (λ u. absurd (subst (In p) (none_old ℕ (its_place P) l xs o.0) u)) (λ u. high l (2 * l + 1) r (omega arith) o.1 p u) (in_append p (ps l xs) (line l (2 * l + 1) r) h)
  high l i ((k, (Some z, xs)) ∷ r) a o p h =
      ⊎_elim (λ u. absurd (subst (In p) (none_old ℕ (its_place P) l xs o.0) u)) (λ u. high l i r a o.1 p u) (in_append p (ps l xs) (line l i r) h)

  -- a block's places below it, and those on its right
  aside : (l i : ℕ) (xs : List (ℕ × Pay O P l)) (r : List (ℕ × Tree O P l)) → 2 * l ≤ i → (Olds l xs × OneDeep l (Slim l) r) ⊎ (Slim l xs × Every (Shallow l) r) → (p : ℕ) → In p (ps l xs) → In p (line l i r) → ⊥
  aside l i xs r a (inl d) p u v = subst (In p) (none_old ℕ (its_place P) l xs d.0) u
  aside l i xs r a (inr d) p u v = let x = below l xs p u in let y = high l i r a d.1 p v in omega arith

  first_slim : (l : ℕ) (xs : List (ℕ × Pay O P l)) (r : List (ℕ × Tree O P l)) → (Olds l xs × OneDeep l (Slim l) r) ⊎ (Slim l xs × Every (Shallow l) r) → Slim l xs × OneDeep l (Slim l) r
  first_slim l xs r (inl d) = (old_slim l xs d.0, d.1)
  first_slim l xs r (inr d) = (d.0, shallow_deep l (Slim l) r d.1)

  line_apart : (l : ℕ) → ((es : List (ℕ × Pay O P l)) → Slim l es → Distinct (ps l es)) → (i : ℕ) (es : List (ℕ × Tree O P l)) → 2 * l ≤ i → i ≤ 2 * l + 1 → i + tops es ≤ 2 * l + 2 → OneDeep l (Slim l) es → Distinct (line l i es)
  line_apart l ih i [] a b c d = tt
  line_apart l ih i ((k, (None, xs)) ∷ r) a b c d =
      let f = first_slim l xs r d in
      let j : ℕ = 2 * l + 1 in
      apart_append (i ∷ ps l xs) (line l j r) ((λ u. let x = below l xs i u in omega arith), ih xs f.0) (line_apart l ih j r (omega arith) (omega arith) (omega arith) f.1)
      (λ p u v. ⊎_elim
      (λ (e : p ≡ i). ⊎_elim (λ w. omega arith) (λ w. let x = w.0 in let y = w.1 in omega arith) (range l j r (omega arith) (omega arith) (omega arith) p v))
      (λ q. aside l j xs r (omega arith) d p q v) u)
  line_apart l ih i ((k, (Some z, xs)) ∷ r) a b c d =
      let f = first_slim l xs r d in
      apart_append (ps l xs) (line l i r) (ih xs f.0) (line_apart l ih i r a b (omega arith) f.1) (λ p u v. aside l i xs r a d p u v)

  slim_apart : (l : ℕ) (es : List (ℕ × Pay O P l)) → Slim l es → Distinct (ps l es)
  slim_apart zero es q = tt
  slim_apart (suc l) es q = let k = q.0 in line_apart l (slim_apart l) (2 * l) es (omega arith) (omega arith) (omega arith) q.1

  root_apart : (l : ℕ) (m : O) (es : List (ℕ × Pay O P l)) → Slim l es → Distinct (taking m (2 * l) (ps l es))
  root_apart l None es q = ((λ u. let x = below l es (2 * l) u in omega arith), slim_apart l es q)
  root_apart l (Some b) es q = slim_apart l es q

  pub old_over : (l : ℕ) (p : Pay ℕ P l) → OldP l (over Some same l p)
  old_over zero p = tt
  old_over (suc l) t = (tt, go (old_over l) t.1)
    where
      go : ((p : Pay ℕ P l) → OldP l (over Some same l p)) → (es : List (ℕ × Pay ℕ P l)) → Olds l (map_e (over Some same l) es)
      go ih [] = tt
      go ih (e ∷ r) = (ih e.1, go ih r)

  put_root_lem : (s : ℕ) (a : P) (r : Root O P) → Olds r.0 r.1.1 → Slim (put_root O P None s a r).0 (put_root O P None s a r).1.1
  put_root_lem s a r o =
      cond_both (eqb (length r.1.1) 15) (suc r.0, (None, parts None 7 0 r.1.1)) r (λ (q : Root O P). Slim q.0 (put_e O P None s a q.0 q.1.1))
      (λ e. halves_slim s a r.0 r.1.1 (eqb-true (length r.1.1) 15 e) o) (λ e. put_slim s a r.0 r.1.1 o)

  -- what holds of every slim root holds after a remove
  lowered : (F : Root O P → Type 0) → ((l : ℕ) (m : O) (es : List (ℕ × Pay O P l)) → Slim l es → F (l, (m, es))) → (l : ℕ) (t : Tree O P l) → Slim l t.1 → F (lower O P l t)
  lowered F h zero t q = h zero t.0 t.1 q
  lowered F h (suc l) t q = go t.1 q
    where
      go : (es : List (ℕ × Tree O P l)) → Slim (suc l) es → F (only O P l t.0 es)
      go [] q = h (suc l) t.0 [] q
      go (e ∷ []) q = h l e.1.0 e.1.1 (first_slim l e.1.1 [] q.1).0
      go (e ∷ d ∷ r) q = h (suc l) t.0 (e ∷ d ∷ r) q

  -- slim, so at most two on a level
  abbrev ls : (l : ℕ) → List (ℕ × Pay O P l) → List ℕ
  ls l es = collect P ℕ (its_level P) l es

  abbrev row : (l : ℕ) → ℕ → List (ℕ × Tree O P l) → List ℕ
  row l i es = along (its_level P l) (ls l) i (2 * l + 1) es

  often_append : (k : ℕ) (xs ys : List ℕ) → often k (xs ++ ys) ≡ often k xs + often k ys
  often_append k xs ys = tally_append (λ x. cond (eqb k x) 1 0) xs ys

  -- a block, before what is below it
  often_same : (k : ℕ) (m : O) (ys : List ℕ) → often k (taking m k ys) ≡ is_new m + often k ys
  often_same k None ys = ap (λ b. cond b 1 0 + often k ys) (eq-eqb k k refl)
  often_same k (Some b) ys = omega arith

  often_other : (k x : ℕ) (m : O) (ys : List ℕ) → (k ≡ x → ⊥) → often k (taking m x ys) ≡ often k ys
  often_other k x None ys n = ap (λ b. cond b 1 0 + often k ys) (ne_eqb k x n) ∙ omega arith
  often_other k x (Some b) ys n = refl

  -- no block below level l is of level l or above
  none_high : (l k : ℕ) (es : List (ℕ × Pay O P l)) → l ≤ k → often k (ls l es) ≡ 0
  none_high zero k es h = refl
  none_high (suc l) k es h = go (λ es. none_high l k es (omega arith)) (2 * l) es
    where
      go : ((es : List (ℕ × Pay O P l)) → often k (ls l es) ≡ 0) → (i : ℕ) (es : List (ℕ × Tree O P l)) → often k (row l i es) ≡ 0
      go ih i [] = refl
      go ih i (e ∷ r) =
          omega (arith, often_append k (taking e.1.0 l (ls l e.1.1)) (row l (onward e.1.0 i (2 * l + 1)) r), often_other k l e.1.0 (ls l e.1.1) (λ q. omega (arith, h, q)), ih e.1.1, go ih (onward e.1.0 i (2 * l + 1)) r)

  -- on their own level they are those on top
  row_own : (l i : ℕ) (es : List (ℕ × Tree O P l)) → often l (row l i es) ≡ tops es
  row_own l i [] = refl
  row_own l i (e ∷ r) =
      omega (arith, often_append l (taking e.1.0 l (ls l e.1.1)) (row l (onward e.1.0 i (2 * l + 1)) r), often_same l e.1.0 (ls l e.1.1), none_high l l e.1.1 (omega arith), row_own l (onward e.1.0 i (2 * l + 1)) r)

  row_old : (l k i : ℕ) (es : List (ℕ × Tree O P l)) → (k ≡ l → ⊥) → Every (Shallow l) es → often k (row l i es) ≡ 0
  row_old l k i [] n o = refl
  row_old l k i (e ∷ r) n o =
      omega (
        arith,
        often_append k (taking e.1.0 l (ls l e.1.1)) (row l (onward e.1.0 i (2 * l + 1)) r),
        often_other k l e.1.0 (ls l e.1.1) n,
        ap (often k) (none_old ℕ (its_level P) l e.1.1 o.0),
        row_old l k (onward e.1.0 i (2 * l + 1)) r n o.1,
      )

  row_deep : (l k i : ℕ) → ((es : List (ℕ × Pay O P l)) → Slim l es → often k (ls l es) ≤ 2) → (es : List (ℕ × Tree O P l)) → (k ≡ l → ⊥) → OneDeep l (Slim l) es → often k (row l i es) ≤ 2
  row_deep l k i ih [] n d = omega arith
  row_deep l k i ih (e ∷ r) n d =
      let j : ℕ = onward e.1.0 i (2 * l + 1) in
      let x = often_append k (taking e.1.0 l (ls l e.1.1)) (row l j r) in
      let y = often_other k l e.1.0 (ls l e.1.1) n in
      ⊎_elim
      (λ u. let z = ap (often k) (none_old ℕ (its_level P) l e.1.1 u.0) in let w = row_deep l k j ih r n u.1 in omega arith)
      (λ u. let z = ih e.1.1 u.0 in let w = row_old l k j r n u.1 in omega arith) d

  slim_two : (l k : ℕ) (es : List (ℕ × Pay O P l)) → Slim l es → often k (ls l es) ≤ 2
  slim_two zero k es q = omega arith
  slim_two (suc l) k es q =
      ⊎_elim (λ e. let x = row_own l (2 * l) es in let y = q.0 in let z = ap (λ j. often j (row l (2 * l) es)) e in omega arith)
      (λ n. row_deep l k (2 * l) (slim_two l k) es n q.1) (cases_eq k l)

  root_two : (l : ℕ) (m : O) (es : List (ℕ × Pay O P l)) → Slim l es → TwoEach P (l, (m, es))
  root_two l m es q =
      let own : often l (taking m l (ls l es)) ≤ 1 = omega (arith, often_same l m (ls l es), none_high l l es (omega arith), new_one m) in
      ((λ k. ⊎_elim (λ e. let z = ap (λ j. often j (taking m l (ls l es))) e in omega arith) (λ n. let x = often_other k l m (ls l es) n in let y = slim_two l k es q in omega arith) (cases_eq k l)), own)

-- What holds of every slim root holds after a put and after a remove.
both : (P : Type 0) (F : Root O P → Type 0) → ((l : ℕ) (m : O) (es : List (ℕ × Pay O P l)) → Slim P l es → F (l, (m, es))) → (s : ℕ) (t : Root ℕ P)
    → ((a : P) → F (put_root O P None s a (over_root Some same t))) × F (rem_root O P None s (over_root Some same t))
both P F h s t =
    let r : Root O P = over_root Some same t in
    let o = (old_over P (suc t.0) t.1).1 in (
      (λ a. h (put_root O P None s a r).0 None (put_root O P None s a r).1.1 (put_root_lem P s a r o)),
      lowered P F h t.0 (None, rem_e O P None s t.0 r.1.1) (rem_slim P s t.0 r.1.1 o),
    )

pub places_apart : (P : Type 0) → PlacesApart P
places_apart P s t = both P (λ r. Distinct (places P r)) (root_apart P) s t

pub two_a_level : (P : Type 0) → TwoALevel P
two_a_level P s t = both P (TwoEach P) (root_two P) s t
