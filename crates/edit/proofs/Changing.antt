-- Put on numbered blocks is the tree's put with its new blocks numbered by level, and the blocks written are those of the new ones.
use Rattle.std.proofs.Common.{◌≡◌, ℕ, zero, suc, ◌+◌, ◌*◌, ◌<◌, Bool, true, false, cond, ltb, List, [], ◌∷◌, ◌++◌, map, length, get_or, take, drop, Some, None, Option, sym, refl, ap, ◌∙◌, ap₂, ⊎_elim, arith, length-drop, length-take}
use Rattle.std.proofs.lemmas.List.{map-append, append-nil}
use Rattle.std.proofs.lemmas.Bool.{eq-eqb, ne_eqb, lt-ltb, le-ltb, cases_eq, cases_lt}
use Rattle.tree.specs.Node.{ins, first, at, ahead, map_e, kid}
use Rattle.tree.specs.Tree.{Pay, Tree, Root, over, over_root, put_e, put_root, only}
use Rattle.tree.specs.Stored.{same}
use Rattle.tree.specs.Numbered.{onward, beside, numbers, numbered}
use Rattle.tree.specs.Apart.{along, collect, its_place, places}
use Rattle.tree.proofs.Over.{map_take, map_drop, map_length, map_first, map_ahead}
use Rattle.counts.specs.Counts.{one, occ}
use Rattle.counts.proofs.Opens.{occ_append}
use Rattle.edit.specs.Plan.{shallow, chosen, parted, placed, links, down, kid_n, put_n, kid_moves, moves, put_root_n}
use Rattle.edit.proofs.Traces.{linked, linked_append}

abbrev O : Type 0
O = Option ℕ

-- a block with its number
abbrev pub F : (l : ℕ) → Pay ℕ ℕ l → Pay O ℕ l
F l = over Some same l

-- the places of the new blocks below
abbrev C : (l : ℕ) → List (ℕ × Pay O ℕ l) → List ℕ
C l es = collect ℕ ℕ (its_place ℕ) l es

-- among old blocks none is new
along_none : (l : ℕ) → ((es : List (ℕ × Pay ℕ ℕ l)) → C l (map_e (F l) es) ≡ []) → (i : ℕ) (es : List (ℕ × Tree ℕ ℕ l)) → along (its_place ℕ l) (C l) i (2 * l + 1) (map_e (F (suc l)) es) ≡ []
along_none l ih i [] = refl
along_none l ih i (e ∷ r) = ap₂ (λ (x y : List ℕ). x ++ y) (ih e.1.1) (along_none l ih i r)

none_new : (l : ℕ) (es : List (ℕ × Pay ℕ ℕ l)) → C l (map_e (F l) es) ≡ []
none_new zero es = refl
none_new (suc l) es = along_none l (none_new l) (2 * l) es

-- a root as the one child of a block above it
module _ (M P : Type 0) (new : M) (s : ℕ) (a : P) where
  below_one : (l : ℕ) (t : Tree M P l) → only M P l new (put_e M P new s a (suc l) ((0, t) ∷ [])) ≡ put_root M P new s a (l, t)
  below_one l t =
      let es = t.1 in
      let g = put_e M P new s a l in
      ⊎_elim
      (λ n. rw (eq-eqb (length es) 15 n, ne_eqb (length (take 7 es)) 15 (λ e. omega (arith, length-take 7 es)), ne_eqb (length (drop 7 es)) 15 (λ e. omega (arith, length-drop 7 es))) (go l es (ltb s (first (drop 7 es)))))
      (λ n. rw (ne_eqb (length es) 15 n))
      (cases_eq (length es) 15)
    where
      go : (l : ℕ) (es : List (ℕ × Pay M P l)) (b : Bool) → only M P l new (cond b ((0, (new, put_e M P new s a l (take 7 es))) ∷ (first (drop 7 es), (new, drop 7 es)) ∷ []) ((0, (new, take 7 es)) ∷ (first (drop 7 es), (new, put_e M P new s a l (drop 7 es))) ∷ []) ++ [])
          ≡ (suc l, (new, cond b ((0, (new, put_e M P new s a l (take 7 es))) ∷ (first (drop 7 es), (new, drop 7 es)) ∷ []) ((0, (new, take 7 es)) ∷ (first (drop 7 es), (new, put_e M P new s a l (drop 7 es))) ∷ [])))
      go l es true = refl
      go l es false = refl

module _ (pick : ℕ → ℕ) where
  abbrev numb : (l : ℕ) → List (ℕ × Pay O ℕ l) → List (ℕ × Pay ℕ ℕ l)
  numb l es = numbers ℕ pick l es

  -- old blocks keep their numbers
  beside_from : (l : ℕ) → ((es : List (ℕ × Pay ℕ ℕ l)) → numb l (map_e (F l) es) ≡ es) → (i : ℕ) (es : List (ℕ × Tree ℕ ℕ l)) → beside pick (numb l) i (2 * l + 1) (map_e (F (suc l)) es) ≡ es
  beside_from l ih i [] = refl
  beside_from l ih i (e ∷ r) = ap₂ (λ (x : List (ℕ × Pay ℕ ℕ l)) (y : List (ℕ × Tree ℕ ℕ l)). (e.0, (e.1.0, x)) ∷ y) (ih e.1.1) (beside_from l ih i r)

  numbers_old : (l : ℕ) (es : List (ℕ × Pay ℕ ℕ l)) → numb l (map_e (F l) es) ≡ es
  numbers_old zero [] = refl
  numbers_old zero (e ∷ r) = ap (λ (z : List (ℕ × ℕ)). e ∷ z) (numbers_old zero r)
  numbers_old (suc l) es = beside_from l (numbers_old l) (2 * l) es

  beside_old : (l i : ℕ) (es : List (ℕ × Tree ℕ ℕ l)) → beside pick (numb l) i (2 * l + 1) (map_e (F (suc l)) es) ≡ es
  beside_old l i es = beside_from l (numbers_old l) i es

  -- how often b is picked
  abbrev picked : ℕ → List ℕ → ℕ
  picked b ps = occ b (map pick ps)

  picked_append : (b : ℕ) (xs ys : List ℕ) → picked b (xs ++ ys) ≡ picked b xs + picked b ys
  picked_append b xs ys = ap (occ b) (map-append pick xs ys) ∙ occ_append b (map pick xs) (map pick ys)

  two_picked : (b x y i j n : ℕ) (xs ys zs : List ℕ) → x ≡ pick i → y ≡ pick j → picked b xs + picked b ys ≡ n → zs ≡ [] → occ b (x ∷ y ∷ []) + n ≡ picked b ((i ∷ xs) ++ ((j ∷ ys) ++ zs))
  two_picked b x y i j n xs ys zs ex ey en ez =
      omega (arith, ap (λ z. one z b) ex, ap (λ z. one z b) ey, en, ap (picked b) ez, picked_append b xs ((j ∷ ys) ++ zs), picked_append b ys zs)

  one_picked : (b x i : ℕ) (xs zs : List ℕ) → x ≡ pick i → zs ≡ [] → occ b (x ∷ []) + picked b xs ≡ picked b ((i ∷ xs) ++ zs)
  one_picked b x i xs zs ex ez = omega (arith, ap (λ z. one z b) ex, ap (picked b) ez, picked_append b xs zs)

  module _ (gs : List ℕ) (s a : ℕ) where
    abbrev put : (l : ℕ) → List (ℕ × Pay O ℕ l) → List (ℕ × Pay O ℕ l)
    put l = put_e O ℕ None s a l

    -- one child, and those on its right
    module _ (l k m : ℕ) (es us : List (ℕ × Pay ℕ ℕ l)) (r : List (ℕ × Tree ℕ ℕ l)) (hx : get_or gs (2 * l) 0 ≡ pick (2 * l)) (hy : get_or gs (2 * l + 1) 0 ≡ pick (2 * l + 1)) where
      abbrev x : ℕ
      x = get_or gs (2 * l) 0

      abbrev y : ℕ
      y = get_or gs (2 * l + 1) 0

      kid_numbers : us ≡ numb l (put l (map_e (F l) (chosen s es))) → placed x y (parted s k es us) ++ r ≡ beside pick (numb l) (2 * l) (2 * l + 1) (kid None s (put l) k (F (suc l) (m, es)) ++ map_e (F (suc l)) r)
      kid_numbers =
          let rest = sym (beside_old l (2 * l + 1) r) in
          let low = sym (numbers_old l (take 7 es)) in
          let high = sym (numbers_old l (drop 7 es)) in
          ⊎_elim
          (λ n. ⊎_elim
          (λ v. rw (map_length (F l) es, eq-eqb (length es) 15 n, ← map_drop (F l) 7 es, ← map_take (F l) 7 es, map_first (F l) (drop 7 es), lt-ltb s (first (drop 7 es)) v)
          (λ p. λ i. (k, (hx i, p i)) ∷ (first (drop 7 es), (hy i, high i)) ∷ rest i))
          (λ v. rw (map_length (F l) es, eq-eqb (length es) 15 n, ← map_drop (F l) 7 es, ← map_take (F l) 7 es, map_first (F l) (drop 7 es), le-ltb s (first (drop 7 es)) v)
          (λ p. λ i. (k, (hx i, low i)) ∷ (first (drop 7 es), (hy i, p i)) ∷ rest i))
          (cases_lt s (first (drop 7 es))))
          (λ n. rw (map_length (F l) es, ne_eqb (length es) 15 n) (λ p. λ i. (k, (hx i, p i)) ∷ rest i))
          (cases_eq (length es) 15)

      kid_picked : (b : ℕ) → occ b (linked (links l (map_e (λ c. (c.0, shallow l c.1)) (placed x y (parted s k es us))))) + picked b (C l (put l (map_e (F l) (chosen s es))))
          ≡ picked b (along (its_place ℕ l) (C l) (2 * l) (2 * l + 1) (kid None s (put l) k (F (suc l) (m, es)) ++ map_e (F (suc l)) r))
      kid_picked b =
          let A : ℕ → List ℕ = λ i. along (its_place ℕ l) (C l) i (2 * l + 1) (map_e (F (suc l)) r) in
          let rest = along_none l (none_new l) (2 * l + 1) r in
          let low = ap (picked b) (none_new l (take 7 es)) in
          let high = ap (picked b) (none_new l (drop 7 es)) in
          ⊎_elim
          (λ n. ⊎_elim
          (λ v. rw (map_length (F l) es, eq-eqb (length es) 15 n, ← map_drop (F l) 7 es, ← map_take (F l) 7 es, map_first (F l) (drop 7 es), lt-ltb s (first (drop 7 es)) v)
          (two_picked b x y (2 * l) (2 * l + 1) _ (C l (put l (map_e (F l) (take 7 es)))) (C l (map_e (F l) (drop 7 es))) (A (2 * l + 1)) hx hy (omega (arith, high)) rest))
          (λ v. rw (map_length (F l) es, eq-eqb (length es) 15 n, ← map_drop (F l) 7 es, ← map_take (F l) 7 es, map_first (F l) (drop 7 es), le-ltb s (first (drop 7 es)) v)
          (two_picked b x y (2 * l) (2 * l + 1) _ (C l (map_e (F l) (take 7 es))) (C l (put l (map_e (F l) (drop 7 es)))) (A (2 * l + 1)) hx hy (omega (arith, low)) rest))
          (cases_lt s (first (drop 7 es))))
          (λ n. rw (map_length (F l) es, ne_eqb (length es) 15 n) (one_picked b x (2 * l) (C l (put l (map_e (F l) es))) (A (2 * l + 1)) hx rest))
          (cases_eq (length es) 15)

    pub put_numbers : (l : ℕ) (es : List (ℕ × Pay ℕ ℕ l)) → ((j : ℕ) → j < 2 * l → get_or gs j 0 ≡ pick j) → put_n gs s a l es ≡ numb l (put l (map_e (F l) es))
    put_numbers zero es h = ap (ins s a) (sym (numbers_old zero es))
    put_numbers (suc l) es h = go (λ es. put_numbers l es (λ j lt. h j (omega arith))) es
      where
        go : ((es : List (ℕ × Pay ℕ ℕ l)) → put_n gs s a l es ≡ numb l (put l (map_e (F l) es)))
            → (es : List (ℕ × Tree ℕ ℕ l)) → at s (kid_n gs s a l (put_n gs s a l)) es ≡ beside pick (numb l) (2 * l) (2 * l + 1) (at s (kid None s (put l)) (map_e (F (suc l)) es))
        go ih [] = refl
        go ih (e ∷ r) =
            rw (map_ahead (F (suc l)) s r)
            (by (ahead s r) (kid_numbers l e.0 e.1.0 e.1.1 (put_n gs s a l (chosen s e.1.1)) r (h (2 * l) (omega arith)) (h (2 * l + 1) (omega arith)) (ih (chosen s e.1.1))) (go ih r))
          where
            by : (b : Bool) → kid_n gs s a l (put_n gs s a l) e.0 e.1 ++ r ≡ beside pick (numb l) (2 * l) (2 * l + 1) (kid None s (put l) e.0 (F (suc l) e.1) ++ map_e (F (suc l)) r)
                → at s (kid_n gs s a l (put_n gs s a l)) r ≡ beside pick (numb l) (2 * l) (2 * l + 1) (at s (kid None s (put l)) (map_e (F (suc l)) r))
                → cond b (kid_n gs s a l (put_n gs s a l) e.0 e.1 ++ r) (e ∷ at s (kid_n gs s a l (put_n gs s a l)) r)
                ≡ beside pick (numb l) (2 * l) (2 * l + 1) (cond b (kid None s (put l) e.0 (F (suc l) e.1) ++ map_e (F (suc l)) r) ((e.0, F (suc l) e.1) ∷ at s (kid None s (put l)) (map_e (F (suc l)) r)))
            by true p q = p
            by false p q = let o = sym (numbers_old l e.1.1) in λ i. (e.0, (e.1.0, o i)) ∷ q i

    pub put_picked : (b l : ℕ) (es : List (ℕ × Pay ℕ ℕ l)) → ((j : ℕ) → j < 2 * l → get_or gs j 0 ≡ pick j) → occ b (linked (moves gs s a l es)) ≡ picked b (C l (put l (map_e (F l) es)))
    put_picked b zero es h = refl
    put_picked b (suc l) es h = go (λ es. put_picked b l es (λ j lt. h j (omega arith))) es
      where
        go : ((es : List (ℕ × Pay ℕ ℕ l)) → occ b (linked (moves gs s a l es)) ≡ picked b (C l (put l (map_e (F l) es))))
            → (es : List (ℕ × Tree ℕ ℕ l)) → occ b (linked (down s (kid_moves gs s a l (moves gs s a l)) es)) ≡ picked b (along (its_place ℕ l) (C l) (2 * l) (2 * l + 1) (at s (kid None s (put l)) (map_e (F (suc l)) es)))
        go ih [] = refl
        go ih (e ∷ r) =
            let us = put_n gs s a l (chosen s e.1.1) in
            let ms = moves gs s a l (chosen s e.1.1) in
            let ls = links l (map_e (λ c. (c.0, shallow l c.1)) (kid_n gs s a l (put_n gs s a l) e.0 e.1)) in
            rw (map_ahead (F (suc l)) s r)
            (by (ahead s r)
            (ap (occ b) (linked_append ms ls)
            ∙ omega (arith, occ_append b (linked ms) (linked ls), ih (chosen s e.1.1), kid_picked l e.0 e.1.0 e.1.1 us r (h (2 * l) (omega arith)) (h (2 * l + 1) (omega arith)) b))
            (go ih r))
          where
            by : (t : Bool) → occ b (linked (kid_moves gs s a l (moves gs s a l) e.0 e.1)) ≡ picked b (along (its_place ℕ l) (C l) (2 * l) (2 * l + 1) (kid None s (put l) e.0 (F (suc l) e.1) ++ map_e (F (suc l)) r))
                → occ b (linked (down s (kid_moves gs s a l (moves gs s a l)) r)) ≡ picked b (along (its_place ℕ l) (C l) (2 * l) (2 * l + 1) (at s (kid None s (put l)) (map_e (F (suc l)) r)))
                → occ b (linked (cond t (kid_moves gs s a l (moves gs s a l) e.0 e.1) (down s (kid_moves gs s a l (moves gs s a l)) r)))
                ≡ picked b (along (its_place ℕ l) (C l) (2 * l) (2 * l + 1) (cond t (kid None s (put l) e.0 (F (suc l) e.1) ++ map_e (F (suc l)) r) ((e.0, F (suc l) e.1) ∷ at s (kid None s (put l)) (map_e (F (suc l)) r))))
            by true p q = p
            by false p q = q ∙ ap (λ (z : List ℕ). picked b (z ++ along (its_place ℕ l) (C l) (2 * l) (2 * l + 1) (at s (kid None s (put l)) (map_e (F (suc l)) r)))) (sym (none_new l e.1.1))

    -- a whole tree
    only_numbers : (l x : ℕ) (us : List (ℕ × Tree O ℕ l)) → x ≡ pick (2 * suc l) → only ℕ ℕ l x (numb (suc l) us) ≡ numbered ℕ pick (only O ℕ l None us)
    only_numbers l x [] h = ap (λ (z : ℕ). (suc l, (z, []))) h
    only_numbers l x (e ∷ []) h = refl
    only_numbers l x (e ∷ d ∷ r) h = ap (λ (z : ℕ). (suc l, (z, numb (suc l) (e ∷ d ∷ r)))) h

    pub root_numbers : (t : Root ℕ ℕ) → ((j : ℕ) → j < 2 * suc t.0 + 1 → get_or gs j 0 ≡ pick j) → put_root_n gs s a t ≡ numbered ℕ pick (put_root O ℕ None s a (over_root Some same t))
    root_numbers t h =
        let l = t.0 in
        ap (only ℕ ℕ l (get_or gs (2 * suc l) 0)) (put_numbers (suc l) ((0, t.1) ∷ []) (λ j lt. h j (omega arith)))
        ∙ only_numbers l (get_or gs (2 * suc l) 0) (put (suc l) ((0, F (suc l) t.1) ∷ [])) (h (2 * suc l) (omega arith))
        ∙ ap (numbered ℕ pick) (below_one O ℕ None s a l (F (suc l) t.1))

    numbers_length : (l i : ℕ) (us : List (ℕ × Tree O ℕ l)) → length (beside pick (numb l) i (2 * l + 1) us) ≡ length us
    numbers_length l i [] = refl
    numbers_length l i (e ∷ r) = ap suc (numbers_length l (onward e.1.0 i (2 * l + 1)) r)

    one_place : (l b : ℕ) (us : List (ℕ × Tree O ℕ l)) → length us ≡ 1 → picked b (C (suc l) us) ≡ picked b (places ℕ (only O ℕ l None us))
    one_place l b [] n = absurd (omega arith)
    one_place l b (e ∷ []) n = ap (picked b) (append-nil (places ℕ (l, e.1)))
    one_place l b (e ∷ d ∷ r) n = absurd (omega arith)

    more_places : (l b : ℕ) (us : List (ℕ × Tree O ℕ l)) → 1 < length us → one (pick (2 * suc l)) b + picked b (C (suc l) us) ≡ picked b (places ℕ (only O ℕ l None us))
    more_places l b [] n = absurd (omega arith)
    more_places l b (e ∷ []) n = absurd (omega arith)
    more_places l b (e ∷ d ∷ r) n = refl

    module _ (t : Root ℕ ℕ) (h : (j : ℕ) → j < 2 * suc t.0 + 1 → get_or gs j 0 ≡ pick j) where
      abbrev below : List (ℕ × Tree O ℕ t.0)
      below = put (suc t.0) ((0, F (suc t.0) t.1) ∷ [])

      same_length : length (put_n gs s a (suc t.0) ((0, t.1) ∷ [])) ≡ length below
      same_length = ap (λ (z : List (ℕ × Tree ℕ ℕ t.0)). length z) (put_numbers (suc t.0) ((0, t.1) ∷ []) (λ j lt. h j (omega arith))) ∙ numbers_length t.0 (2 * t.0) below

      -- the blocks written: no root above, or one
      pub root_one : (b : ℕ) → length (put_n gs s a (suc t.0) ((0, t.1) ∷ [])) ≡ 1 → occ b (linked (moves gs s a (suc t.0) ((0, t.1) ∷ []))) ≡ picked b (places ℕ (put_root O ℕ None s a (over_root Some same t)))
      root_one b n =
          put_picked b (suc t.0) ((0, t.1) ∷ []) (λ j lt. h j (omega arith))
          ∙ one_place t.0 b below (sym same_length ∙ n)
          ∙ ap (λ (z : Root O ℕ). picked b (places ℕ z)) (below_one O ℕ None s a t.0 (F (suc t.0) t.1))

      pub root_more : (b : ℕ) → 1 < length (put_n gs s a (suc t.0) ((0, t.1) ∷ [])) → occ b (linked (moves gs s a (suc t.0) ((0, t.1) ∷ [])) ++ get_or gs (2 * suc t.0) 0 ∷ []) ≡ picked b (places ℕ (put_root O ℕ None s a (over_root Some same t)))
      root_more b n =
          let x = get_or gs (2 * suc t.0) 0 in
          let vs = linked (moves gs s a (suc t.0) ((0, t.1) ∷ [])) in
          let all : occ b (vs ++ x ∷ []) ≡ picked b (places ℕ (only O ℕ t.0 None below)) = omega (arith, occ_append b vs (x ∷ []), ap (λ z. one z b) (h (2 * suc t.0) (omega arith)), put_picked b (suc t.0) ((0, t.1) ∷ []) (λ j lt. h j (omega arith)), more_places t.0 b below (omega (arith, same_length))) in
          all ∙ ap (λ (z : Root O ℕ). picked b (places ℕ z)) (below_one O ℕ None s a t.0 (F (suc t.0) t.1))
