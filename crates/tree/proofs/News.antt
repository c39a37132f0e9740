-- How many blocks are new.
use Rattle.std.proofs.Common.{◌≡◌, ℕ, zero, suc, ◌+◌, ◌-◌, ◌*◌, ◌≤◌, eqb, ltb, List, [], ◌∷◌, ◌++◌, length, take, drop, sym, refl, ap, ◌∙◌, arith, length-drop, take-append-drop, length-take}
use Rattle.std.proofs.lemmas.Bool.{cond_both, eqb-true}
use Rattle.tree.specs.Node.{ins, del, ahead, is_nil, first, at, beside, flat, tally, Every, parts, touch, kid, ready_right, ready_left}
use Rattle.tree.specs.Tree.{Pay, Tree, Marks, blocks, put_e, rem_e, Root, put_root, only, lower, rem_root, FewNew}
use Rattle.tree.proofs.Segs.{flat_append}

pub tally_append : {Y : Type 0} (c : Y → ℕ) (xs ys : List Y) → tally c (xs ++ ys) ≡ tally c xs + tally c ys
tally_append c [] ys = omega arith
tally_append c (x ∷ xs) ys = omega (arith, tally_append c xs ys)

module _ {X Y : Type 0} (c : Y → ℕ) (R : ℕ → X → List Y) where
  flat_tally : (xs ys : List (ℕ × X)) → tally c (flat R (xs ++ ys)) ≡ tally c (flat R xs) + tally c (flat R ys)
  flat_tally xs ys = ap (tally c) (flat_append R xs ys) ∙ tally_append c (flat R xs) (flat R ys)

  cut_tally : (n : ℕ) (es : List (ℕ × X)) → tally c (flat R (take n es)) + tally c (flat R (drop n es)) ≡ tally c (flat R es)
  cut_tally n es = sym (flat_tally (take n es) (drop n es)) ∙ ap (λ (z : List (ℕ × X)). tally c (flat R z)) (take-append-drop n es)

  at_tally : (s n : ℕ) (Q : X → Type 0) (f : ℕ → X → List (ℕ × X)) → ((k : ℕ) (x : X) → Q x → tally c (flat R (f k x)) ≤ tally c (R k x) + n) → (es : List (ℕ × X)) → Every Q es → tally c (flat R (at s f es)) ≤ tally c (flat R es) + n
  at_tally s n Q f h [] q = omega arith
  at_tally s n Q f h (e ∷ r) q =
      let t = tally_append c (R e.0 e.1) (flat R r) in
      cond_both (ahead s r) _ _ (λ z. tally c (flat R z) ≤ tally c (flat R (e ∷ r)) + n)
      (λ u. omega (arith, flat_tally (f e.0 e.1) r, h e.0 e.1 q.0, t))
      (λ u. omega (arith, at_tally s n Q f h r q.1, tally_append c (R e.0 e.1) (flat R (at s f r)), t))

  beside_tally : (s n : ℕ) (f : ℕ → X → List (ℕ × X)) (fR fL : (ℕ × X) → (ℕ × X) → List (ℕ × X)) → ((k : ℕ) (x : X) → tally c (flat R (f k x)) ≤ tally c (R k x) + n)
      → ((e d : ℕ × X) → tally c (flat R (fR e d)) ≤ tally c (R e.0 e.1) + tally c (R d.0 d.1) + n)
      → ((e d : ℕ × X) → tally c (flat R (fL e d)) ≤ tally c (R e.0 e.1) + tally c (R d.0 d.1) + n)
      → (e : ℕ × X) (r : List (ℕ × X)) → tally c (flat R (beside s f fR fL e r)) ≤ tally c (flat R (e ∷ r)) + n
  beside_tally s n f fR fL h hR hL e [] = omega (arith, h e.0 e.1, tally_append c (R e.0 e.1) [])
  beside_tally s n f fR fL h hR hL e (d ∷ r) =
      let t = tally_append c (R e.0 e.1) (flat R (d ∷ r)) in
      let v = tally_append c (R d.0 d.1) (flat R r) in
      let G : List (ℕ × X) → Type 0 = λ z. tally c (flat R z) ≤ tally c (flat R (e ∷ d ∷ r)) + n in
      cond_both (ltb s d.0) _ _ G
      (λ u. omega (arith, flat_tally (fR e d) r, hR e d, t, v))
      (λ u. cond_both (is_nil r) _ _ G (λ w. omega (arith, hL e d, t, v))
      (λ w. omega (arith, beside_tally s n f fR fL h hR hL d r, tally_append c (R e.0 e.1) (flat R (beside s f fR fL d r)), t)))

module _ (M P : Type 0) (new : M) (c : M → ℕ) (one : c new ≡ 1) (s : ℕ) where
  abbrev T : (l : ℕ) → List (ℕ × Pay M P l) → ℕ
  T l es = tally c (flat (λ k x. Marks M P l x) es)

  New : (l : ℕ) → Tree M P l → Type 0
  New l t = t.0 ≡ new

  -- a touched block: one more, or none more where it was new
  touch_old : (l n : ℕ) (g : List (ℕ × Pay M P l) → List (ℕ × Pay M P l)) → ((es : List (ℕ × Pay M P l)) → T l (g es) ≤ T l es + n) → (k : ℕ) (t : Tree M P l) → T (suc l) (touch new g k t) ≤ T l t.1 + (n + 1)
  touch_old l n g h k t = omega (arith, h t.1, one, tally_append c (flat (λ k x. Marks M P l x) (g t.1)) [])

  touch_new : (l n : ℕ) (g : List (ℕ × Pay M P l) → List (ℕ × Pay M P l)) → ((es : List (ℕ × Pay M P l)) → T l (g es) ≤ T l es + n) → (k : ℕ) (t : Tree M P l) → New l t → T (suc l) (touch new g k t) ≤ tally c (Marks M P (suc l) t) + n
  unfolding New
  touch_new l n g h k t q = omega (arith, touch_old l n g h k t, one, ap c q)

  parts_tally : (l n k : ℕ) (es : List (ℕ × Pay M P l)) → T (suc l) (parts new n k es) ≡ T l es + 2
  parts_tally l n k es =
      omega (arith, cut_tally c (λ k x. Marks M P l x) n es, one, tally_append c (flat (λ k x. Marks M P l x) (take n es)) (flat (λ k x. Marks M P (suc l) x) ((first (drop n es), (new, drop n es)) ∷ [])), tally_append c (flat (λ k x. Marks M P l x) (drop n es)) [])

  kid_tally : (l n : ℕ) (g : List (ℕ × Pay M P l) → List (ℕ × Pay M P l)) → ((es : List (ℕ × Pay M P l)) → T l (g es) ≤ T l es + n) → (k : ℕ) (t : Tree M P l) → T (suc l) (kid new s g k t) ≤ tally c (Marks M P (suc l) t) + (n + 2)
  unfolding New
  kid_tally l n g h k t =
      cond_both (eqb (length t.1) 15) _ _ (λ z. T (suc l) (at s (touch new g) z) ≤ tally c (Marks M P (suc l) t) + (n + 2))
      (λ u. omega (arith, parts_tally l 7 k t.1, at_tally c (λ k x. Marks M P (suc l) x) s n (New l) (touch new g) (touch_new l n g h) (parts new 7 k t.1) (refl, (refl, tt))))
      (λ u. omega (arith, touch_old l n g h k t, tally_append c (flat (λ k x. Marks M P (suc l) x) (touch new g k t)) []))

  new_is : (l : ℕ) (es : List (ℕ × Pay M P l)) → New l (new, es)
  unfolding New
  new_is l es = refl

  one_tally : (l k : ℕ) (xs : List (ℕ × Pay M P l)) → T (suc l) ((k, (new, xs)) ∷ []) ≡ T l xs + 1
  one_tally l k xs = omega (arith, one, tally_append c (flat (λ k x. Marks M P l x) xs) [])

  two_tally : (l k j : ℕ) (xs ys : List (ℕ × Pay M P l)) → T (suc l) ((k, (new, xs)) ∷ (j, (new, ys)) ∷ []) ≡ T l xs + T l ys + 2
  two_tally l k j xs ys = omega (arith, one, one_tally l j ys, tally_append c (flat (λ k x. Marks M P l x) xs) (flat (λ k x. Marks M P (suc l) x) ((j, (new, ys)) ∷ [])))

  leaf_tally : (es : List (ℕ × P)) → T 0 es ≡ 0
  leaf_tally [] = refl
  leaf_tally (e ∷ r) = leaf_tally r

  every_true : {X : Type 0} (es : List (ℕ × X)) → Every (λ _. Unit {0}) es
  every_true [] = tt
  every_true (e ∷ r) = (tt, every_true r)

  put_news : (a : P) (l : ℕ) (es : List (ℕ × Pay M P l)) → T l (put_e M P new s a l es) ≤ T l es + 2 * l
  put_news a zero es = omega (arith, leaf_tally (ins s a es))
  put_news a (suc l) es =
      omega (arith, at_tally c (λ k x. Marks M P (suc l) x) s (2 * l + 2) (λ _. Unit {0}) (kid new s (put_e M P new s a l)) (λ k x q. kid_tally l (2 * l) (put_e M P new s a l) (put_news a l) k x) es (every_true es))

  -- a full root, split
  raised_news : (a : P) (l : ℕ) (es : List (ℕ × Pay M P l)) → length es ≡ 15 → T (suc l) (put_e M P new s a (suc l) (parts new 7 0 es)) ≤ T l es + (2 * l + 2)
  raised_news a l es n =
      omega (
        arith,
        parts_tally l 7 0 es,
        at_tally c (λ k x. Marks M P (suc l) x) s (2 * l) (λ t. New l t × (length t.1 ≡ 15 → ⊥)) (kid new s (put_e M P new s a l))
            (λ k t q. cond_both (eqb (length t.1) 15) _ _ (λ z. T (suc l) (at s (touch new (put_e M P new s a l)) z) ≤ tally c (Marks M P (suc l) t) + 2 * l)
            (λ u. absurd (q.1 (eqb-true (length t.1) 15 u)))
            (λ u. omega (arith, touch_new l (2 * l) (put_e M P new s a l) (put_news a l) k t q.0, tally_append c (flat (λ k x. Marks M P (suc l) x) (touch new (put_e M P new s a l) k t)) [])))
            (parts new 7 0 es) ((new_is l (take 7 es), λ q. omega (arith, length-take 7 es)), ((new_is l (drop 7 es), λ q. omega (arith, length-drop 7 es)), tt)),
      )

  pairs : (l : ℕ) (e d : ℕ × Tree M P l) (z : List (ℕ × Tree M P l)) (n : ℕ) (g : List (ℕ × Pay M P l) → List (ℕ × Pay M P l)) → ((es : List (ℕ × Pay M P l)) → T l (g es) ≤ T l es + n)
      → Every (New l) z → T (suc l) z ≤ T l e.1.1 + T l d.1.1 + 2
      → T (suc l) (at s (touch new g) z) ≤ tally c (Marks M P (suc l) e.1) + tally c (Marks M P (suc l) d.1) + (n + 2)
  pairs l e d z n g h q b = omega (arith, b, at_tally c (λ k x. Marks M P (suc l) x) s n (New l) (touch new g) (touch_new l n g h) z q)

  both_old : (l : ℕ) (e d : ℕ × Tree M P l) (n : ℕ) (g : List (ℕ × Pay M P l) → List (ℕ × Pay M P l)) → ((es : List (ℕ × Pay M P l)) → T l (g es) ≤ T l es + n)
      → T (suc l) (at s (touch new g) (e ∷ d ∷ [])) ≤ tally c (Marks M P (suc l) e.1) + tally c (Marks M P (suc l) d.1) + (n + 2)
  both_old l e d n g h =
      omega (
        arith,
        at_tally c (λ k x. Marks M P (suc l) x) s (n + 1) (λ _. Unit {0}) (touch new g) (λ k t q. omega (arith, touch_old l n g h k t)) (e ∷ d ∷ []) (tt, (tt, tt)),
        tally_append c (Marks M P (suc l) e.1) (Marks M P (suc l) d.1 ++ []),
        tally_append c (Marks M P (suc l) d.1) [],
      )

  right_tally : (l n : ℕ) (g : List (ℕ × Pay M P l) → List (ℕ × Pay M P l)) → ((es : List (ℕ × Pay M P l)) → T l (g es) ≤ T l es + n) → (e d : ℕ × Tree M P l)
      → T (suc l) (at s (touch new g) (ready_right new e d)) ≤ tally c (Marks M P (suc l) e.1) + tally c (Marks M P (suc l) d.1) + (n + 2)
  right_tally l n g h e d =
      let xs = e.1.1 in
      let ys = d.1.1 in
      let R = λ (k : ℕ) (x : Pay M P l). Marks M P l x in
      let G : List (ℕ × Tree M P l) → Type 0 = λ z. T (suc l) (at s (touch new g) z) ≤ tally c (Marks M P (suc l) e.1) + tally c (Marks M P (suc l) d.1) + (n + 2) in
      cond_both (eqb (length xs) 7) _ _ G
      (λ t. cond_both (eqb (length ys) 7) _ _ G
      (λ u. pairs l e d ((e.0, (new, xs ++ ys)) ∷ []) n g h (new_is l (xs ++ ys), tt) (omega (arith, one_tally l e.0 (xs ++ ys), flat_tally c R xs ys)))
      (λ u. pairs l e d ((e.0, (new, xs ++ take 1 ys)) ∷ (first (drop 1 ys), (new, drop 1 ys)) ∷ []) n g h (new_is l (xs ++ take 1 ys), (new_is l (drop 1 ys), tt)) (omega (arith, two_tally l e.0 (first (drop 1 ys)) (xs ++ take 1 ys) (drop 1 ys), flat_tally c R xs (take 1 ys), cut_tally c R 1 ys))))
      (λ t. both_old l e d n g h)

  left_tally : (l n : ℕ) (g : List (ℕ × Pay M P l) → List (ℕ × Pay M P l)) → ((es : List (ℕ × Pay M P l)) → T l (g es) ≤ T l es + n) → (e d : ℕ × Tree M P l)
      → T (suc l) (at s (touch new g) (ready_left new e d)) ≤ tally c (Marks M P (suc l) e.1) + tally c (Marks M P (suc l) d.1) + (n + 2)
  left_tally l n g h e d =
      let xs = e.1.1 in
      let ys = d.1.1 in
      let k = length xs - 1 in
      let R = λ (k : ℕ) (x : Pay M P l). Marks M P l x in
      let G : List (ℕ × Tree M P l) → Type 0 = λ z. T (suc l) (at s (touch new g) z) ≤ tally c (Marks M P (suc l) e.1) + tally c (Marks M P (suc l) d.1) + (n + 2) in
      cond_both (eqb (length ys) 7) _ _ G
      (λ t. cond_both (eqb (length xs) 7) _ _ G
      (λ u. pairs l e d ((e.0, (new, xs ++ ys)) ∷ []) n g h (new_is l (xs ++ ys), tt) (omega (arith, one_tally l e.0 (xs ++ ys), flat_tally c R xs ys)))
      (λ u. pairs l e d ((e.0, (new, take k xs)) ∷ (first (drop k xs), (new, drop k xs ++ ys)) ∷ []) n g h (new_is l (take k xs), (new_is l (drop k xs ++ ys), tt)) (omega (arith, two_tally l e.0 (first (drop k xs)) (take k xs) (drop k xs ++ ys), flat_tally c R (drop k xs) ys, cut_tally c R k xs))))
      (λ t. both_old l e d n g h)

  rem_news : (l : ℕ) (es : List (ℕ × Pay M P l)) → T l (rem_e M P new s l es) ≤ T l es + 2 * l
  rem_news zero es = omega (arith, leaf_tally (del s es))
  rem_news (suc l) [] = omega arith
  rem_news (suc l) (e ∷ r) =
      let g = rem_e M P new s l in
      omega (
        arith,
        beside_tally c (λ k x. Marks M P (suc l) x) s (2 * l + 2) (touch new g) (λ e d. at s (touch new g) (ready_right new e d)) (λ e d. at s (touch new g) (ready_left new e d))
            (λ k t. omega (arith, touch_old l (2 * l) g (rem_news l) k t)) (right_tally l (2 * l) g (rem_news l)) (left_tally l (2 * l) g (rem_news l)) e r,
      )

  lower_tally : (l : ℕ) (t : Tree M P l) → tally c (blocks M P (lower M P l t).0 (lower M P l t).1) ≤ tally c (blocks M P l t)
  lower_tally zero t = omega arith
  lower_tally (suc l) t = go t.1
    where
      go : (es : List (ℕ × Tree M P l)) → tally c (blocks M P (only M P l t.0 es).0 (only M P l t.0 es).1) ≤ tally c (blocks M P (suc l) (t.0, es))
      go [] = omega arith
      go (e ∷ []) = omega (arith, tally_append c (flat (λ k x. Marks M P l x) e.1.1) [])
      go (e ∷ d ∷ r) = omega arith

  put_root_news : (a : P) (r : Root M P) → tally c (blocks M P (put_root M P new s a r).0 (put_root M P new s a r).1) ≤ tally c (blocks M P r.0 r.1) + (2 * suc r.0 + 1)
  put_root_news a r =
      cond_both (eqb (length r.1.1) 15) (suc r.0, (new, parts new 7 0 r.1.1)) r
      (λ (q : Root M P). tally c (blocks M P q.0 (new, put_e M P new s a q.0 q.1.1)) ≤ tally c (blocks M P r.0 r.1) + (2 * suc r.0 + 1))
      (λ u. omega (arith, one, raised_news a r.0 r.1.1 (eqb-true (length r.1.1) 15 u)))
      (λ u. omega (arith, one, put_news a r.0 r.1.1))

  pub rem_root_news : (r : Root M P) → tally c (blocks M P (rem_root M P new s r).0 (rem_root M P new s r).1) ≤ tally c (blocks M P r.0 r.1) + (2 * suc r.0 + 1)
  rem_root_news r = omega (arith, one, lower_tally r.0 (new, rem_e M P new s r.0 r.1.1), rem_news r.0 r.1.1)

pub few_new : (M P : Type 0) → FewNew M P
few_new M P new c one s a r w = (put_root_news M P new c one s a r, rem_root_news M P new c one s r)
