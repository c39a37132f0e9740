-- What is not written anew is as it was.
use Rattle.std.proofs.Common.{◌≡◌, ℕ, zero, suc, ◌-◌, eqb, ltb, ◌⊎◌, List, [], ◌∷◌, ◌++◌, length, take, drop, sym, refl, subst, inl, inr, ⊎_elim}
use Rattle.std.proofs.lemmas.Bool.{cond_both}
use Rattle.tree.specs.Node.{ins, del, ahead, is_nil, at, beside, Every, Any, parts, opened, touch, kid, ready_right, ready_left}
use Rattle.tree.specs.Tree.{Pay, Tree, All, put_e, rem_e, Root, put_root, only, lower, rem_root, Kept, Occurs, Unaltered}

module _ {X : Type 0} (F : X → Type 0) where
  pub every_append : (xs ys : List (ℕ × X)) → Every F xs → Every F ys → Every F (xs ++ ys)
  every_append [] ys p q = q
  every_append (e ∷ r) ys p q = (p.0, every_append r ys p.1 q)

  pub every_take : (n : ℕ) (xs : List (ℕ × X)) → Every F xs → Every F (take n xs)
  every_take zero xs p = tt
  every_take (suc n) [] p = tt
  every_take (suc n) (e ∷ r) p = (p.0, every_take n r p.1)

  pub every_drop : (n : ℕ) (xs : List (ℕ × X)) → Every F xs → Every F (drop n xs)
  every_drop zero xs p = p
  every_drop (suc n) [] p = tt
  every_drop (suc n) (e ∷ r) p = every_drop n r p.1

  pub every_at : (s : ℕ) (f : ℕ → X → List (ℕ × X)) → ((k : ℕ) (x : X) → F x → Every F (f k x)) → (es : List (ℕ × X)) → Every F es → Every F (at s f es)
  every_at s f h [] p = tt
  every_at s f h (e ∷ r) p =
      cond_both (ahead s r) _ _ (Every F) (λ t. every_append (f e.0 e.1) r (h e.0 e.1 p.0) p.1) (λ t. (p.0, every_at s f h r p.1))

  every_beside : (s : ℕ) (f : ℕ → X → List (ℕ × X)) (fR fL : (ℕ × X) → (ℕ × X) → List (ℕ × X)) → ((k : ℕ) (x : X) → F x → Every F (f k x))
      → ((e d : ℕ × X) → F e.1 → F d.1 → Every F (fR e d)) → ((e d : ℕ × X) → F e.1 → F d.1 → Every F (fL e d)) → (e : ℕ × X) (r : List (ℕ × X)) → F e.1 → Every F r → Every F (beside s f fR fL e r)
  every_beside s f fR fL h hR hL e [] a p = h e.0 e.1 a
  every_beside s f fR fL h hR hL e (d ∷ r) a p =
      cond_both (ltb s d.0) _ _ (Every F) (λ t. every_append (fR e d) r (hR e d a p.0) p.1)
      (λ t. cond_both (is_nil r) _ _ (Every F) (λ u. hL e d a p.0) (λ u. (a, every_beside s f fR fL h hR hL d r p.0 p.1)))

module _ (M P : Type 0) (new : M) (Q : (l : ℕ) → Tree M P l → Type 0) (written : (l : ℕ) (es : List (ℕ × Pay M P l)) → Q l (new, es)) (s : ℕ) where
  every_touch : (l : ℕ) (g : List (ℕ × Pay M P l) → List (ℕ × Pay M P l)) → ((es : List (ℕ × Pay M P l)) → Every (All M P Q l) es → Every (All M P Q l) (g es)) → (k : ℕ) (t : Tree M P l) → All M P Q (suc l) t → Every (All M P Q (suc l)) (touch new g k t)
  every_touch l g h k t p = ((written l (g t.1), h t.1 p.1), tt)

  every_parts : (l n k : ℕ) (es : List (ℕ × Pay M P l)) → Every (All M P Q l) es → Every (All M P Q (suc l)) (parts new n k es)
  every_parts l n k es p = ((written l (take n es), every_take (All M P Q l) n es p), ((written l (drop n es), every_drop (All M P Q l) n es p), tt))

  put_every : (a : P) (l : ℕ) (es : List (ℕ × Pay M P l)) → Every (All M P Q l) es → Every (All M P Q l) (put_e M P new s a l es)
  put_every a zero es p = leaf (ins s a es)
    where
      leaf : (es : List (ℕ × P)) → Every (All M P Q zero) es
      leaf [] = tt
      leaf (e ∷ r) = (tt, leaf r)
  put_every a (suc l) es p =
      every_at (All M P Q (suc l)) s (kid new s (put_e M P new s a l))
      (λ k t q. every_at (All M P Q (suc l)) s (touch new (put_e M P new s a l)) (every_touch l (put_e M P new s a l) (put_every a l)) (opened new k t)
      (cond_both (eqb (length t.1) 15) _ _ (Every (All M P Q (suc l))) (λ u. every_parts l 7 k t.1 q.1) (λ u. (q, tt))))
      es p

  rem_every : (l : ℕ) (es : List (ℕ × Pay M P l)) → Every (All M P Q l) es → Every (All M P Q l) (rem_e M P new s l es)
  rem_every zero es p = leaf (del s es)
    where
      leaf : (es : List (ℕ × P)) → Every (All M P Q zero) es
      leaf [] = tt
      leaf (e ∷ r) = (tt, leaf r)
  rem_every (suc l) [] p = tt
  rem_every (suc l) (e ∷ r) p =
      let F = All M P Q (suc l) in
      let f = All M P Q l in
      let g = rem_e M P new s l in
      let w = every_touch l g (rem_every l) in
      every_beside F s (touch new g) (λ e d. at s (touch new g) (ready_right new e d)) (λ e d. at s (touch new g) (ready_left new e d)) w
      (λ e d a b. every_at F s (touch new g) w (ready_right new e d)
      (cond_both (eqb (length e.1.1) 7) _ _ (Every F)
      (λ t. cond_both (eqb (length d.1.1) 7) _ _ (Every F)
      (λ u. ((written l _, every_append f e.1.1 d.1.1 a.1 b.1), tt))
      (λ u. ((written l _, every_append f e.1.1 (take 1 d.1.1) a.1 (every_take f 1 d.1.1 b.1)), ((written l _, every_drop f 1 d.1.1 b.1), tt))))
      (λ t. (a, (b, tt)))))
      (λ e d a b. let n = length e.1.1 - 1 in
      every_at F s (touch new g) w (ready_left new e d)
      (cond_both (eqb (length d.1.1) 7) _ _ (Every F)
      (λ t. cond_both (eqb (length e.1.1) 7) _ _ (Every F)
      (λ u. ((written l _, every_append f e.1.1 d.1.1 a.1 b.1), tt))
      (λ u. ((written l _, every_take f n e.1.1 a.1), ((written l _, every_append f (drop n e.1.1) d.1.1 (every_drop f n e.1.1 a.1) b.1), tt))))
      (λ t. (a, (b, tt)))))
      e r p.0 p.1

  lower_all : (l : ℕ) (t : Tree M P l) → All M P Q (suc l) t → All M P Q (suc (lower M P l t).0) (lower M P l t).1
  lower_all zero t p = p
  lower_all (suc l) t p = go t.1 p.1 p
    where
      go : (es : List (ℕ × Tree M P l)) → Every (All M P Q (suc l)) es → All M P Q (suc (suc l)) (t.0, es) → All M P Q (suc (only M P l t.0 es).0) (only M P l t.0 es).1
      go [] a b = b
      go (e ∷ []) a b = a.0
      go (e ∷ d ∷ r) a b = b

-- of remove alone
pub rem_kept : (M P : Type 0) (new : M) (Q : (l : ℕ) → Tree M P l → Type 0) → ((l : ℕ) (es : List (ℕ × Pay M P l)) → Q l (new, es)) → (s : ℕ) (r : Root M P) → All M P Q (suc r.0) r.1
    → All M P Q (suc (rem_root M P new s r).0) (rem_root M P new s r).1
rem_kept M P new Q written s r p = lower_all M P new Q written s r.0 (new, rem_e M P new s r.0 r.1.1) (written _ _, rem_every M P new Q written s r.0 r.1.1 p.1)

pub kept : (M P : Type 0) → Kept M P
kept M P new Q written s a r p = (
  cond_both (eqb (length r.1.1) 15) (suc r.0, (new, parts new 7 0 r.1.1)) r (λ (q : Root M P). All M P Q (suc q.0) (new, put_e M P new s a q.0 q.1.1))
      (λ u. (written _ _, put_every M P new Q written s a (suc r.0) (parts new 7 0 r.1.1) (every_parts M P new Q written s r.0 7 0 r.1.1 p.1)))
      (λ u. (written _ _, put_every M P new Q written s a r.0 r.1.1 p.1)),
  rem_kept M P new Q written s r p,
)

module _ (M P : Type 0) where
  to_all : (F : Root M P → Type 0) (l : ℕ) (p : Pay M P l) → ((x : Root M P) → Occurs M P x l p → F x) → All M P (λ i t. F (i, t)) l p
  to_all F zero p h = tt
  to_all F (suc l) t h = (h (l, t) (inl refl), go (to_all F l) t.1 (λ x q. h x (inr q)))
    where
      go : ((p : Pay M P l) → ((x : Root M P) → Occurs M P x l p → F x) → All M P (λ i t. F (i, t)) l p) → (es : List (ℕ × Pay M P l)) → ((x : Root M P) → Any (Occurs M P x l) es → F x) → Every (All M P (λ i t. F (i, t)) l) es
      go ih [] k = tt
      go ih (e ∷ r) k = (ih e.1 (λ x q. k x (inl q)), go ih r (λ x q. k x (inr q)))

  of_all : (F : Root M P → Type 0) (x : Root M P) (l : ℕ) (p : Pay M P l) → All M P (λ i t. F (i, t)) l p → Occurs M P x l p → F x
  of_all F x zero p h q = absurd q
  of_all F x (suc l) t h q = ⊎_elim (λ e. subst F (sym e) h.0) (λ o. go (of_all F x l) t.1 h.1 o) q
    where
      go : ((p : Pay M P l) → All M P (λ i t. F (i, t)) l p → Occurs M P x l p → F x) → (es : List (ℕ × Pay M P l)) → Every (All M P (λ i t. F (i, t)) l) es → Any (Occurs M P x l) es → F x
      go ih [] k o = absurd o
      go ih (e ∷ r) k o = ⊎_elim (λ o. ih e.1 k.0 o) (λ o. go ih r k.1 o) o

pub unaltered : (M P : Type 0) → Unaltered M P
unaltered M P new s a r x =
    let F : Root M P → Type 0 = λ y. (y.1.0 ≡ new) ⊎ Occurs M P y (suc r.0) r.1 in
    let k = kept M P new (λ i t. F (i, t)) (λ l es. inl refl) s a r (to_all M P F (suc r.0) r.1 (λ y o. inr o)) in
    let p = put_root M P new s a r in
    let q = rem_root M P new s r in
    (of_all M P F x (suc p.0) p.1 k.0, of_all M P F x (suc q.0) q.1 k.1)
