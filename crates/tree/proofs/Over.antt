-- Marks and values do not steer put and remove.
use Rattle.std.proofs.Common.{◌≡◌, ℕ, zero, suc, ◌-◌, Bool, true, false, cond, eqb, ltb, List, [], ◌∷◌, ◌++◌, length, take, drop, refl, ap, ◌∙◌}
use Rattle.tree.specs.Node.{ins, del, ahead, is_nil, first, at, beside, Seg, flat, map_e, parts, opened, touch, kid, ready_right, ready_left}
use Rattle.tree.specs.Tree.{Pay, Tree, Gap, Rows, Cell, over, over_root, put_e, rem_e, Root, raise, put_root, only, lower, rem_root, Natural, OverRows}

pub cond_map : {A B : Type 0} (h : A → B) (b : Bool) (x y : A) (u v : B) → h x ≡ u → h y ≡ v → h (cond b x y) ≡ cond b u v
cond_map h true x y u v p q = p
cond_map h false x y u v p q = q

module _ {X Y : Type 0} (F : X → Y) where
  pub map-append : (xs ys : List (ℕ × X)) → map_e F (xs ++ ys) ≡ map_e F xs ++ map_e F ys
  map-append [] ys = refl
  map-append (e ∷ r) ys = ap (λ (z : List (ℕ × Y)). (e.0, F e.1) ∷ z) (map-append r ys)

  pub map_take : (n : ℕ) (xs : List (ℕ × X)) → map_e F (take n xs) ≡ take n (map_e F xs)
  map_take zero xs = refl
  map_take (suc n) [] = refl
  map_take (suc n) (e ∷ r) = ap (λ (z : List (ℕ × Y)). (e.0, F e.1) ∷ z) (map_take n r)

  pub map_drop : (n : ℕ) (xs : List (ℕ × X)) → map_e F (drop n xs) ≡ drop n (map_e F xs)
  map_drop zero xs = refl
  map_drop (suc n) [] = refl
  map_drop (suc n) (e ∷ r) = map_drop n r

  pub map_length : (xs : List (ℕ × X)) → length (map_e F xs) ≡ length xs
  map_length [] = refl
  map_length (e ∷ r) = ap suc (map_length r)

  pub map_first : (xs : List (ℕ × X)) → first (map_e F xs) ≡ first xs
  map_first [] = refl
  map_first (e ∷ r) = refl

  pub map_ahead : (s : ℕ) (xs : List (ℕ × X)) → ahead s (map_e F xs) ≡ ahead s xs
  map_ahead s [] = refl
  map_ahead s (e ∷ r) = refl

  map_nil : (xs : List (ℕ × X)) → is_nil (map_e F xs) ≡ is_nil xs
  map_nil [] = refl
  map_nil (e ∷ r) = refl

  -- one test on both sides
  map_cond : (b : Bool) (x y : List (ℕ × X)) (u v : List (ℕ × Y)) → map_e F x ≡ u → map_e F y ≡ v → map_e F (cond b x y) ≡ cond b u v
  map_cond b x y u v p q = cond_map (map_e F) b x y u v p q

  pub map_ins : (s : ℕ) (a : X) (xs : List (ℕ × X)) → map_e F (ins s a xs) ≡ ins s (F a) (map_e F xs)
  map_ins s a [] = refl
  map_ins s a (e ∷ r) = map_cond (ltb s e.0) _ _ _ _ refl (map_cond (ltb e.0 s) _ _ _ _ (ap (λ (z : List (ℕ × Y)). (e.0, F e.1) ∷ z) (map_ins s a r)) refl)

  pub map_del : (s : ℕ) (xs : List (ℕ × X)) → map_e F (del s xs) ≡ del s (map_e F xs)
  map_del s [] = refl
  map_del s (e ∷ r) = map_cond (eqb s e.0) _ _ _ _ refl (ap (λ (z : List (ℕ × Y)). (e.0, F e.1) ∷ z) (map_del s r))

  pub map_at_lem : (s : ℕ) (f : ℕ → X → List (ℕ × X)) (f' : ℕ → Y → List (ℕ × Y)) → ((k : ℕ) (x : X) → map_e F (f k x) ≡ f' k (F x)) → (xs : List (ℕ × X)) → map_e F (at s f xs) ≡ at s f' (map_e F xs)
  map_at_lem s f f' h [] = refl
  map_at_lem s f f' h (e ∷ r) =
      rw (map_ahead s r)
      (map_cond (ahead s r) _ _ _ _ (map-append (f e.0 e.1) r ∙ ap (λ (z : List (ℕ × Y)). z ++ map_e F r) (h e.0 e.1)) (ap (λ (z : List (ℕ × Y)). (e.0, F e.1) ∷ z) (map_at_lem s f f' h r)))

  map_beside : (s : ℕ) (f : ℕ → X → List (ℕ × X)) (fR fL : (ℕ × X) → (ℕ × X) → List (ℕ × X)) (f' : ℕ → Y → List (ℕ × Y)) (fR' fL' : (ℕ × Y) → (ℕ × Y) → List (ℕ × Y))
      → ((k : ℕ) (x : X) → map_e F (f k x) ≡ f' k (F x)) → ((e d : ℕ × X) → map_e F (fR e d) ≡ fR' (e.0, F e.1) (d.0, F d.1)) → ((e d : ℕ × X) → map_e F (fL e d) ≡ fL' (e.0, F e.1) (d.0, F d.1))
      → (e : ℕ × X) (r : List (ℕ × X)) → map_e F (beside s f fR fL e r) ≡ beside s f' fR' fL' (e.0, F e.1) (map_e F r)
  map_beside s f fR fL f' fR' fL' h hR hL e [] = h e.0 e.1
  map_beside s f fR fL f' fR' fL' h hR hL e (d ∷ r) =
      map_cond (ltb s d.0) _ _ _ _ (map-append (fR e d) r ∙ ap (λ (z : List (ℕ × Y)). z ++ map_e F r) (hR e d))
      (rw (map_nil r) (map_cond (is_nil r) _ _ _ _ (hL e d) (ap (λ (z : List (ℕ × Y)). (e.0, F e.1) ∷ z) (map_beside s f fR fL f' fR' fL' h hR hL d r))))

module _ {M P M' P' : Type 0} (g : M → M') (f : P → P') (new : M) (s : ℕ) where
  abbrev on : (l : ℕ) → List (ℕ × Pay M P l) → List (ℕ × Pay M' P' l)
  on l es = map_e (over g f l) es

  on_parts : (l n k : ℕ) (es : List (ℕ × Pay M P l)) → on (suc l) (parts new n k es) ≡ parts (g new) n k (on l es)
  on_parts l n k es = rw (← map_drop (over g f l) n es, ← map_take (over g f l) n es, map_first (over g f l) (drop n es))

  on_touch : (l : ℕ) (u : List (ℕ × Pay M P l) → List (ℕ × Pay M P l)) (u' : List (ℕ × Pay M' P' l) → List (ℕ × Pay M' P' l)) → ((es : List (ℕ × Pay M P l)) → on l (u es) ≡ u' (on l es)) → (k : ℕ) (t : Tree M P l) → on (suc l) (touch new u k t) ≡ touch (g new) u' k (over g f (suc l) t)
  on_touch l u u' h k t = rw (h t.1)

  on_opened : (l k : ℕ) (t : Tree M P l) → on (suc l) (opened new k t) ≡ opened (g new) k (over g f (suc l) t)
  on_opened l k t = rw (map_length (over g f l) t.1) (map_cond (over g f (suc l)) (eqb (length t.1) 15) _ _ _ _ (on_parts l 7 k t.1) refl)

  put_on : (a : P) (l : ℕ) (es : List (ℕ × Pay M P l)) → on l (put_e M P new s a l es) ≡ put_e M' P' (g new) s (f a) l (on l es)
  put_on a zero es = map_ins f s a es
  put_on a (suc l) es =
      let u = put_e M P new s a l in
      let u' = put_e M' P' (g new) s (f a) l in
      map_at_lem (over g f (suc l)) s (kid new s u) (kid (g new) s u')
      (λ k t. map_at_lem (over g f (suc l)) s (touch new u) (touch (g new) u') (on_touch l u u' (put_on a l)) (opened new k t) ∙ ap (at s (touch (g new) u')) (on_opened l k t))
      es

  on_right : (l : ℕ) (e d : ℕ × Tree M P l) → on (suc l) (ready_right new e d) ≡ ready_right (g new) (e.0, over g f (suc l) e.1) (d.0, over g f (suc l) d.1)
  on_right l e d =
      let F = over g f l in
      let xs = e.1.1 in
      let ys = d.1.1 in
      rw (map_length F xs, map_length F ys)
      (map_cond (over g f (suc l)) (eqb (length xs) 7) _ _ _ _
      (map_cond (over g f (suc l)) (eqb (length ys) 7) _ _ _ _ (rw (map-append F xs ys)) (rw (map-append F xs (take 1 ys), ← map_drop F 1 ys, ← map_take F 1 ys, map_first F (drop 1 ys))))
      refl)

  on_left : (l : ℕ) (e d : ℕ × Tree M P l) → on (suc l) (ready_left new e d) ≡ ready_left (g new) (e.0, over g f (suc l) e.1) (d.0, over g f (suc l) d.1)
  on_left l e d =
      let F = over g f l in
      let xs = e.1.1 in
      let ys = d.1.1 in
      let n = length xs - 1 in
      rw (map_length F xs, map_length F ys)
      (map_cond (over g f (suc l)) (eqb (length ys) 7) _ _ _ _
      (map_cond (over g f (suc l)) (eqb (length xs) 7) _ _ _ _ (rw (map-append F xs ys)) (rw (map-append F (drop n xs) ys, ← map_drop F n xs, ← map_take F n xs, map_first F (drop n xs))))
      refl)

  rem_on : (l : ℕ) (es : List (ℕ × Pay M P l)) → on l (rem_e M P new s l es) ≡ rem_e M' P' (g new) s l (on l es)
  rem_on zero es = map_del f s es
  rem_on (suc l) [] = refl
  rem_on (suc l) (e ∷ r) =
      let u = rem_e M P new s l in
      let u' = rem_e M' P' (g new) s l in
      let w = on_touch l u u' (rem_on l) in
      map_beside (over g f (suc l)) s (touch new u) (λ e d. at s (touch new u) (ready_right new e d)) (λ e d. at s (touch new u) (ready_left new e d))
      (touch (g new) u') (λ e d. at s (touch (g new) u') (ready_right (g new) e d)) (λ e d. at s (touch (g new) u') (ready_left (g new) e d)) w
      (λ e d. map_at_lem (over g f (suc l)) s (touch new u) (touch (g new) u') w (ready_right new e d) ∙ ap (at s (touch (g new) u')) (on_right l e d))
      (λ e d. map_at_lem (over g f (suc l)) s (touch new u) (touch (g new) u') w (ready_left new e d) ∙ ap (at s (touch (g new) u')) (on_left l e d))
      e r

  abbrev root_of : (l : ℕ) → M' → List (ℕ × Pay M' P' l) → Root M' P'
  root_of l m es = (l, (m, es))

  on_raise : (r : Root M P) → over_root g f (raise M P new r) ≡ raise M' P' (g new) (over_root g f r)
  on_raise r =
      rw (map_length (over g f r.0) r.1.1)
      (cond_map (over_root g f) (eqb (length r.1.1) 15) (suc r.0, (new, parts new 7 0 r.1.1)) r _ _
      (ap (λ (z : List (ℕ × Tree M' P' r.0)). root_of (suc r.0) (g new) z) (on_parts r.0 7 0 r.1.1)) refl)

  pub on_only : (l : ℕ) (m : M) (es : List (ℕ × Tree M P l)) → over_root g f (only M P l m es) ≡ only M' P' l (g m) (on (suc l) es)
  on_only l m [] = refl
  on_only l m (e ∷ []) = refl
  on_only l m (e ∷ d ∷ r) = refl

  on_lower : (l : ℕ) (t : Tree M P l) → over_root g f (lower M P l t) ≡ lower M' P' l (over g f (suc l) t)
  on_lower zero t = refl
  on_lower (suc l) t = on_only l t.0 t.1

  put_over : (a : P) (r : Root M P) → over_root g f (put_root M P new s a r) ≡ put_root M' P' (g new) s (f a) (over_root g f r)
  put_over a r =
      let q = raise M P new r in
      ap (λ (z : List (ℕ × Pay M' P' q.0)). root_of q.0 (g new) z) (put_on a q.0 q.1.1)
      ∙ ap (λ (z : Root M' P'). root_of z.0 (g new) (put_e M' P' (g new) s (f a) z.0 z.1.1)) (on_raise r)

  rem_over : (r : Root M P) → over_root g f (rem_root M P new s r) ≡ rem_root M' P' (g new) s (over_root g f r)
  rem_over r = on_lower r.0 (new, rem_e M P new s r.0 r.1.1) ∙ ap (λ (z : List (ℕ × Pay M' P' r.0)). lower M' P' r.0 (g new, z)) (rem_on r.0 r.1.1)

-- what the bounds and rows say
pub seg_map : {X Y : Type 0} (G : ℕ → ℕ → Type 0) (W : ℕ → ℕ → X → Type 0) (V : ℕ → ℕ → Y → Type 0) (F : X → Y) → ((k m : ℕ) (x : X) → W k m x → V k m (F x)) → (lo hi : ℕ) (es : List (ℕ × X)) → Seg G W lo hi es → Seg G V lo hi (map_e F es)
seg_map G W V F h lo hi [] p = p
seg_map G W V F h lo hi (e ∷ r) p = (p.0, (p.1.0, h _ _ _ p.1.1, seg_map G W V F h p.1.0 hi r p.1.2))

seg_back : {X Y : Type 0} (G : ℕ → ℕ → Type 0) (W : ℕ → ℕ → X → Type 0) (V : ℕ → ℕ → Y → Type 0) (F : X → Y) → ((k m : ℕ) (x : X) → V k m (F x) → W k m x) → (lo hi : ℕ) (es : List (ℕ × X)) → Seg G V lo hi (map_e F es) → Seg G W lo hi es
seg_back G W V F h lo hi [] p = p
seg_back G W V F h lo hi (e ∷ r) p = (p.0, (p.1.0, h _ _ _ p.1.1, seg_back G W V F h p.1.0 hi r p.1.2))

module _ {M P M' P' : Type 0} (g : M → M') (f : P → P') where
  pub cell_on : (l k m : ℕ) (x : Pay M P l) → Cell M P l k m x → Cell M' P' l k m (over g f l x)
  cell_on zero k m x p = p
  cell_on (suc l) k m t p = (seg_map (Gap l) (Cell M P l) (Cell M' P' l) (over g f l) (cell_on l) k m t.1 p.0, rw (map_length (over g f l) t.1) p.1, rw (map_length (over g f l) t.1) p.2)

  cell_back : (l k m : ℕ) (x : Pay M P l) → Cell M' P' l k m (over g f l x) → Cell M P l k m x
  cell_back zero k m x p = p
  cell_back (suc l) k m t p = (seg_back (Gap l) (Cell M P l) (Cell M' P' l) (over g f l) (cell_back l) k m t.1 p.0, rw (map_length (over g f l) t.1) at p.1, rw (map_length (over g f l) t.1) at p.2)

  flat_on : {X Y : Type 0} (F : X → Y) (R : ℕ → X → List (ℕ × P)) (S : ℕ → Y → List (ℕ × P')) → ((k : ℕ) (x : X) → S k (F x) ≡ map_e f (R k x)) → (es : List (ℕ × X)) → flat S (map_e F es) ≡ map_e f (flat R es)
  flat_on F R S h [] = refl
  flat_on F R S h (e ∷ r) = rw (map-append f (R e.0 e.1) (flat R r), h e.0 e.1, flat_on F R S h r)

  rows_on : (l k : ℕ) (x : Pay M P l) → Rows M' P' l k (over g f l x) ≡ map_e f (Rows M P l k x)
  rows_on zero k x = refl
  rows_on (suc l) k t = flat_on (over g f l) (Rows M P l) (Rows M' P' l) (rows_on l) t.1

pub natural : (M P M' P' : Type 0) → Natural M P M' P'
natural M P M' P' g f new s a r = (put_over g f new s a r, rem_over g f new s r)

pub over_rows : (M P M' P' : Type 0) → OverRows M P M' P'
over_rows M P M' P' g f r = (
  flat_on g f (over g f r.0) (Rows M P r.0) (Rows M' P' r.0) (rows_on g f r.0) r.1.1,
  (λ w. (seg_map (Gap r.0) (Cell M P r.0) (Cell M' P' r.0) (over g f r.0) (cell_on g f r.0) 0 10000 r.1.1 w.0, rw (map_length (over g f r.0) r.1.1) w.1, rw (map_length (over g f r.0) r.1.1) w.2)),
  (λ w. (seg_back (Gap r.0) (Cell M P r.0) (Cell M' P' r.0) (over g f r.0) (cell_back g f r.0) 0 10000 r.1.1 w.0, rw (map_length (over g f r.0) r.1.1) at w.1, rw (map_length (over g f r.0) r.1.1) at w.2)),
)
