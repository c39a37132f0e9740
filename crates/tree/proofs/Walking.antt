-- Reading by descent, by a walk and by a summary, and what the rows say.
use Rattle.std.proofs.Common.{◌≡◌, ℕ, zero, suc, ◌<◌, ◌≤◌, Bool, true, false, cond, eqb, ltb, ◌⊎◌, List, [], ◌∷◌, ◌++◌, length, Some, None, Option, sym, refl, ap, ◌∙◌, ap₂, inl, inr, not-suc-le-zero, arith}
use Rattle.std.proofs.lemmas.Bool.{cond_both, ne_eqb, eq-eqb, eqb-true, eqb-false, ltb-true, ltb-false, cases_eq, true≢false}
use Rattle.tree.specs.Node.{ins, del, ahead, flat, Asc}
use Rattle.tree.specs.Tree.{Pay, Tree, Enough, Cell, Span, Rows, rows}
use Rattle.tree.specs.Reads.{look, seek, run, total, get_e, walk_e, total_e, Reads, Walks, Sums, Looks}
use Rattle.tree.proofs.Segs.{ahead_below, ahead_above, asc_le}
use Rattle.tree.proofs.Puts.{cell_asc, span_asc, flat_id, enough, put_sound}
use Rattle.tree.proofs.Removes.{remove_sound}

look_left : {P : Type 0} (s lo m : ℕ) (xs ys : List (ℕ × P)) → Asc lo m xs → m ≤ s → look s (xs ++ ys) ≡ look s ys
look_left s lo m [] ys p h = refl
look_left s lo m (e ∷ r) ys p h = rw (ne_eqb s e.0 (omega (arith, p.1.1, asc_le _ _ _ p.1.2))) (look_left s p.1.0 m r ys p.1.2 h)

look_above : {P : Type 0} (s m hi : ℕ) (zs : List (ℕ × P)) → Asc m hi zs → s < m → look s zs ≡ None
look_above s m hi [] p h = refl
look_above s m hi (e ∷ r) p h = rw (ne_eqb s e.0 (omega (arith, p.0))) (look_above s p.1.0 hi r p.1.2 (omega (arith, p.0, p.1.1)))

look_right : {P : Type 0} (s m hi : ℕ) (ys zs : List (ℕ × P)) → Asc m hi zs → s < m → look s (ys ++ zs) ≡ look s ys
look_right s m hi [] zs p h = look_above s m hi zs p h
look_right s m hi (e ∷ r) zs p h = ap (cond (eqb s e.0) (Some e.1)) (look_right s m hi r zs p h)

module _ (M P : Type 0) (s : ℕ) where
  seek_look : (l : ℕ) → ((lo hi : ℕ) (es : List (ℕ × Pay M P l)) → Enough l (length es) → Span M P l lo hi es → lo ≤ s → s < hi → get_e M P s l es ≡ look s (flat (Rows M P l) es))
      → (lo hi : ℕ) (es : List (ℕ × Tree M P l)) → 0 < length es → Span M P (suc l) lo hi es → lo ≤ s → s < hi → seek s (λ t. get_e M P s l t.1) es ≡ look s (flat (Rows M P (suc l)) es)
  seek_look l ih lo hi [] n p a b = absurd (not-suc-le-zero n)
  seek_look l ih lo hi (e ∷ r) n p a b =
      let k : e.0 ≤ s = omega (arith, p.0) in
      let m = p.1.0 in
      let W = Cell M P (suc l) in
      let A = flat (Rows M P l) e.1.1 in
      let B = flat (Rows M P (suc l)) r in
      cond_both (ahead s r) (get_e M P s l e.1.1) (seek s (λ t. get_e M P s l t.1) r) (λ z. z ≡ look s (A ++ B))
      (λ t. let c = ahead_below W s m hi r p.1.2 b t in
      ih e.0 m e.1.1 (enough l (length e.1.1) (omega (arith, p.1.1))) p.1.1.0 k c
      ∙ sym (look_right s m hi A B (span_asc M P (suc l) m hi r p.1.2) c))
      (λ t. let c = ahead_above W s m hi r p.1.2 t in
      seek_look l ih m hi r (more r t) p.1.2 c b ∙ sym (look_left s e.0 m A B (cell_asc M P (suc l) e.0 m e.1 p.1.1) c))
    where
      more : (r : List (ℕ × Tree M P l)) → ahead s r ≡ false → 0 < length r
      more [] t = absurd (true≢false t)
      more (e ∷ r) t = omega arith

  get_look : (l lo hi : ℕ) (es : List (ℕ × Pay M P l)) → Enough l (length es) → Span M P l lo hi es → lo ≤ s → s < hi → get_e M P s l es ≡ look s (flat (Rows M P l) es)
  get_look zero lo hi es n p a b = ap (look s) (sym (flat_id es))
  get_look (suc l) lo hi es n p a b = seek_look l (get_look l) lo hi es (omega arith) p a b

pub reads : (M P : Type 0) → Reads M P
reads M P s r h w = get_look M P s r.0 0 10000 r.1.1 w.1 w.0 (omega arith) h

run_append : {X S : Type 0} (f : S → ℕ → X → S) (z : S) (xs ys : List (ℕ × X)) → run f z (xs ++ ys) ≡ run f (run f z xs) ys
run_append f z [] ys = refl
run_append f z (e ∷ r) ys = run_append f (f z e.0 e.1) r ys

run_flat : {X P S : Type 0} (f : S → ℕ → P → S) (R : ℕ → X → List (ℕ × P)) (g : S → ℕ → X → S) → ((z : S) (k : ℕ) (x : X) → g z k x ≡ run f z (R k x)) → (z : S) (es : List (ℕ × X)) → run g z es ≡ run f z (flat R es)
run_flat f R g h z [] = refl
run_flat f R g h z (e ∷ r) = run_flat f R g h (g z e.0 e.1) r ∙ ap (λ y. run f y (flat R r)) (h z e.0 e.1) ∙ sym (run_append f z (R e.0 e.1) (flat R r))

walk_rows : (M P S : Type 0) (f : S → ℕ → P → S) (l : ℕ) (z : S) (es : List (ℕ × Pay M P l)) → walk_e M P f l z es ≡ run f z (flat (Rows M P l) es)
walk_rows M P S f zero z es = ap (run f z) (sym (flat_id es))
walk_rows M P S f (suc l) z es = run_flat f (Rows M P (suc l)) (λ z k t. walk_e M P f l z t.1) (λ z k t. walk_rows M P S f l z t.1) z es

pub walks : (M P S : Type 0) → Walks M P S
walks M P S f z r = walk_rows M P S f r.0 z r.1.1

module _ {S : Type 0} (z : S) (op : S → S → S) (unit : (x : S) → op z x ≡ x) (assoc : (x y w : S) → op (op x y) w ≡ op x (op y w)) where
  total_append : {X : Type 0} (f : ℕ → X → S) (xs ys : List (ℕ × X)) → total z op f (xs ++ ys) ≡ op (total z op f xs) (total z op f ys)
  total_append f [] ys = sym (unit (total z op f ys))
  total_append f (e ∷ r) ys = ap (op (f e.0 e.1)) (total_append f r ys) ∙ sym (assoc _ _ _)

  total_flat : {X P : Type 0} (f : ℕ → P → S) (R : ℕ → X → List (ℕ × P)) (g : ℕ → X → S) → ((k : ℕ) (x : X) → g k x ≡ total z op f (R k x)) → (es : List (ℕ × X)) → total z op g es ≡ total z op f (flat R es)
  total_flat f R g h [] = refl
  total_flat f R g h (e ∷ r) = ap₂ op (h e.0 e.1) (total_flat f R g h r) ∙ sym (total_append f (R e.0 e.1) (flat R r))

  total_rows : (M P : Type 0) (f : ℕ → P → S) (l : ℕ) (es : List (ℕ × Pay M P l)) → total_e M P z op f l es ≡ total z op f (flat (Rows M P l) es)
  total_rows M P f zero es = ap (total z op f) (sym (flat_id es))
  total_rows M P f (suc l) es = total_flat f (Rows M P (suc l)) (λ k t. total_e M P z op f l t.1) (λ k t. total_rows M P f l t.1) es

pub sums : (M P S : Type 0) → Sums M P S
sums M P S z op unit assoc f r = total_rows z op unit assoc M P f r.0 r.1.1

-- Looking up in rows of which one is set or cleared.
swap : {A : Type 0} (p q : Bool) (x y z : A) → (p ≡ true → q ≡ true → ⊥) → cond p x (cond q y z) ≡ cond q y (cond p x z)
swap true true x y z h = absurd (h refl refl)
swap true false x y z h = refl
swap false true x y z h = refl
swap false false x y z h = refl

-- the key of the first row is not both k and s
apart : (k s e : ℕ) → (s ≡ e → ⊥) → eqb k e ≡ true → eqb k s ≡ true → ⊥
apart k s e n a b = n (sym (eqb-true k s b) ∙ eqb-true k e a)

over_same : {A : Type 0} (k s e : ℕ) (x y z : A) → e ≡ s → cond (eqb k s) x z ≡ cond (eqb k s) x (cond (eqb k e) y z)
over_same k s e x y z h = rw h (go (eqb k s))
  where
    go : (b : Bool) → cond b x z ≡ cond b x (cond b y z)
    go true = refl
    go false = refl

module _ {P : Type 0} (s k : ℕ) where
  look_ins : (a : P) (es : List (ℕ × P)) → look k (ins s a es) ≡ cond (eqb k s) (Some a) (look k es)
  look_ins a [] = refl
  look_ins a (e ∷ r) =
      let G : List (ℕ × P) → Type 0 = λ z. look k z ≡ cond (eqb k s) (Some a) (look k (e ∷ r)) in
      cond_both (ltb s e.0) _ _ G (λ t. refl)
      (λ t. cond_both (ltb e.0 s) _ _ G
      (λ u. let h = ltb-true e.0 s u in
      ap (cond (eqb k e.0) (Some e.1)) (look_ins a r) ∙ swap (eqb k e.0) (eqb k s) (Some e.1) (Some a) (look k r) (apart k s e.0 (λ q. omega (arith, h, q))))
      (λ u. let h = ltb-false s e.0 t in let i = ltb-false e.0 s u in over_same k s e.0 (Some a) (Some e.1) (look k r) (omega arith)))

  look_del : (lo hi : ℕ) (es : List (ℕ × P)) → Asc lo hi es → look k (del s es) ≡ cond (eqb k s) None (look k es)
  look_del lo hi [] p = go (eqb k s)
    where
      go : (b : Bool) → ◌≡◌ {A = Option P} None (cond b None None)
      go true = refl
      go false = refl
  look_del lo hi (e ∷ r) p =
      let G : List (ℕ × P) → Type 0 = λ z. look k z ≡ cond (eqb k s) None (look k (e ∷ r)) in
      cond_both (eqb s e.0) _ _ G
      (λ t. let q = eqb-true s e.0 t in gone (cases_eq k s) q)
      (λ t. let n = eqb-false s e.0 t in
      ap (cond (eqb k e.0) (Some e.1)) (look_del p.1.0 hi r p.1.2) ∙ swap (eqb k e.0) (eqb k s) (Some e.1) None (look k r) (apart k s e.0 n))
    where
      gone : (k ≡ s) ⊎ (k ≡ s → ⊥) → s ≡ e.0 → look k r ≡ cond (eqb k s) None (cond (eqb k e.0) (Some e.1) (look k r))
      gone (inl h) q = rw (eq-eqb k s h) (look_above k p.1.0 hi r p.1.2 (omega (arith, p.1.1)))
      gone (inr h) q = rw (ne_eqb k s h, ne_eqb k e.0 (λ z. h (z ∙ sym q)))

pub looks : (M P : Type 0) → Looks M P
looks M P new s k a r h w = (
  ap (look k) (put_sound M P new s a r h w).1 ∙ look_ins s k a (rows M P r.0 r.1),
  ap (look k) (remove_sound M P new s r h w).1 ∙ look_del s k 0 10000 (rows M P r.0 r.1) (span_asc M P r.0 0 10000 r.1.1 w.0),
)
