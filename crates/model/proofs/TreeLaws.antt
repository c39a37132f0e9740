-- Trees on blocks.
use Rattle.std.proofs.Common.{◌≡◌, ℕ, zero, suc, ◌+◌, ◌-◌, ◌*◌, ◌<◌, ◌≤◌, Bool, true, false, cond, ◌||◌, T, eqb, ltb, ◌⊎◌, List, [], ◌∷◌, ◌++◌, length, get_or, ℤ, pos, negsuc, Some, None, Option, sym, refl, ap, ◌∙◌, subst, ap₂, inl, inr, arith, eqb→eq}
use lib.Dec.{eqb_refl}
use Rattle.std.proofs.lemmas.Bool.{cond_both, lt-ltb, le-ltb, ltb-false}
use Rattle.device.specs.Meaning.{Content}
use Rattle.page.specs.Slot.{Root}
use Rattle.tree.specs.Node.{map_e, Every, flat, ins, del}
use Rattle.tree.specs.Tree as tree
use Rattle.tree.specs.Tree.{Pay, Rows, rows, Marks, blocks, All, Wf, over, over_root, put_root, rem_root, raise, lower, only}
use Rattle.tree.specs.Stored.{same, is_new}
use Rattle.tree.specs.Numbered.{numbered, news, bare, Known}
use Rattle.tree.proofs.Stores.{all_both, over_tally, map_same}
use Rattle.tree.proofs.Kept.{kept}
use Rattle.tree.proofs.Over.{natural, over_rows}
use Rattle.tree.proofs.Laid.{same_rule}
use Rattle.tree.proofs.Puts.{put_sound}
use Rattle.tree.proofs.Removes.{remove_sound}
use Rattle.tree.proofs.Numbering.{shape_kept, numbers_natural, numbers_from, over_root_twice}
use Rattle.table.specs.Rows.{off_angle, angle_of, payload_of}
use Rattle.page.specs.Block.{block_in}
use Rattle.model.specs.TreeBlocks.{Tree, form, rows_of, keys, keys_of, reach, elem, root_of, Change, Change.begin, Change.puts, Change.takes, without_angle, changed, changed_on, writes, entries_in, pay_at, top_level, tree_at, payload, block_of, Stored, Each, Fit, Good}

-- membership
pub elem_left : (b : ℕ) (xs ys : List ℕ) → T (elem b xs) → T (elem b (xs ++ ys))
elem_left b [] ys h = absurd h
elem_left b (x ∷ xs) ys h = go (elem_left b xs ys) (eqb b x) h
  where
    go : (T (elem b xs) → T (elem b (xs ++ ys))) → (k : Bool) → T (k || elem b xs) → T (k || elem b (xs ++ ys))
    go f true h = tt
    go f false h = f h

pub elem_right : (b : ℕ) (xs ys : List ℕ) → T (elem b ys) → T (elem b (xs ++ ys))
elem_right b [] ys h = h
elem_right b (x ∷ xs) ys h = go (eqb b x) (elem_right b xs ys h)
  where
    go : (k : Bool) → T (elem b (xs ++ ys)) → T (k || elem b (xs ++ ys))
    go true h = tt
    go false h = h

pub elem_cases : (b : ℕ) (xs ys : List ℕ) → T (elem b (xs ++ ys)) → T (elem b xs) ⊎ T (elem b ys)
elem_cases b [] ys h = inr h
elem_cases b (x ∷ xs) ys h = go (elem_cases b xs ys) (eqb b x) h
  where
    go : (T (elem b (xs ++ ys)) → T (elem b xs) ⊎ T (elem b ys)) → (k : Bool) → T (k || elem b (xs ++ ys)) → T (k || elem b xs) ⊎ T (elem b ys)
    go f true h = inl tt
    go f false h = f h

pub elem_here : (b : ℕ) (xs : List ℕ) → T (elem b (b ∷ xs))
elem_here b xs = subst (λ k. T (k || elem b xs)) (sym (go (eqb b b) refl)) tt
  where
    go : (k : Bool) → eqb b b ≡ k → eqb b b ≡ true
    go true e = e
    go false e = absurd (subst T e (eqb_refl b))

pub elem_head : (b x : ℕ) (xs : List ℕ) → T (elem b (x ∷ xs)) → (b ≡ x) ⊎ T (elem b xs)
elem_head b x xs h = go (eqb b x) refl h
  where
    go : (k : Bool) → eqb b x ≡ k → T (k || elem b xs) → (b ≡ x) ⊎ T (elem b xs)
    go true e h = inl (eqb→eq b x (subst T (sym e) tt))
    go false e h = inr h

-- the tree of a root goes by its own blocks alone
module _ (c d : ℕ → Content) where
  pay_same : (l p : ℕ) → ((b : ℕ) → T (elem b (Marks ℕ ℕ l (pay_at c l p))) → d b ≡ c b) → pay_at d l p ≡ pay_at c l p
  pay_same zero p h = refl
  pay_same (suc l) b h =
      let es : List (ℕ × ℕ) = entries_in (block_in (c b)) in
      let below : List ℕ = flat (λ k x. Marks ℕ ℕ l x) (map_e (pay_at c l) es) in
      ap (λ (x : List (ℕ × Pay ℕ ℕ l)). (b, x))
      (ap (λ y. map_e (pay_at d l) (entries_in (block_in y))) (h b (elem_here b below)) ∙ go (pay_same l) es (λ x q. h x (elem_right x (b ∷ []) below q)))
    where
      go : ((p : ℕ) → ((b : ℕ) → T (elem b (Marks ℕ ℕ l (pay_at c l p))) → d b ≡ c b) → pay_at d l p ≡ pay_at c l p)
          → (es : List (ℕ × ℕ)) → ((x : ℕ) → T (elem x (flat (λ k y. Marks ℕ ℕ l y) (map_e (pay_at c l) es))) → d x ≡ c x) → map_e (pay_at d l) es ≡ map_e (pay_at c l) es
      go ih [] h = refl
      go ih (e ∷ r) h =
          let f : List ℕ = Marks ℕ ℕ l (pay_at c l e.1) in
          let g : List ℕ = flat (λ k y. Marks ℕ ℕ l y) (map_e (pay_at c l) r) in
          ap₂ (λ (x : Pay ℕ ℕ l) (y : List (ℕ × Pay ℕ ℕ l)). (e.0, x) ∷ y) (ih e.1 (λ x q. h x (elem_left x f g q))) (go ih r (λ x q. h x (elem_right x f g q)))

  pub tree_same : (r : Root) → ((b : ℕ) → T (elem b (reach (tree_at c r))) → d b ≡ c b) → tree_at d r ≡ tree_at c r
  unfolding tree_at
  tree_same r h = ap (λ (t : tree.Tree ℕ ℕ (top_level r.0)). (top_level r.0, t)) (pay_same (suc (top_level r.0)) r.1 h)

-- a stored tree is the one that its root has
module _ (c : ℕ → Content) where
  abbrev St : (l : ℕ) → tree.Tree ℕ ℕ l → Type 0
  St l u = block_in (c u.0) ≡ Some (block_of l u)

  pub pay_stored : (l : ℕ) (p : Pay ℕ ℕ l) → All ℕ ℕ St l p → pay_at c l (payload l p) ≡ p
  pay_stored zero p a = refl
  pay_stored (suc l) t a =
      ap (λ (x : List (ℕ × Pay ℕ ℕ l)). (t.0, x)) (ap (λ y. map_e (pay_at c l) (entries_in y)) a.0 ∙ go (pay_stored l) t.1 a.1)
    where
      go : ((p : Pay ℕ ℕ l) → All ℕ ℕ St l p → pay_at c l (payload l p) ≡ p) → (es : List (ℕ × Pay ℕ ℕ l)) → Every (All ℕ ℕ St l) es → map_e (pay_at c l) (map_e (payload l) es) ≡ es
      go ih [] a = refl
      go ih (e ∷ r) a = ap₂ (λ (x : Pay ℕ ℕ l) (y : List (ℕ × Pay ℕ ℕ l)). (e.0, x) ∷ y) (ih e.1 a.0) (go ih r a.1)

  pub tree_stored : (t : Tree) → Stored c t → tree_at c (root_of t) ≡ t
  unfolding tree_at
  tree_stored t a = ap (λ (u : tree.Tree ℕ ℕ t.0). (t.0, u)) (pay_stored (suc t.0) t.1 a)

-- what holds of each block by its number
module _ (P : Type 0) (N : ℕ → Type 0) where
  pub all_elem : (l : ℕ) (p : Pay ℕ P l) → All ℕ P (λ i u. N u.0) l p → (b : ℕ) → T (elem b (Marks ℕ P l p)) → N b
  all_elem zero p a b h = absurd h
  all_elem (suc l) t a b h =
      elim (elem_head b t.0 (flat (λ k x. Marks ℕ P l x) t.1) h) [ inl e ↦ subst N (sym e) a.0 | inr q ↦ go (all_elem l) t.1 a.1 q ]
    where
      go : ((p : Pay ℕ P l) → All ℕ P (λ i u. N u.0) l p → (b : ℕ) → T (elem b (Marks ℕ P l p)) → N b) → (es : List (ℕ × Pay ℕ P l)) → Every (All ℕ P (λ i u. N u.0) l) es → T (elem b (flat (λ k x. Marks ℕ P l x) es)) → N b
      go ih [] a h = absurd h
      go ih (e ∷ r) a h = elim (elem_cases b (Marks ℕ P l e.1) (flat (λ k x. Marks ℕ P l x) r) h) [ inl q ↦ ih e.1 a.0 b q | inr q ↦ go ih r a.1 q ]

  pub elem_all : (l : ℕ) (p : Pay ℕ P l) → ((b : ℕ) → T (elem b (Marks ℕ P l p)) → N b) → All ℕ P (λ i u. N u.0) l p
  elem_all zero p h = tt
  elem_all (suc l) t h =
      let below : List ℕ = flat (λ k x. Marks ℕ P l x) t.1 in
      (h t.0 (elem_here t.0 below), go (elem_all l) t.1 (λ b q. h b (elem_right b (t.0 ∷ []) below q)))
    where
      go : ((p : Pay ℕ P l) → ((b : ℕ) → T (elem b (Marks ℕ P l p)) → N b) → All ℕ P (λ i u. N u.0) l p) → (es : List (ℕ × Pay ℕ P l)) → ((b : ℕ) → T (elem b (flat (λ k x. Marks ℕ P l x) es)) → N b) → Every (All ℕ P (λ i u. N u.0) l) es
      go ih [] h = tt
      go ih (e ∷ r) h = (ih e.1 (λ b q. h b (elem_left b (Marks ℕ P l e.1) (flat (λ k x. Marks ℕ P l x) r) q)), go ih r (λ b q. h b (elem_right b (Marks ℕ P l e.1) (flat (λ k x. Marks ℕ P l x) r) q)))

pub stored_same : (c d : ℕ → Content) (t : Tree) → ((b : ℕ) → T (elem b (reach t)) → d b ≡ c b) → Stored c t → Stored d t
stored_same c d t h a =
    all_both ℕ ℕ (λ i u. block_in (c u.0) ≡ Some (block_of i u)) (λ i u. d u.0 ≡ c u.0) (λ i u. block_in (d u.0) ≡ Some (block_of i u)) (λ i u p q. ap block_in q ∙ p) (suc t.0) t.1 a
    (elem_all ℕ (λ b. d b ≡ c b) (suc t.0) t.1 h)

pub good_one : (n : ℕ) (c d : ℕ → Content) (r : Root) → ((b : ℕ) → T (elem b (reach (tree_at c r))) → d b ≡ c b) → Good n c r → Good n d r
good_one n c d r h g =
    let e : tree_at d r ≡ tree_at c r = tree_same c d r h in
    record { height = g.height; stored = subst (Stored d) (sym e) (stored_same c d (tree_at c r) h g.stored); fit = subst (Fit n) (sym e) g.fit }

pub fit_inside : (n : ℕ) (t : Tree) → Fit n t → (b : ℕ) → T (elem b (reach t)) → (2 ≤ b) × (b < n)
fit_inside n t f b h = all_elem ℕ (λ x. (2 ≤ x) × (x < n)) (suc t.0) t.1 f.inside b h

-- numbers change no rows and no layout
module _ (P : Type 0) (pick : ℕ → ℕ) (r : tree.Root (Option ℕ) P) where
  number_wf : Wf (Option ℕ) P r.0 r.1 → Wf ℕ P r.0 (numbered P pick r).1
  number_wf w =
      (over_rows ℕ P (Unit {0}) P bare same (numbered P pick r)).2
      (subst (λ (z : tree.Root (Unit {0}) P). Wf (Unit {0}) P z.0 z.1) (sym (shape_kept P pick r)) ((over_rows (Option ℕ) P (Unit {0}) P bare same r).1 w))

  number_rows : rows ℕ P r.0 (numbered P pick r).1 ≡ rows (Option ℕ) P r.0 r.1
  number_rows =
      sym (map_same (rows ℕ P r.0 (numbered P pick r).1))
      ∙ sym (over_rows ℕ P (Unit {0}) P bare same (numbered P pick r)).0
      ∙ ap (λ (z : tree.Root (Unit {0}) P). rows (Unit {0}) P z.0 z.1) (shape_kept P pick r)
      ∙ (over_rows (Option ℕ) P (Unit {0}) P bare same r).0
      ∙ map_same (rows (Option ℕ) P r.0 r.1)

-- what the deed does to plain rows
abbrev pub done : {P : Type 0} → Change P → List (ℕ × P) → List (ℕ × P)
done begin rs = []
done (puts s a) rs = ins s a rs
done (takes s) rs = del s rs

abbrev pub Allowed : Change ℕ → Type 0
Allowed begin = Unit
Allowed (puts s a) = (s < 10000) × (a ≤ 18000)
Allowed (takes s) = s < 10000

changed_sound : (d : Change ℕ) (t : Tree) → Allowed d → Wf ℕ ℕ t.0 t.1
    → Wf (Option ℕ) ℕ (changed ℕ d t).0 (changed ℕ d t).1 × (rows (Option ℕ) ℕ (changed ℕ d t).0 (changed ℕ d t).1 ≡ done d (rows ℕ ℕ t.0 t.1))
changed_sound begin t h w = ((omega arith, tt, omega arith), refl)
changed_sound (puts s a) t h w =
    let v = over_rows ℕ ℕ (Option ℕ) ℕ Some same t in
    let S = put_sound (Option ℕ) ℕ None s a (over_root Some same t) h.0 (v.1 w) in
    (S.0, S.1 ∙ ap (ins s a) (v.0 ∙ map_same (rows ℕ ℕ t.0 t.1)))
changed_sound (takes s) t h w =
    let v = over_rows ℕ ℕ (Option ℕ) ℕ Some same t in
    let S = remove_sound (Option ℕ) ℕ None s (over_root Some same t) h (v.1 w) in
    (S.0, S.1 ∙ ap (del s) (v.0 ∙ map_same (rows ℕ ℕ t.0 t.1)))

pub grow_wf : (d : Change ℕ) (f : List ℕ) (t : Tree) → Allowed d → Wf ℕ ℕ t.0 t.1 → Wf ℕ ℕ (changed_on ℕ d f t).0 (changed_on ℕ d f t).1
unfolding changed_on
grow_wf d f t h w = number_wf ℕ (λ i. get_or f i 0) (changed ℕ d t) (changed_sound d t h w).0

pub grow_rows : (d : Change ℕ) (f : List ℕ) (t : Tree) → Allowed d → Wf ℕ ℕ t.0 t.1 → rows ℕ ℕ (changed_on ℕ d f t).0 (changed_on ℕ d f t).1 ≡ done d (rows ℕ ℕ t.0 t.1)
unfolding changed_on
grow_rows d f t h w = number_rows ℕ (λ i. get_or f i 0) (changed ℕ d t) ∙ (changed_sound d t h w).1

-- neither blocks nor shape depend on an angle
changed_form : (d : Change ℕ) (t : Tree) → over_root same bare (changed ℕ d t) ≡ changed (Unit {0}) (without_angle d) (form t)
changed_form begin t = refl
changed_form (puts s a) t =
    (natural (Option ℕ) ℕ (Option ℕ) (Unit {0}) same bare None s a (over_root Some same t)).0
    ∙ ap (put_root (Option ℕ) (Unit {0}) None s tt) (over_root_twice {M = ℕ} {P = ℕ} Some same same bare t ∙ sym (over_root_twice {M = ℕ} {P = ℕ} same bare Some same t))
changed_form (takes s) t =
    (natural (Option ℕ) ℕ (Option ℕ) (Unit {0}) same bare None s 0 (over_root Some same t)).1
    ∙ ap (rem_root (Option ℕ) (Unit {0}) None s) (over_root_twice {M = ℕ} {P = ℕ} Some same same bare t ∙ sym (over_root_twice {M = ℕ} {P = ℕ} same bare Some same t))

pub grow_form : (d : Change ℕ) (f : List ℕ) (t : Tree) → form (changed_on ℕ d f t) ≡ changed_on (Unit {0}) (without_angle d) f (form t)
unfolding changed_on
grow_form d f t = numbers_natural ℕ (Unit {0}) (λ i. get_or f i 0) bare (changed ℕ d t) ∙ ap (numbered (Unit {0}) (λ i. get_or f i 0)) (changed_form d t)

-- heights
raise_low : (P : Type 0) (new : Option ℕ) (r : tree.Root (Option ℕ) P) → (raise (Option ℕ) P new r).0 ≤ suc r.0
raise_low P new r = cond_both (eqb (length r.1.1) 15) _ r (λ (q : tree.Root (Option ℕ) P). q.0 ≤ suc r.0) (λ u. omega arith) (λ u. omega arith)

lower_low : (P : Type 0) (l : ℕ) (t : tree.Tree (Option ℕ) P l) → (lower (Option ℕ) P l t).0 ≤ l
lower_low P zero t = omega arith
lower_low P (suc l) t = go t.1
  where
    go : (es : List (ℕ × tree.Tree (Option ℕ) P l)) → (only (Option ℕ) P l t.0 es).0 ≤ suc l
    go [] = omega arith
    go (e ∷ []) = omega arith
    go (e ∷ d ∷ r) = omega arith

-- so many free blocks a deed needs
abbrev pub needed : {P Q : Type 0} → Change P → tree.Root ℕ Q → ℕ
needed begin t = 1
needed (puts s a) t = 2 * suc t.0 + 1
needed (takes s) t = 2 * suc t.0 + 1

pub changed_low : (P : Type 0) (d : Change P) (t : tree.Root ℕ P) → 2 * (changed P d t).0 < needed d t
changed_low P begin t = omega arith
changed_low P (puts s a) t = let q = raise_low P None (over_root Some same t) in omega (arith, q)
changed_low P (takes s) t = let q = lower_low P t.0 (None, tree.rem_e (Option ℕ) P None s t.0 (over_root Some same t).1.1) in omega (arith, q)

-- numbers
module _ (P : Type 0) (N : ℕ → Type 0) where
  known_all : (l : ℕ) (p : Pay ℕ P l) → All ℕ P (λ i u. N u.0) l p → All (Option ℕ) P (λ i u. Known N u.0) l (over Some same l p)
  known_all zero p a = tt
  known_all (suc l) t a = (a.0, go (known_all l) t.1 a.1)
    where
      go : ((p : Pay ℕ P l) → All ℕ P (λ i u. N u.0) l p → All (Option ℕ) P (λ i u. Known N u.0) l (over Some same l p)) → (es : List (ℕ × Pay ℕ P l)) → Every (All ℕ P (λ i u. N u.0) l) es → Every (All (Option ℕ) P (λ i u. Known N u.0) l) (map_e (over Some same l) es)
      go ih [] a = tt
      go ih (e ∷ r) a = (ih e.1 a.0, go ih r a.1)

changed_known : (N : ℕ → Type 0) (d : Change ℕ) (t : Tree) → All ℕ ℕ (λ i u. N u.0) (suc t.0) t.1 → All (Option ℕ) ℕ (λ i u. Known N u.0) (suc (changed ℕ d t).0) (changed ℕ d t).1
changed_known N begin t a = (tt, tt)
changed_known N (puts s x) t a = (kept (Option ℕ) ℕ None (λ i u. Known N u.0) (λ l es. tt) s x (over_root Some same t) (known_all ℕ N (suc t.0) t.1 a)).0
changed_known N (takes s) t a = (kept (Option ℕ) ℕ None (λ i u. Known N u.0) (λ l es. tt) s 0 (over_root Some same t) (known_all ℕ N (suc t.0) t.1 a)).1

-- free blocks
pub get_or_each : (N : ℕ → Type 0) (xs : List ℕ) (i d : ℕ) → Each N xs → i < length xs → N (get_or xs i d)
get_or_each N [] i d a h = absurd (omega arith)
get_or_each N (x ∷ xs) zero d a h = a.0
get_or_each N (x ∷ xs) (suc i) d a h = get_or_each N xs i d a.1 (omega arith)

module _ (n : ℕ) where
  abbrev In : ℕ → Type 0
  In b = (2 ≤ b) × (b < n)

  grow_inside : (d : Change ℕ) (f : List ℕ) (t : Tree) → Each In f → needed d t ≤ length f → All ℕ ℕ (λ i u. In u.0) (suc t.0) t.1 → All ℕ ℕ (λ i u. In u.0) (suc (changed_on ℕ d f t).0) (changed_on ℕ d f t).1
  unfolding changed_on
  grow_inside d f t e h a =
      numbers_from ℕ (λ i. get_or f i 0) In (changed ℕ d t) (λ i q. get_or_each In f i 0 e (let z = changed_low ℕ d t in omega (arith, z))) (changed_known In d t a)

-- angles
ins_each : (s a : ℕ) (rs : List (ℕ × ℕ)) → a ≤ 18000 → Each (λ (r : ℕ × ℕ). r.1 ≤ 18000) rs → Each (λ (r : ℕ × ℕ). r.1 ≤ 18000) (ins s a rs)
ins_each s a [] h e = (h, tt)
ins_each s a (r ∷ rs) h e =
    cond_both (ltb s r.0) _ _ (Each (λ (r : ℕ × ℕ). r.1 ≤ 18000)) (λ u. (h, e)) (λ u. cond_both (ltb r.0 s) _ _ (Each (λ (r : ℕ × ℕ). r.1 ≤ 18000)) (λ v. (e.0, ins_each s a rs h e.1)) (λ v. (h, e.1)))

del_each : (s : ℕ) (rs : List (ℕ × ℕ)) → Each (λ (r : ℕ × ℕ). r.1 ≤ 18000) rs → Each (λ (r : ℕ × ℕ). r.1 ≤ 18000) (del s rs)
del_each s [] e = tt
del_each s (r ∷ rs) e = cond_both (eqb s r.0) _ _ (Each (λ (r : ℕ × ℕ). r.1 ≤ 18000)) (λ u. e.1) (λ u. (e.0, del_each s rs e.1))

done_each : (d : Change ℕ) (rs : List (ℕ × ℕ)) → Allowed d → Each (λ (r : ℕ × ℕ). r.1 ≤ 18000) rs → Each (λ (r : ℕ × ℕ). r.1 ≤ 18000) (done d rs)
done_each begin rs h e = tt
done_each (puts s a) rs h e = ins_each s a rs h.1 e
done_each (takes s) rs h e = del_each s rs e

-- a sound tree stays sound
pub grow_fit : (n : ℕ) (d : Change ℕ) (f : List ℕ) (t : Tree) → Allowed d → Each (λ b. (2 ≤ b) × (b < n)) f → needed d t ≤ length f → Fit n t → Fit n (changed_on ℕ d f t)
grow_fit n d f t h e k F =
    let w = (same_rule ℕ ℕ t.0 t.1).1 F.laid in
    record {
      laid = (same_rule ℕ ℕ (changed_on ℕ d f t).0 (changed_on ℕ d f t).1).0 (grow_wf d f t h w);
      inside = grow_inside n d f t e k F.inside;
      angles = subst (Each (λ (r : ℕ × ℕ). r.1 ≤ 18000)) (sym (grow_rows d f t h w)) (done_each d (rows ℕ ℕ t.0 t.1) h F.angles);
    }

-- an empty leaf is made from nothing
pub begin_fit : (n : ℕ) (f : List ℕ) (t : Tree) → Each (λ b. (2 ≤ b) × (b < n)) f → 1 ≤ length f → Fit n (changed_on ℕ begin f t)
unfolding changed_on
begin_fit n f t e k = record {
  laid = (tt, tt, tt, omega arith);
  inside = (get_or_each (λ b. (2 ≤ b) × (b < n)) f 0 0 e (omega arith), tt);
  angles = tt;
}

-- rows with their angles
pub angle_payload : (a : ℤ) → off_angle a ≡ false → angle_of (payload_of a) ≡ a
angle_payload (pos n) h = ap (λ k. cond k (negsuc (8999 - (n + 9000))) (pos (n + 9000 - 9000))) (le-ltb (n + 9000) 9000 (omega arith)) ∙ ap pos (omega arith)
angle_payload (negsuc n) h =
    let q : n ≤ 8999 = ltb-false 8999 n h in
    let p = 9000 - (n + 1) in
    ap (λ k. cond k (negsuc (8999 - p)) (pos (p - 9000))) (lt-ltb p 9000 (omega arith)) ∙ ap negsuc (omega arith)

pub payload_range : (a : ℤ) → off_angle a ≡ false → payload_of a ≤ 18000
payload_range (pos n) h = let q : n ≤ 9000 = ltb-false 9000 n h in omega arith
payload_range (negsuc n) h = omega arith

-- keys
pub keys_map : {X Y : Type 0} (f : X → Y) (rs : List (ℕ × X)) → keys (map_e f rs) ≡ keys rs
keys_map f [] = refl
keys_map f (e ∷ r) = ap (λ (z : List ℕ). e.0 ∷ z) (keys_map f r)

pub keys_form : (t : Tree) → keys_of (form t) ≡ keys (rows_of t)
keys_form t =
    ap keys (over_rows ℕ ℕ ℕ (Unit {0}) same bare t).0 ∙ keys_map bare (rows ℕ ℕ t.0 t.1) ∙ sym (keys_map angle_of (rows ℕ ℕ t.0 t.1))

-- blocks
module _ {P P' : Type 0} (f : P → P') where
  marks_over : (l : ℕ) (p : Pay ℕ P l) → Marks ℕ P' l (over same f l p) ≡ Marks ℕ P l p
  marks_over zero p = refl
  marks_over (suc l) t = ap (λ (z : List ℕ). t.0 ∷ z) (go (marks_over l) t.1)
    where
      go : ((p : Pay ℕ P l) → Marks ℕ P' l (over same f l p) ≡ Marks ℕ P l p) → (es : List (ℕ × Pay ℕ P l)) → flat (λ k x. Marks ℕ P' l x) (map_e (over same f l) es) ≡ flat (λ k x. Marks ℕ P l x) es
      go ih [] = refl
      go ih (e ∷ r) = ap₂ (λ (x y : List ℕ). x ++ y) (ih e.1) (go ih r)

pub reach_form : (t : Tree) → reach (form t) ≡ reach t
reach_form t = marks_over bare (suc t.0) t.1

-- so many writes
pub writes_form : (d : Change ℕ) (t : Tree) → news ℕ (changed ℕ d t) ≡ writes (without_angle d) (form t)
unfolding writes
writes_form d t =
    sym (over_tally {M = Option ℕ} {P = ℕ} same bare is_new is_new (λ m. refl) (suc (changed ℕ d t).0) (changed ℕ d t).1)
    ∙ ap (news (Unit {0})) (changed_form d t)
