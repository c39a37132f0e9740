-- What a change of the device leaves alone.
use Rattle.std.proofs.Common.{◌≡◌, ℕ, zero, suc, ◌+◌, ◌<◌, ◌≤◌, min, Bool, true, false, T, eqb, ◌⊎◌, List, [], ◌∷◌, ◌++◌, length, take, set, Some, None, Option, sym, refl, ap, ◌∙◌, subst, inl, inr, arith, eqb→eq}
use Rattle.std.proofs.lemmas.Bool.{cases_eq, cases_lt}
use Rattle.std.proofs.lemmas.List.{get_or_past}
use Rattle.device.specs.Meaning.{Content, Cell, Meaning, blocks_of, flushed_cell, written_cell, written, no_cell, cell_at}
use Rattle.device.specs.Cuts.{Op, Op.write, Op.flush, Choice, Cutting, apply, replay, cut, cut_cell, remains}
use Rattle.device.proofs.Choices.{cut_at, flush_at, write_at, write_off, blocks_apply}
use Rattle.page.specs.Slot.{Root, Table}
use Rattle.model.specs.Plain.{place}
use Rattle.model.specs.TreeBlocks.{elem, AllGood, Tree, tree_at, reach, form, Good, Each}
use Rattle.model.proofs.TreeLaws.{elem_left, elem_right, elem_cases, tree_same, good_one, fit_inside, reach_form}
use Rattle.model.specs.Model.{Trees, forms, reaches}
use Rattle.model.specs.Ideal.{left_after}
use Rattle.model.specs.World.{trees}

pub apart : (x b : ℕ) (R : List ℕ) → T (elem x R) → (T (elem b R) → ⊥) → eqb x b ≡ false
apart x b R h no' = go (eqb x b) refl
  where
    go : (k : Bool) → eqb x b ≡ k → eqb x b ≡ false
    go false e = e
    go true e = absurd (no' (subst (λ n. T (elem n R)) (eqb→eq x b (subst T (sym e) tt)) h))

abbrev pub Calm : Meaning → Type 0
Calm m = (b : ℕ) → (cell_at m b).mark ≡ 0 → (cell_at m b).persisted ≡ (cell_at m b).current

abbrev pub Still : List ℕ → Meaning → Type 0
Still R m = (b : ℕ) → T (elem b R) → (cell_at m b).mark ≡ 0

-- the cells on R are unchanged
abbrev pub Keeps : List ℕ → Meaning → Meaning → Type 0
Keeps R m m' = (b : ℕ) → T (elem b R) → cell_at m' b ≡ cell_at m b

abbrev pub Off : List ℕ → Op → Type 0
Off R (write b ws) = T (elem b R) → ⊥
Off R flush = ⊥

pub calm_apply : (o : Op) (m : Meaning) → Calm m → Calm (apply o m)
calm_apply (write b ws) m h x e = go (cases_eq x b) (cases_lt b (blocks_of m))
  where
    go : (x ≡ b) ⊎ (x ≡ b → ⊥) → (b < blocks_of m) ⊎ (blocks_of m ≤ b) → (cell_at (written m b ws) x).persisted ≡ (cell_at (written m b ws) x).current
    go (inr ne) k = let q = write_off m b x ws ne in ap (λ c. c.persisted) q ∙ h x (ap (λ c. c.mark) (sym q) ∙ e) ∙ ap (λ c. c.current) (sym q)
    go (inl y) (inl k) =
        let q : cell_at (written m b ws) x ≡ written_cell ws (cell_at m b) = subst (λ z. cell_at (written m b ws) z ≡ written_cell ws (cell_at m b)) (sym y) (write_at m b ws k) in
        let z : min ((cell_at m b).mark + 1) 2 ≡ 0 = ap (λ c. c.mark) (sym q) ∙ e in
        absurd (omega arith)
    go (inl y) (inr k) =
        let q : cell_at (written m b ws) x ≡ no_cell = get_or_past (written m b ws).cells x no_cell (omega (arith, blocks_apply (write b ws) m)) in
        ap (λ c. c.persisted) q ∙ ap (λ c. c.current) (sym q)
calm_apply flush m h x e = let q = flush_at m x in ap (λ c. c.persisted) q ∙ ap (λ c. c.current) (sym q)

pub calm_replay : (os : List Op) (m : Meaning) → Calm m → Calm (replay os m)
calm_replay [] m h = h
calm_replay (o ∷ os) m h = calm_replay os (apply o m) (calm_apply o m h)

pub calm_cut : (κ : Cutting) (m : Meaning) → Calm (cut κ m)
calm_cut κ m x e = let q = cut_at κ m x in ap (λ c. c.persisted) q ∙ ap (λ c. c.current) (sym q)

-- writes take from left
abbrev pub IsWrite : Op → Type 0
IsWrite (write b ws) = Unit
IsWrite flush = ⊥

pub left_replay : (os : List Op) (m : Meaning) → Each IsWrite os → (replay os m).left ≡ left_after (length os) m.left
left_replay [] m h = refl
left_replay (write b ws ∷ os) m h = left_replay os (apply (write b ws) m) h.1
left_replay (flush ∷ os) m h = absurd h.0

pub layer_replay : (os : List Op) (m : Meaning) → (replay os m).left_mark ≡ m.left_mark
layer_replay [] m = refl
layer_replay (write b ws ∷ os) m = layer_replay os (apply (write b ws) m)
layer_replay (flush ∷ os) m = layer_replay os (apply flush m)

pub keeps_write : (R : List ℕ) (o : Op) (m : Meaning) → Off R o → Keeps R m (apply o m)
keeps_write R (write b ws) m off x h = write_off m b x ws (λ e. off (subst (λ n. T (elem n R)) e h))
keeps_write R flush m off x h = absurd off

pub keeps_writes : (R : List ℕ) (os : List Op) (m : Meaning) → Each (Off R) os → Keeps R m (replay os m)
keeps_writes R [] m off x h = refl
keeps_writes R (o ∷ os) m off x h = keeps_writes R os (apply o m) off.1 x h ∙ keeps_write R o m off.0 x h

pub cut_calm : (k : Choice) (c : Cell) → c.mark ≡ 0 → c.persisted ≡ c.current → cut_cell k c ≡ c
cut_calm k c z p =
    let e : remains c.mark k c ≡ c.current = ap (λ n. remains n k c) z in
    λ i. record { persisted = (e ∙ sym p) i; current = e i; mark = sym z i }

pub keeps_cut : (R : List ℕ) (κ : Cutting) (m : Meaning) → Calm m → Still R m → Keeps R m (cut κ m)
keeps_cut R κ m calm still b h = cut_at κ m b ∙ cut_calm (κ.choice b) (cell_at m b) (still b h) (calm b (still b h))

flush_calm : (c : Cell) → c.mark ≡ 0 → c.persisted ≡ c.current → flushed_cell c ≡ c
flush_calm c z p = λ i. record { persisted = sym p i; current = c.current; mark = sym z i }

pub keeps_flush : (R : List ℕ) (m : Meaning) → Calm m → Still R m → Keeps R m (apply flush m)
keeps_flush R m calm still b h = flush_at m b ∙ flush_calm (cell_at m b) (still b h) (calm b (still b h))

pub still_keeps : (R : List ℕ) (m m' : Meaning) → Keeps R m m' → Still R m → Still R m'
still_keeps R m m' k s b h = ap (λ c. c.mark) (k b h) ∙ s b h

-- equal current_at on R
abbrev pub Same : List ℕ → (ℕ → Content) → (ℕ → Content) → Type 0
Same R c d = (b : ℕ) → T (elem b R) → d b ≡ c b

pub each_take : {A : Type 0} (P : A → Type 0) (k : ℕ) (xs : List A) → Each P xs → Each P (take k xs)
each_take P zero xs h = tt
each_take P (suc k) [] h = tt
each_take P (suc k) (x ∷ xs) h = (h.0, each_take P k xs h.1)

pub each_map : {A : Type 0} (P Q : A → Type 0) → ((x : A) → P x → Q x) → (xs : List A) → Each P xs → Each Q xs
each_map P Q f [] h = tt
each_map P Q f (x ∷ xs) h = (f x h.0, each_map P Q f xs h.1)

-- places
abbrev pub OnPlace : {A : Type 0} → (A → Type 0) → Option A → Type 0
OnPlace P None = Unit
OnPlace P (Some x) = P x

pub good_at : {A : Type 0} (P : A → Type 0) (t : List (Option A)) (n : ℕ) → AllGood P t → OnPlace P (place t n)
good_at P [] n h = tt
good_at P (None ∷ t) zero h = tt
good_at P (Some r ∷ t) zero h = h.0
good_at P (None ∷ t) (suc n) h = good_at P t n h
good_at P (Some r ∷ t) (suc n) h = good_at P t n h.1

pub good_set : {A : Type 0} (P : A → Type 0) (t : List (Option A)) (n : ℕ) (o : Option A) → AllGood P t → OnPlace P o → AllGood P (set t n o)
good_set P [] n o h g = tt
good_set P (None ∷ t) zero None h g = h
good_set P (None ∷ t) zero (Some x) h g = (g, h)
good_set P (Some r ∷ t) zero None h g = h.1
good_set P (Some r ∷ t) zero (Some x) h g = (g, h.1)
good_set P (None ∷ t) (suc n) o h g = good_set P t n o h g
good_set P (Some r ∷ t) (suc n) o h g = (h.0, good_set P t n o h.1 g)

abbrev pub Goods : ℕ → (ℕ → Content) → Table → Type 0
Goods n c t = AllGood (Good n c) t

abbrev pub Reaches : (ℕ → Content) → Table → List ℕ
Reaches c t = reaches (forms (trees c t))

at_tree : (c : ℕ → Content) (r : Root) (t : Table) (b : ℕ) → T (elem b (reach (tree_at c r))) → T (elem b (reach (form (tree_at c r)) ++ Reaches c t))
at_tree c r t b m = elem_left b (reach (form (tree_at c r))) (Reaches c t) (subst (λ z. T (elem b z)) (sym (reach_form (tree_at c r))) m)

at_rest : (c : ℕ → Content) (r : Root) (t : Table) (b : ℕ) → T (elem b (Reaches c t)) → T (elem b (reach (form (tree_at c r)) ++ Reaches c t))
at_rest c r t b m = elem_right b (reach (form (tree_at c r))) (Reaches c t) m

pub trees_same : (c d : ℕ → Content) (t : Table) → Same (Reaches c t) c d → trees d t ≡ trees c t
trees_same c d [] h = refl
trees_same c d (None ∷ t) h = ap {B = Trees} (λ x. None ∷ x) (trees_same c d t h)
trees_same c d (Some r ∷ t) h =
    let e : tree_at d r ≡ tree_at c r = tree_same c d r (λ b m. h b (at_tree c r t b m)) in
    let e' : trees d t ≡ trees c t = trees_same c d t (λ b m. h b (at_rest c r t b m)) in
    λ i. Some (r, e i) ∷ e' i

pub good_same : (n : ℕ) (c d : ℕ → Content) (t : Table) → Same (Reaches c t) c d → Goods n c t → Goods n d t
good_same n c d [] h g = tt
good_same n c d (None ∷ t) h g = good_same n c d t h g
good_same n c d (Some r ∷ t) h g = (good_one n c d r (λ b m. h b (at_tree c r t b m)) g.0, good_same n c d t (λ b m. h b (at_rest c r t b m)) g.1)

-- the blocks of good trees are tree blocks
pub good_inside : (n : ℕ) (c : ℕ → Content) (t : Table) → Goods n c t → (b : ℕ) → T (elem b (Reaches c t)) → 2 ≤ b
good_inside n c [] g b h = absurd h
good_inside n c (None ∷ t) g b h = good_inside n c t g b h
good_inside n c (Some r ∷ t) g b h =
    elim (elem_cases b (reach (form (tree_at c r))) (Reaches c t) h) [
      | inl k ↦ (fit_inside n (tree_at c r) g.0.fit b (subst (λ z. T (elem b z)) (reach_form (tree_at c r)) k)).0
      | inr k ↦ good_inside n c t g.1 b k
    ]

abbrev pub tree_at? : (ℕ → Content) → Option Root → Option (Root × Tree)
tree_at? c None = None
tree_at? c (Some r) = Some (r, tree_at c r)

pub trees_put : (c : ℕ → Content) (t : Table) (n : ℕ) (o : Option Root) → trees c (set t n o) ≡ set (trees c t) n (tree_at? c o)
trees_put c [] n o = refl
trees_put c (None ∷ t) zero None = refl
trees_put c (None ∷ t) zero (Some r) = refl
trees_put c (Some x ∷ t) zero None = refl
trees_put c (Some x ∷ t) zero (Some r) = refl
trees_put c (None ∷ t) (suc n) o = ap {B = Trees} (λ x. None ∷ x) (trees_put c t n o)
trees_put c (Some x ∷ t) (suc n) o = ap {B = Trees} (λ y. Some (x, tree_at c x) ∷ y) (trees_put c t n o)

pub trees_place : (c : ℕ → Content) (t : Table) (n : ℕ) → place (trees c t) n ≡ tree_at? c (place t n)
trees_place c [] n = refl
trees_place c (None ∷ t) zero = refl
trees_place c (Some x ∷ t) zero = refl
trees_place c (None ∷ t) (suc n) = trees_place c t n
trees_place c (Some x ∷ t) (suc n) = trees_place c t n
