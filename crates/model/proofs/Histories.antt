-- The law of histories.
use Rattle.std.proofs.Common.{◌≡◌, ℕ, zero, suc, ◌+◌, ◌%◌, ◌<◌, ◌≤◌, min, Bool, true, false, cond, ◌||◌, T, eqb, ltb, ◌⊎◌, List, [], ◌∷◌, ◌++◌, length, get_or, take, set, Some, None, Ok, Err, Option, Result, sym, refl, ap, ◌∙◌, subst, ap₂, inl, inr, arith, lit≤, eqb→eq, length-set}
use mathlib.Core.Path.{fun_ext}
use lib.Dec.{eqb_refl}
use Rattle.device.specs.Meaning.{Content, Content.words, Cell, Meaning, blocks_of, current_at, written_cell, written, cell_at}
use Rattle.device.specs.Cuts.{Op, Op.write, Op.flush, Choice, Choice.persisted, Choice.current, Choice.other, Cutting, apply, replay, cut, cut_cell, remains}
use Rattle.device.proofs.Choices.{cut_at, cut_blocks, flush_at, write_at, write_off, blocks_apply, blocks_replay, width_replay}
use Rattle.page.specs.Slot.{Root, Table, slot_words}
use Rattle.model.specs.declared.refusal.Refusal.{Refusal}
use Rattle.model.specs.declared.refusal.Refusal.TheVariants.{Worn, Last, Shape}
use Rattle.model.specs.Plain.{Map, place, Ask, Call, Answer, answer, first, blank}
use Rattle.model.specs.Plain.{Ask.create, Ask.clone, Ask.delete, Ask.put, Ask.remove, Ask.get, Ask.at, Ask.rows, Ask.summary, Ask.seal, Call.ask, Call.finish, Call.reopen, Call.mount, Answer.done, Answer.refused}
use Rattle.table.specs.Rows.{payload_of}
use Rattle.model.specs.TreeBlocks.{Tree, Change, Change.begin, Change.puts, Change.takes, elem, root_of, tree_at, Stored, Fit, Good, Each, new_blocks, changed}
use Rattle.model.specs.Walk.{walk}
use Rattle.model.proofs.TreeLaws.{elem_left, elem_right, elem_cases, tree_stored, writes_form}
use Rattle.model.proofs.Walks.{walk_none}
use Rattle.model.proofs.Counting.{same_length, targets_length, places_length}
use Rattle.std.proofs.lemmas.List.{length-map}
use Rattle.tree.specs.Apart.{places}
use Rattle.model.proofs.Grants.{slot_law, sizes_parts, create_fit, put_fit, remove_fit}
use Rattle.std.proofs.lemmas.Bool.{cases_eq}
use Rattle.model.specs.Model.{Trees, Model, maps_of, refusal, late, free, used, holds, source, new_tree, forms, reaches}
use Rattle.model.specs.Ideal.{writes_for, standing, left_after, next, reply, after, with_change, broken, landed, finished, cut_model, working≔}
use Rattle.model.specs.World.{Tables, Mode, Mode.mounted, Mode.sealed, Mode.down, placed, finished_tables, trees, model_of, shape, latest, walked, faulty, found, sizes, slot_in, fresh, Formatted, FreeWrite, Changed, targets, Effect, Quiet, Mounts, Does, Step, Event, Event.did, Event.broke, Event.lost, Run, Traced, Refines, bare}
use Rattle.model.proofs.Frames.{Calm, calm_cut, Still, Keeps, Off, IsWrite, left_replay, layer_replay, calm_apply, calm_replay, keeps_writes, cut_calm, keeps_cut, keeps_flush, still_keeps, Same, each_take, each_map, OnPlace, good_at, good_set, Goods, Reaches, trees_same, good_same, good_inside, trees_place, trees_put}

-- 0 and 1, and no more, stand below 2
small_in : (n : ℕ) (R : List ℕ) → n < 2 → T (elem n (0 ∷ 1 ∷ R))
small_in zero R h = tt
small_in (suc zero) R h = tt
small_in (suc (suc n)) R h = absurd (omega arith)

in_small : (b : ℕ) → T (elem b (0 ∷ 1 ∷ [])) → b < 2
in_small b h = go (eqb b 0) refl h
  where
    go₁ : (k : Bool) → eqb b 1 ≡ k → T (k || false) → b < 2
    go₁ true e h = let z : b ≡ 1 = eqb→eq b 1 (subst T (sym e) tt) in omega arith
    go₁ false e h = absurd h

    go : (k : Bool) → eqb b 0 ≡ k → T (k || (eqb b 1 || false)) → b < 2
    go true e h = let z : b ≡ 0 = eqb→eq b 0 (subst T (sym e) tt) in omega arith
    go false e h = go₁ (eqb b 1) refl h

unequal : (a b : ℕ) → (a ≡ b → ⊥) → eqb a b ≡ false
unequal a b h = go (eqb a b) refl
  where
    go : (k : Bool) → eqb a b ≡ k → eqb a b ≡ false
    go false e = e
    go true e = absurd (h (eqb→eq a b (subst T (sym e) tt)))

equal : (a b : ℕ) → a ≡ b → eqb a b ≡ true
equal a b e = go (eqb a b) refl
  where
    go : (k : Bool) → eqb a b ≡ k → eqb a b ≡ true
    go true q = q
    go false q = absurd (subst T q (subst (λ x. T (eqb a x)) e (eqb_refl a)))

-- the device holds the table t of generation g, whatever is cut
pub record Kept (m : Meaning) (g : ℕ) (t : Table) : Type 0 where
  pub sized : sizes (blocks_of m) m.width ≡ true
  pub still : Still (0 ∷ 1 ∷ Reaches (current_at m) t) m
  pub len : length t ≡ 24
  pub goods : Goods (blocks_of m) (current_at m) t
  pub fits : g ≤ 268435455
  pub slot : slot_in (blocks_of m) (g % 2) (current_at m (g % 2)) ≡ Some (g, t)
  pub older : ℕ
  pub older_table : Table
  pub before : suc older ≡ g
  pub other_slot : slot_in (blocks_of m) (suc g % 2) (current_at m (suc g % 2)) ≡ Some (older, older_table)

pub record Base (t : Tables) (m : Meaning) : Type 0 where
  pub calm : Calm m
  pub kept : Kept m t.generation t.committed
  pub len : length t.working ≡ 24
  pub goods : Goods (blocks_of m) (current_at m) t.working

keeps_in : (m m' : Meaning) (t : Table) → Keeps (0 ∷ 1 ∷ Reaches (current_at m) t) m m' → Same (Reaches (current_at m) t) (current_at m) (current_at m')
keeps_in m m' t k b h = ap (λ c. c.current) (k b (elem_right b (0 ∷ 1 ∷ []) (Reaches (current_at m) t) h))

kept_keeps : (m m' : Meaning) (g : ℕ) (t : Table) → blocks_of m' ≡ blocks_of m → m'.width ≡ m.width → Keeps (0 ∷ 1 ∷ Reaches (current_at m) t) m m' → Kept m g t → Kept m' g t
kept_keeps m m' g t eb ew k K =
    let R : List ℕ = Reaches (current_at m) t in
    let same : Same R (current_at m) (current_at m') = keeps_in m m' t k in
    let at_slot : (n : ℕ) → n < 2 → current_at m' n ≡ current_at m n = λ n h. ap (λ c. c.current) (k n (small_in n R h)) in
    record {
      sized = ap₂ sizes eb ew ∙ K.sized;
      still = subst (λ Q. Still (0 ∷ 1 ∷ reaches (forms Q)) m') (sym (trees_same (current_at m) (current_at m') t same)) (still_keeps (0 ∷ 1 ∷ R) m m' k K.still);
      len = K.len;
      goods = subst (λ n. Goods n (current_at m') t) (sym eb) (good_same (blocks_of m) (current_at m) (current_at m') t same K.goods);
      fits = K.fits;
      slot = ap₂ (λ n c. slot_in n (g % 2) c) eb (at_slot (g % 2) (omega arith)) ∙ K.slot;
      older = K.older;
      older_table = K.older_table;
      before = K.before;
      other_slot = ap₂ (λ n c. slot_in n (suc g % 2) c) eb (at_slot (suc g % 2) (omega arith)) ∙ K.other_slot;
    }

-- mount finds it
abbrev seen : Meaning → Result (ℕ × Table) Refusal
seen m = walked (walk (blocks_of m) (current_at m) 0) (latest (slot_in (blocks_of m) 0 (current_at m 0)) (slot_in (blocks_of m) 1 (current_at m 1)))

found_kept : (m : Meaning) (g : ℕ) (t : Table) → Kept m g t → found m ≡ Ok (g, t)
found_kept m g t K = ap (λ k. cond k (seen m) (Err Shape)) K.sized ∙ go (g % 2) refl
  where
    sees : (x : ℕ × Table) → x ≡ (g, t) → (l : Option (ℕ × Table)) → l ≡ Some x → walked (walk (blocks_of m) (current_at m) 0) l ≡ Ok (g, t)
    sees x ex l el =
        ap (walked (walk (blocks_of m) (current_at m) 0)) (el ∙ ap Some ex)
        ∙ ap (λ o. elim o as (λ _. Result (ℕ × Table) Refusal) [ Some r ↦ Err (faulty r) | None ↦ Ok (g, t) ]) (walk_none (blocks_of m) (current_at m) 0 t K.goods)

    even : g % 2 ≡ 0 → seen m ≡ Ok (g, t)
    even z =
        let z' : suc g % 2 ≡ 1 = omega arith in
        let s₀ : slot_in (blocks_of m) 0 (current_at m 0) ≡ Some (g, t) = subst (λ n. slot_in (blocks_of m) n (current_at m n) ≡ Some (g, t)) z K.slot in
        let s₁ : slot_in (blocks_of m) 1 (current_at m 1) ≡ Some (K.older, K.older_table) = subst (λ n. slot_in (blocks_of m) n (current_at m n) ≡ Some (K.older, K.older_table)) z' K.other_slot in
        let b = K.before in
        let u : eqb (suc g) K.older ≡ false = unequal (suc g) K.older (λ e. omega arith) in
        let v : eqb (suc K.older) g ≡ true = equal (suc K.older) g b in
        sees (g, t) refl _ (ap₂ latest s₀ s₁ ∙ ap₂ (λ p q. cond p (Some (K.older, K.older_table)) (cond q (Some (g, t)) None)) u v)

    odd : g % 2 ≡ 1 → seen m ≡ Ok (g, t)
    odd z =
        let z' : suc g % 2 ≡ 0 = omega arith in
        let s₁ : slot_in (blocks_of m) 1 (current_at m 1) ≡ Some (g, t) = subst (λ n. slot_in (blocks_of m) n (current_at m n) ≡ Some (g, t)) z K.slot in
        let s₀ : slot_in (blocks_of m) 0 (current_at m 0) ≡ Some (K.older, K.older_table) = subst (λ n. slot_in (blocks_of m) n (current_at m n) ≡ Some (K.older, K.older_table)) z' K.other_slot in
        let v : eqb (suc K.older) g ≡ true = equal (suc K.older) g K.before in
        sees (g, t) refl _ (ap₂ latest s₀ s₁ ∙ ap (λ p. cond p (Some (g, t)) (cond (eqb (suc g) K.older) (Some (K.older, K.older_table)) None)) v)

    go : (r : ℕ) → g % 2 ≡ r → seen m ≡ Ok (g, t)
    go zero e = even e
    go (suc zero) e = odd e
    go (suc (suc r)) e = absurd (omega arith)

-- the world is sound and holds the trees of the model
unfoldable pub Fine : Model → Mode → Meaning → Type 0
Fine M (mounted t) m = Base t m × (model_of t m ≡ M)
Fine M (sealed t) m = Base t m × ((b : ℕ) → (cell_at m b).mark ≡ 0) × (suc t.generation ≤ 268435455) × (model_of t m ≡ M)
Fine M down m =
    Calm m × ((g : ℕ) × (t : Table) × Kept m g t × (trees (current_at m) t ≡ M.committed) × (g ≡ M.generation) × (blocks_of m ≡ M.blocks) × (m.left ≡ M.left) × (m.left_mark ≡ M.layer))

-- what the next mount finds
pub fine_finds : (M : Model) (m : Meaning) → Fine M down m → (t : Table) × (found m ≡ Ok (M.generation, t))
unfolding Fine
fine_finds M m f = (f.1.1, found_kept m f.1.0 f.1.1 f.1.2 ∙ ap (λ g. Ok (g, f.1.1)) f.1.4)

pub fine_table : (M : Model) (m : Meaning) → Fine M down m → (x : ℕ × Table) × (found m ≡ Ok x) × (maps_of (trees (current_at m) x.1) ≡ maps_of M.committed) × (x.0 ≡ M.generation)
unfolding Fine
fine_table M m f = ((f.1.0, f.1.1), found_kept m f.1.0 f.1.1 f.1.2, ap maps_of f.1.3, f.1.4)

-- power fails while the device holds the table
cut_fine : (M : Model) (κ : Cutting) (m : Meaning) (g : ℕ) (t : Table) → Calm m → Kept m g t → trees (current_at m) t ≡ M.committed → g ≡ M.generation → blocks_of m ≡ M.blocks → Fine (cut_model κ M) down (cut κ m)
unfolding Fine
cut_fine M κ m g t calm K em eg eb =
    let R : List ℕ = Reaches (current_at m) t in
    let ks : Keeps (0 ∷ 1 ∷ R) m (cut κ m) = keeps_cut (0 ∷ 1 ∷ R) κ m calm K.still in
    (calm_cut κ m, (g, t, kept_keeps m (cut κ m) g t (cut_blocks κ m) refl ks K, trees_same (current_at m) (current_at (cut κ m)) t (keeps_in m (cut κ m) t ks) ∙ em, eg, cut_blocks κ m ∙ eb, refl, refl))

-- writes to free blocks
free_off : (t : Tables) (m : Meaning) (o : Op) → FreeWrite t m o → Off (0 ∷ 1 ∷ used (shape t m)) o
free_off t m (write b ws) f = λ h.
    elim (elem_cases b (0 ∷ 1 ∷ []) (used (shape t m)) h) [ inl k ↦ (let q : b < 2 = in_small b k in let q' = f.0 in omega arith) | inr k ↦ f.2 k ]
free_off t m flush f = f

wider_committed : (t : Tables) (m : Meaning) (b : ℕ) → T (elem b (0 ∷ 1 ∷ Reaches (current_at m) t.committed)) → T (elem b (0 ∷ 1 ∷ used (shape t m)))
wider_committed t m b h =
    let W : List ℕ = Reaches (current_at m) t.working in
    let C : List ℕ = Reaches (current_at m) t.committed in
    elim (elem_cases b (0 ∷ 1 ∷ []) C h) [
      | inl k ↦ elem_left b (0 ∷ 1 ∷ []) (W ++ C) k
      | inr k ↦ elem_right b (0 ∷ 1 ∷ []) (W ++ C) (elem_right b W C k)
    ]

pub in_working : (t : Tables) (m : Meaning) (b : ℕ) → T (elem b (Reaches (current_at m) t.working)) → T (elem b (0 ∷ 1 ∷ used (shape t m)))
in_working t m b h =
    let W : List ℕ = Reaches (current_at m) t.working in
    let C : List ℕ = Reaches (current_at m) t.committed in
    elem_right b (0 ∷ 1 ∷ []) (W ++ C) (elem_left b W C h)

pub keeps_free : (t : Tables) (m : Meaning) (os : List Op) → Each (FreeWrite t m) os → Keeps (0 ∷ 1 ∷ used (shape t m)) m (replay os m)
keeps_free t m os f = keeps_writes (0 ∷ 1 ∷ used (shape t m)) os m (each_map (FreeWrite t m) (Off (0 ∷ 1 ∷ used (shape t m))) (free_off t m) os f)

-- the committed table outlives them
free_kept : (t : Tables) (m : Meaning) (os : List Op) → Base t m → Each (FreeWrite t m) os
    → Kept (replay os m) t.generation t.committed × (trees (current_at (replay os m)) t.committed ≡ trees (current_at m) t.committed)
free_kept t m os B f =
    let C : List ℕ = Reaches (current_at m) t.committed in
    let ks : Keeps (0 ∷ 1 ∷ C) m (replay os m) = λ b h. keeps_free t m os f b (wider_committed t m b h) in
    (kept_keeps m (replay os m) t.generation t.committed (blocks_replay os m) (width_replay os m) ks B.kept, trees_same (current_at m) (current_at (replay os m)) t.committed (keeps_in m (replay os m) t.committed ks))

pub are_writes : (t : Tables) (m : Meaning) (o : Op) → FreeWrite t m o → IsWrite o
are_writes t m (write b ws) f = tt
are_writes t m flush f = f

sown_fine : (t : Tables) (m : Meaning) (n : ℕ) (d : Change ℕ) (os : List Op) (w' : Mode) → Base t m → Fit (blocks_of m) (new_tree (model_of t m) n d) → Changed t m n d os w' (replay os m) → Fine (with_change (model_of t m) n d) w' (replay os m)
unfolding Fine
sown_fine t m n d os w' B F G =
    let u : Tree = new_tree (model_of t m) n d in
    let r : Root = root_of u in
    let m₁ : Meaning = replay os m in
    let k : ℕ = writes_for (model_of t m) n d in
    let K = free_kept t m os B G.0 in
    let same : Same (Reaches (current_at m) t.working) (current_at m) (current_at m₁) = λ b h. ap (λ c. c.current) (keeps_free t m os G.0 b (in_working t m b h)) in
    let eb : blocks_of m₁ ≡ blocks_of m = blocks_replay os m in
    let gs : Goods (blocks_of m) (current_at m₁) t.working = good_same (blocks_of m) (current_at m) (current_at m₁) t.working same B.goods in
    let et : tree_at (current_at m₁) r ≡ u = tree_stored (current_at m₁) u G.3 in
    let g₁ : Good (blocks_of m) (current_at m₁) r = record { height = omega arith; stored = subst (Stored (current_at m₁)) (sym et) G.3; fit = subst (Fit (blocks_of m)) (sym et) F } in
    let ms : trees (current_at m₁) (set t.working n (Some r)) ≡ set (trees (current_at m) t.working) n (standing u)
    = trees_put (current_at m₁) t.working n (Some r) ∙ ap₂ (λ (v : Trees) (y : Tree). set v n (Some (r, y))) (trees_same (current_at m) (current_at m₁) t.working same) et in
    let ws : Each IsWrite os = each_map (FreeWrite t m) IsWrite (are_writes t m) os G.0 in
    let ps : List ℕ = places ℕ (changed ℕ d (source (model_of t m) n d)) in
    let en : length os ≡ k
    = sym (targets_length os ws) ∙ same_length (targets os) (new_blocks d (free (shape t m)) (source (model_of t m) n d)) G.1
    ∙ length-map ps (λ i. get_or (free (shape t m)) i 0) ∙ places_length ℕ (changed ℕ d (source (model_of t m) n d)) ∙ writes_form d (source (model_of t m) n d) in
    let el : m₁.left ≡ left_after k m.left = left_replay os m ws ∙ ap (λ y. left_after y m.left) en in
    let base : Base (placed t (set t.working n (Some r))) m₁ = record {
      calm = calm_replay os m B.calm;
      kept = K.0;
      len = length-set t.working n (Some r) ∙ B.len;
      goods = subst (λ y. Goods y (current_at m₁) (set t.working n (Some r))) (sym eb) (good_set (Good (blocks_of m) (current_at m₁)) t.working n (Some r) gs g₁);
    } in
    subst (λ w. Fine (with_change (model_of t m) n d) w m₁) (sym G.2) (base, λ i. record { working = ms i; committed = K.1 i; generation = t.generation; blocks = eb i; left = el i; layer = layer_replay os m i })

grown_fine : (t : Tables) (m : Meaning) (n : ℕ) (d : Change ℕ) (os : List Op) (w' : Mode) (m' : Meaning) → Base t m → m' ≡ replay os m → Fit (blocks_of m) (new_tree (model_of t m) n d) → Changed t m n d os w' m' → Fine (with_change (model_of t m) n d) w' m'
grown_fine t m n d os w' m' B em F G = subst (λ x. Changed t m n d os w' x → Fine (with_change (model_of t m) n d) w' x) (sym em) (at_end t m n d os w' B F) G
  where
    at_end : (t : Tables) (m : Meaning) (n : ℕ) (d : Change ℕ) (os : List Op) (w' : Mode) → Base t m → Fit (blocks_of m) (new_tree (model_of t m) n d) → Changed t m n d os w' (replay os m) → Fine (with_change (model_of t m) n d) w' (replay os m)
    at_end = sown_fine

-- a call that leaves the device alone
quiet_fine : (p : Model) (w w' : Mode) (m m' : Meaning) (os : List Op) → m' ≡ replay os m → Quiet w os w' → Fine p w m → Fine p w' m'
quiet_fine p w w' m m' os em q f =
    let e : m' ≡ m = em ∙ ap (λ x. replay x m) q.0 in
    subst (λ x. Fine p x m') (sym q.1) (subst (λ x. Fine p w x) (sym e) f)

-- the working place n gets what is at o
placed_base : (t : Tables) (m : Meaning) (n : ℕ) (o : Option Root) → Base t m → OnPlace (Good (blocks_of m) (current_at m)) o → Base (placed t (set t.working n o)) m
placed_base t m n o B g = record {
  calm = B.calm;
  kept = B.kept;
  len = length-set t.working n o ∙ B.len;
  goods = good_set (Good (blocks_of m) (current_at m)) t.working n o B.goods g;
}

-- seal
flush_contents : (m : Meaning) → current_at (apply flush m) ≡ current_at m
flush_contents m = fun_ext (λ b. ap (λ c. c.current) (flush_at m b))

model_flush : (t : Tables) (m : Meaning) → model_of t (apply flush m) ≡ model_of t m
model_flush t m = λ i. record {
  working = trees (flush_contents m i) t.working;
  committed = trees (flush_contents m i) t.committed;
  generation = t.generation;
  blocks = blocks_apply flush m i;
  left = m.left;
  layer = m.left_mark;
}

seal_base : (t : Tables) (m : Meaning) → Base t m → Base t (apply flush m)
seal_base t m B =
    let R : List ℕ = 0 ∷ 1 ∷ Reaches (current_at m) t.committed in
    record {
      calm = calm_apply flush m B.calm;
      kept = kept_keeps m (apply flush m) t.generation t.committed (blocks_apply flush m) refl (keeps_flush R m B.calm B.kept.still) B.kept;
      len = B.len;
      goods = subst (λ c. Goods (blocks_of (apply flush m)) c t.working) (sym (flush_contents m)) (subst (λ n. Goods n (current_at m) t.working) (sym (blocks_apply flush m)) B.goods);
    }

IsNone : {A : Type 0} → Option A → Type 0
IsNone None = Unit
IsNone (Some x) = ⊥

second_fails : (p q : Bool) (r s : Refusal) → first ((p, r) ∷ (q, s) ∷ []) ≡ None → q ≡ false
unfolding IsNone
second_fails true q r s e = absurd (subst IsNone (sym e) tt)
second_fails false true r s e = absurd (subst IsNone (sym e) tt)
second_fails false false r s e = refl

seal_fits : (t : Tables) (m : Meaning) → t.generation ≤ 268435455 → late (shape t m) seal ≡ None → suc t.generation ≤ 268435455
seal_fits t m h e =
    let q : eqb t.generation 268435455 ≡ false = second_fails (ltb m.left 1) (eqb t.generation 268435455) (Worn None m.left_mark) Last e in
    let ne : t.generation ≡ 268435455 → ⊥ = λ z. subst T (sym (equal t.generation 268435455 z) ∙ q) tt in
    omega (arith, ne)

effect_fine : (q : Ask) (t : Tables) (m : Meaning) (os : List Op) (w' : Mode) (m' : Meaning) → Base t m → m' ≡ replay os m
    → refusal (shape t m) q ≡ None → Effect t m q os w' m' → Fine (after (model_of t m) q) w' m'
unfolding Fine
effect_fine (create n) t m os w' m' B em no' E = grown_fine t m n begin os w' m' B em (create_fit t m B.kept.sized B.goods n no') E
effect_fine (clone f n) t m os w' m' B em no' E =
    let o : Option Root = place t.working f in
    let e : trees (current_at m) (set t.working n o) ≡ set (trees (current_at m) t.working) n (place (trees (current_at m) t.working) f)
    = trees_put (current_at m) t.working n o ∙ ap (λ x. set (trees (current_at m) t.working) n x) (sym (trees_place (current_at m) t.working f)) in
    quiet_fine _ (mounted (placed t (set t.working n o))) w' m m' os em E (placed_base t m n o B (good_at _ t.working f B.goods), ap (working≔ (model_of t m)) e)
effect_fine (delete n) t m os w' m' B em no' E =
    quiet_fine _ (mounted (placed t (set t.working n None))) w' m m' os em E (placed_base t m n None B tt, ap (working≔ (model_of t m)) (trees_put (current_at m) t.working n None))
effect_fine (put n s a) t m os w' m' B em no' E = grown_fine t m n (puts s (payload_of a)) os w' m' B em (put_fit t m B.kept.sized B.goods n s a no') E
effect_fine (remove n s) t m os w' m' B em no' E = go (holds (shape t m) n s) refl E
  where
    go : (k : Bool) → holds (shape t m) n s ≡ k → cond k (Changed t m n (takes s) os w' m') (Quiet (mounted t) os w') → Fine (cond k (with_change (model_of t m) n (takes s)) (model_of t m)) w' m'
    go true h E = grown_fine t m n (takes s) os w' m' B em (remove_fit t m B.kept.sized B.goods n s no' h) E
    go false h E = quiet_fine _ (mounted t) w' m m' os em E (B, refl)
effect_fine (get n s) t m os w' m' B em no' E = quiet_fine _ (mounted t) w' m m' os em E (B, refl)
effect_fine (at n s) t m os w' m' B em no' E = quiet_fine _ (mounted t) w' m m' os em E (B, refl)
effect_fine (rows n s k) t m os w' m' B em no' E = quiet_fine _ (mounted t) w' m m' os em E (B, refl)
effect_fine (summary k n) t m os w' m' B em no' E = quiet_fine _ (mounted t) w' m m' os em E (B, refl)
effect_fine seal t m os w' m' B em no' E =
    let e : m' ≡ apply flush m = em ∙ ap (λ x. replay x m) E.0 in
    subst (λ x. Fine (model_of t m) x m') (sym E.1) (subst (λ x. Fine (model_of t m) (sealed t) x) (sym e) (seal_base t m B, (λ b. ap (λ c. c.mark) (flush_at m b)), seal_fits t m B.kept.fits no', model_flush t m))

-- the device after the slot of the working table is written, however that came
commit_kept : (t : Tables) (m d : Meaning) → Base t m → suc t.generation ≤ 268435455 → blocks_of d ≡ blocks_of m → d.width ≡ m.width → ((b : ℕ) → (cell_at d b).mark ≡ 0)
    → current_at d (suc t.generation % 2) ≡ words (slot_words m.width (suc t.generation) t.working)
    → ((b : ℕ) → (b ≡ suc t.generation % 2 → ⊥) → current_at d b ≡ current_at m b)
    → Kept d (suc t.generation) t.working × (trees (current_at d) t.working ≡ trees (current_at m) t.working)
commit_kept t m d B fits eb ed still ew else' =
    let g : ℕ = t.generation in
    let same : Same (Reaches (current_at m) t.working) (current_at m) (current_at d)
    = λ b h. (let q : 2 ≤ b = good_inside (blocks_of m) (current_at m) t.working B.goods b h in else' b (λ e. omega arith)) in
    let gs : Goods (blocks_of d) (current_at d) t.working = subst (λ n. Goods n (current_at d) t.working) (sym eb) (good_same (blocks_of m) (current_at m) (current_at d) t.working same B.goods) in
    let par : suc (suc g) % 2 ≡ g % 2 = omega arith in (
      record {
        sized = ap₂ sizes eb ed ∙ B.kept.sized;
        still = λ b h. still b;
        len = B.len;
        goods = gs;
        fits = fits;
        slot = ap (λ c. slot_in (blocks_of d) (suc g % 2) c) ew ∙ slot_law (blocks_of d) m.width (suc g) (current_at d) t.working (ap (λ n. sizes n m.width) eb ∙ B.kept.sized) B.len gs fits;
        older = g;
        older_table = t.committed;
        before = refl;
        other_slot = ap (λ n. slot_in (blocks_of d) n (current_at d n)) par ∙ ap₂ (λ n c. slot_in n (g % 2) c) eb (else' (g % 2) (λ e. omega arith)) ∙ B.kept.slot;
      },
      trees_same (current_at m) (current_at d) t.working same,
    )

abbrev slot_op : Tables → Meaning → Op
slot_op t m = write (suc t.generation % 2) (slot_words m.width (suc t.generation) t.working)

slot_there : (m : Meaning) (g : ℕ) → sizes (blocks_of m) m.width ≡ true → g % 2 < blocks_of m
slot_there m g z = let p = (sizes_parts (blocks_of m) m.width z).0 in omega arith

finish_kept : (t : Tables) (m : Meaning) → Base t m → suc t.generation ≤ 268435455
    → Kept (replay (slot_op t m ∷ flush ∷ []) m) (suc t.generation) t.working × (trees (current_at (replay (slot_op t m ∷ flush ∷ []) m)) t.working ≡ trees (current_at m) t.working)
finish_kept t m B fits =
    let s : ℕ = suc t.generation % 2 in
    let ws : List ℕ = slot_words m.width (suc t.generation) t.working in
    commit_kept t m (replay (slot_op t m ∷ flush ∷ []) m) B fits (blocks_replay (slot_op t m ∷ flush ∷ []) m) refl (λ b. ap (λ c. c.mark) (flush_at (written m s ws) b))
    (ap (λ c. c.current) (flush_at (written m s ws) s) ∙ ap (λ c. c.current) (write_at m s ws (slot_there m (suc t.generation) B.kept.sized)))
    (λ b e. ap (λ c. c.current) (flush_at (written m s ws) b) ∙ ap (λ c. c.current) (write_off m s b ws e))

finish_fine : (t : Tables) (m : Meaning) → Base t m → suc t.generation ≤ 268435455 → Fine (finished (model_of t m)) (mounted (finished_tables t)) (replay (slot_op t m ∷ flush ∷ []) m)
unfolding Fine
finish_fine t m B fits =
    let K = finish_kept t m B fits in
    let d : Meaning = replay (slot_op t m ∷ flush ∷ []) m in (
      record { calm = calm_replay (slot_op t m ∷ flush ∷ []) m B.calm; kept = K.0; len = K.0.len; goods = K.0.goods },
      λ i. record { working = K.1 i; committed = K.1 i; generation = suc t.generation; blocks = blocks_replay (slot_op t m ∷ flush ∷ []) m i; left = (finished (model_of t m)).left; layer = m.left_mark },
    )

-- power fails between the write and the flush
torn_fine : (t : Tables) (m : Meaning) (κ : Cutting) → Base t m → ((b : ℕ) → (cell_at m b).mark ≡ 0) → suc t.generation ≤ 268435455
    → Fine (cut_model κ (landed (κ.choice (suc t.generation % 2)) (model_of t m))) down (cut κ (apply (slot_op t m) m))
unfolding Fine
torn_fine t m κ B still fits = go (κ.choice s) refl
  where
    s : ℕ
    s = suc t.generation % 2

    ws : List ℕ
    ws = slot_words m.width (suc t.generation) t.working

    d : Meaning
    d = cut κ (apply (slot_op t m) m)

    there : s < blocks_of m
    there = slot_there m (suc t.generation) B.kept.sized

    eb : blocks_of d ≡ blocks_of m
    eb = cut_blocks κ (written m s ws) ∙ blocks_apply (slot_op t m) m

    -- elsewhere nothing is written
    off : (b : ℕ) → (b ≡ s → ⊥) → cell_at d b ≡ cell_at m b
    off b ne = cut_at κ (written m s ws) b ∙ ap (cut_cell (κ.choice b)) (write_off m s b ws ne) ∙ cut_calm (κ.choice b) (cell_at m b) (still b) (B.calm b (still b))

    here : cell_at d s ≡ cut_cell (κ.choice s) (written_cell ws (cell_at m s))
    here = cut_at κ (written m s ws) s ∙ ap (cut_cell (κ.choice s)) (write_at m s ws there)

    -- the slot is the old one
    at_old : (k : Choice) (c : Cell) → k ≡ persisted → c.mark ≡ 0 → c.persisted ≡ c.current → cut_cell k (written_cell ws c) ≡ c
    at_old k c e z p =
        let f : remains (min (c.mark + 1) 2) k (written_cell ws c) ≡ c.persisted = ap₂ (λ n x. remains (min (n + 1) 2) x (written_cell ws c)) z e in
        λ i. record { persisted = f i; current = (f ∙ p) i; mark = sym z i }

    same_old : κ.choice s ≡ persisted → (b : ℕ) → cell_at d b ≡ cell_at m b
    same_old e b =
        elim (cases_eq b s) [
          | inl q ↦ subst (λ x. cell_at d x ≡ cell_at m x) (sym q) (here ∙ at_old (κ.choice s) (cell_at m s) e (still s) (B.calm s (still s)))
          | inr ne ↦ off b ne
        ]

    was : κ.choice s ≡ persisted → Fine (cut_model κ (model_of t m)) down d
    was e =
        let R : List ℕ = 0 ∷ 1 ∷ Reaches (current_at m) t.committed in
        let ks : Keeps R m d = λ b h. same_old e b in
        (calm_cut κ (written m s ws), (t.generation, t.committed, kept_keeps m d t.generation t.committed eb refl ks B.kept, trees_same (current_at m) (current_at d) t.committed (keeps_in m d t.committed ks), refl, eb, refl, refl))

    -- the slot is the new one
    at_new : (k : Choice) (c : Cell) → ((k ≡ current) ⊎ ((x : Content) × (k ≡ other x))) → c.mark ≡ 0 → (cut_cell k (written_cell ws c)).current ≡ words ws
    at_new k c (inl e) z = ap₂ (λ n x. remains (min (n + 1) 2) x (written_cell ws c)) z e
    at_new k c (inr e) z = ap₂ (λ n x. remains (min (n + 1) 2) x (written_cell ws c)) z e.1

    is : ((κ.choice s ≡ current) ⊎ ((x : Content) × (κ.choice s ≡ other x))) → Fine (cut_model κ (finished (model_of t m))) down d
    is e =
        let K = commit_kept t m d B fits eb refl (λ b. ap (λ c. c.mark) (cut_at κ (written m s ws) b))
        (ap (λ c. c.current) here ∙ at_new (κ.choice s) (cell_at m s) e (still s))
        (λ b q. ap (λ c. c.current) (off b q)) in
        (calm_cut κ (written m s ws), (suc t.generation, t.working, K.0, K.1, refl, eb, refl, refl))

    go : (k : Choice) → κ.choice s ≡ k → Fine (cut_model κ (landed k (model_of t m))) down d
    go persisted e = was e
    go current e = is (inl e)
    go (other x) e = is (inr (x, e))

-- power fails between two calls
pub idle_cut : (M : Model) (κ : Cutting) (w : Mode) (m : Meaning) → Fine M w m → Fine (cut_model κ M) down (cut κ m)
unfolding Fine
idle_cut M κ (mounted t) m f = cut_fine M κ m t.generation t.committed f.0.calm f.0.kept (ap (λ x. x.committed) f.1) (ap (λ x. x.generation) f.1) (ap (λ x. x.blocks) f.1)
idle_cut M κ (sealed t) m f = cut_fine M κ m t.generation t.committed f.0.calm f.0.kept (ap (λ x. x.committed) f.3) (ap (λ x. x.generation) f.3) (ap (λ x. x.blocks) f.3)
idle_cut M κ down m f = cut_fine M κ m f.1.0 f.1.1 f.0 f.1.2 f.1.3 f.1.4 f.1.5

take_none : (k : ℕ) (os : List Op) → os ≡ [] → take k os ≡ []
take_none zero os e = refl
take_none (suc k) os e = ap (take (suc k)) e

-- power fails inside a call without device calls
quiet_cut : (p : Model) (κ : Cutting) (w : Mode) (m : Meaning) (os : List Op) (k : ℕ) → os ≡ [] → Fine p w m → Fine (cut_model κ p) down (cut κ (replay (take k os) m))
quiet_cut p κ w m os k e f = subst (λ x. Fine (cut_model κ p) down (cut κ (replay x m))) (sym (take_none k os e)) (idle_cut p κ w m f)

-- the device calls of what a mounted volume is asked
effect_ops : (q : Ask) (t : Tables) (m : Meaning) (os : List Op) (w' : Mode) (m' : Meaning) → Effect t m q os w' m' → (os ≡ flush ∷ []) ⊎ Each (FreeWrite t m) os
effect_ops (create n) t m os w' m' E = inr E.0
effect_ops (clone f n) t m os w' m' E = inr (subst (Each (FreeWrite t m)) (sym E.0) tt)
effect_ops (delete n) t m os w' m' E = inr (subst (Each (FreeWrite t m)) (sym E.0) tt)
effect_ops (put n s a) t m os w' m' E = inr E.0
effect_ops (remove n s) t m os w' m' E = go (holds (shape t m) n s) E
  where
    go : (k : Bool) → cond k (Changed t m n (takes s) os w' m') (Quiet (mounted t) os w') → (os ≡ flush ∷ []) ⊎ Each (FreeWrite t m) os
    go true E = inr E.0
    go false E = inr (subst (Each (FreeWrite t m)) (sym E.0) tt)
effect_ops (get n s) t m os w' m' E = inr (subst (Each (FreeWrite t m)) (sym E.0) tt)
effect_ops (at n s) t m os w' m' E = inr (subst (Each (FreeWrite t m)) (sym E.0) tt)
effect_ops (rows n s k) t m os w' m' E = inr (subst (Each (FreeWrite t m)) (sym E.0) tt)
effect_ops (summary k n) t m os w' m' E = inr (subst (Each (FreeWrite t m)) (sym E.0) tt)
effect_ops seal t m os w' m' E = inl E.0

free_cut : (t : Tables) (m : Meaning) (os : List Op) (κ : Cutting) → Base t m → Each (FreeWrite t m) os → Fine (cut_model κ (model_of t m)) down (cut κ (replay os m))
free_cut t m os κ B f =
    let K = free_kept t m os B f in
    cut_fine (model_of t m) κ (replay os m) t.generation t.committed (calm_replay os m B.calm) K.0 K.1 refl (blocks_replay os m)

flush_cut : (t : Tables) (m : Meaning) (κ : Cutting) (k : ℕ) → Base t m → Fine (cut_model κ (model_of t m)) down (cut κ (replay (take k (flush ∷ [])) m))
unfolding Fine
flush_cut t m κ zero B = idle_cut (model_of t m) κ (mounted t) m (B, refl)
flush_cut t m κ (suc k) B =
    subst (λ x. Fine (cut_model κ (model_of t m)) down (cut κ (replay (flush ∷ x) m))) (sym (take_none k [] refl)) (idle_cut (model_of t m) κ (mounted t) (apply flush m) (seal_base t m B, model_flush t m))

effect_cut : (q : Ask) (t : Tables) (m : Meaning) (os : List Op) (w' : Mode) (m' : Meaning) (k : ℕ) (κ : Cutting) → Base t m → Effect t m q os w' m' → Fine (cut_model κ (model_of t m)) down (cut κ (replay (take k os) m))
effect_cut q t m os w' m' k κ B E =
    elim (effect_ops q t m os w' m' E) [
      | inl e ↦ subst (λ x. Fine (cut_model κ (model_of t m)) down (cut κ (replay (take k x) m))) (sym e) (flush_cut t m κ k B)
      | inr f ↦ free_cut t m (take k os) κ B (each_take (FreeWrite t m) k os f)
    ]

finish_cut : (t : Tables) (m : Meaning) (k : ℕ) (κ : Cutting) → Base t m → ((b : ℕ) → (cell_at m b).mark ≡ 0) → suc t.generation ≤ 268435455
    → Fine (cut_model κ (broken (model_of t m) finish k κ)) down (cut κ (replay (take k (slot_op t m ∷ flush ∷ [])) m))
unfolding Fine
finish_cut t m zero κ B still fits = idle_cut (model_of t m) κ (mounted t) m (B, refl)
finish_cut t m (suc zero) κ B still fits = torn_fine t m κ B still fits
finish_cut t m (suc (suc k)) κ B still fits =
    let p : Model = finished (model_of t m) in
    subst (λ x. Fine (cut_model κ p) down (cut κ (replay (slot_op t m ∷ flush ∷ x) m))) (sym (take_none k [] refl)) (idle_cut p κ (mounted (finished_tables t)) (replay (slot_op t m ∷ flush ∷ []) m) (finish_fine t m B fits))

module _ (V : Type 0) (join : ℕ → Map → V) where
  mounts_fine : (M : Model) (m : Meaning) (g : ℕ) (t : Table) (a : Answer V) (os : List Op) (w' : Mode) (m' : Meaning)
      → Calm m → Kept m g t → trees (current_at m) t ≡ M.committed → g ≡ M.generation → blocks_of m ≡ M.blocks → m.left ≡ M.left → m.left_mark ≡ M.layer → m' ≡ replay os m → Mounts V join m a os w'
      → (a ≡ done) × Fine (working≔ M M.committed) w' m'
  unfolding Fine
  mounts_fine M m g t a os w' m' calm K ec eg eb el ey em H =
      let h : (a ≡ done) × (w' ≡ mounted (fresh (g, t)))
      = subst (λ o. elim o as (λ _. Type 0) [ Ok x ↦ (a ≡ done) × (w' ≡ mounted (fresh x)) | Err r ↦ (a ≡ refused r) × (w' ≡ down) ]) (found_kept m g t K) H.1 in
      let base : Base (fresh (g, t)) m = record { calm = calm; kept = K; len = K.len; goods = K.goods } in
      (h.0, quiet_fine (working≔ M M.committed) (mounted (fresh (g, t))) w' m m' os em (H.0, h.1) (base, λ i. record { working = ec i; committed = ec i; generation = eg i; blocks = eb i; left = el i; layer = ey i }))

  ask_fine : (q : Ask) (t : Tables) (m : Meaning) (a : Answer V) (os : List Op) (w' : Mode) (m' : Meaning) → Base t m → m' ≡ replay os m → Does V join (mounted t) m (ask q) a os w' m'
      → (a ≡ reply V join (model_of t m) (ask q)) × Fine (next (model_of t m) (ask q)) w' m'
  unfolding Fine
  ask_fine q t m a os w' m' B em D = go (refusal (shape t m) q) refl D
    where
      M : Model
      M = model_of t m

      go : (o : Option Refusal) → refusal (shape t m) q ≡ o
          → elim o as (λ _. Type 0) [ Some r ↦ (a ≡ refused r) × Quiet (mounted t) os w' | None ↦ (a ≡ answer V join (maps_of M.working) q) × Effect t m q os w' m' ]
          → (a ≡ elim o as (λ _. Answer V) [ Some r ↦ refused r | None ↦ answer V join (maps_of M.working) q ]) × Fine (elim o as (λ _. Model) [ Some r ↦ M | None ↦ after M q ]) w' m'
      go (Some r) e D = (D.0, quiet_fine M (mounted t) w' m m' os em D.1 (B, refl))
      go None e D = (D.0, effect_fine q t m os w' m' B em e D.1)

  ask_cut : (q : Ask) (t : Tables) (m : Meaning) (a : Answer V) (os : List Op) (w' : Mode) (m' : Meaning) (k : ℕ) (κ : Cutting) → Base t m → Does V join (mounted t) m (ask q) a os w' m'
      → Fine (cut_model κ (model_of t m)) down (cut κ (replay (take k os) m))
  unfolding Fine
  ask_cut q t m a os w' m' k κ B D = go (refusal (shape t m) q) D
    where
      go : (o : Option Refusal)
          → elim o as (λ _. Type 0) [ Some r ↦ (a ≡ refused r) × Quiet (mounted t) os w' | None ↦ (a ≡ answer V join (maps_of (model_of t m).working) q) × Effect t m q os w' m' ]
          → Fine (cut_model κ (model_of t m)) down (cut κ (replay (take k os) m))
      go (Some r) D = quiet_cut (model_of t m) κ (mounted t) m os k D.1.0 (B, refl)
      go None D = effect_cut q t m os w' m' k κ B D.1

  pub step_fine : (w : Mode) (c : Call) (M : Model) (m : Meaning) (a : Answer V) (os : List Op) (w' : Mode) (m' : Meaning) → Fine M w m → Step V join w m c a os w' m'
      → (a ≡ reply V join M c) × Fine (next M c) w' m'
  unfolding Fine
  step_fine (mounted t) (ask q) M m a os w' m' f S =
      subst (λ x. (a ≡ reply V join x (ask q)) × Fine (next x (ask q)) w' m') f.1 (ask_fine q t m a os w' m' f.0 S.0 S.1)
  step_fine (mounted t) finish M m a os w' m' f S = absurd S.1
  step_fine (mounted t) reopen M m a os w' m' f S = absurd S.1
  step_fine (mounted t) mount M m a os w' m' f S =
      mounts_fine M m t.generation t.committed a os w' m' f.0.calm f.0.kept (ap (λ x. x.committed) f.1) (ap (λ x. x.generation) f.1) (ap (λ x. x.blocks) f.1) (ap (λ x. x.left) f.1) (ap (λ x. x.layer) f.1) S.0 S.1
  step_fine (sealed t) (ask q) M m a os w' m' f S = absurd S.1
  step_fine (sealed t) finish M m a os w' m' f S =
      let e : m' ≡ replay (slot_op t m ∷ flush ∷ []) m = S.0 ∙ ap (λ x. replay x m) S.1.1 in
      (S.1.0, subst (λ w. Fine (finished M) w m') (sym S.1.2) (subst (λ x. Fine (finished M) (mounted (finished_tables t)) x) (sym e) (subst (λ x. Fine (finished x) (mounted (finished_tables t)) (replay (slot_op t m ∷ flush ∷ []) m)) f.3 (finish_fine t m f.0 f.2))))
  step_fine (sealed t) reopen M m a os w' m' f S = (S.1.0, quiet_fine M (mounted t) w' m m' os S.0 S.1.1 (f.0, f.3))
  step_fine (sealed t) mount M m a os w' m' f S = absurd S.1
  step_fine down (ask q) M m a os w' m' f S = absurd S.1
  step_fine down finish M m a os w' m' f S = absurd S.1
  step_fine down reopen M m a os w' m' f S = absurd S.1
  step_fine down mount M m a os w' m' f S = mounts_fine M m f.1.0 f.1.1 a os w' m' f.0 f.1.2 f.1.3 f.1.4 f.1.5 f.1.6 f.1.7 S.0 S.1

  pub broke_fine : (w : Mode) (c : Call) (M : Model) (m : Meaning) (a : Answer V) (os : List Op) (w' : Mode) (m' : Meaning) (k : ℕ) (κ : Cutting) → Fine M w m → Step V join w m c a os w' m'
      → Fine (cut_model κ (broken M c k κ)) down (cut κ (replay (take k os) m))
  unfolding Fine
  broke_fine (mounted t) (ask q) M m a os w' m' k κ f S = subst (λ x. Fine (cut_model κ x) down (cut κ (replay (take k os) m))) f.1 (ask_cut q t m a os w' m' k κ f.0 S.1)
  broke_fine (mounted t) finish M m a os w' m' k κ f S = absurd S.1
  broke_fine (mounted t) reopen M m a os w' m' k κ f S = absurd S.1
  broke_fine (mounted t) mount M m a os w' m' k κ f S = quiet_cut M κ (mounted t) m os k S.1.0 f
  broke_fine (sealed t) (ask q) M m a os w' m' k κ f S = absurd S.1
  broke_fine (sealed t) finish M m a os w' m' k κ f S =
      subst (λ x. Fine (cut_model κ (broken M finish k κ)) down (cut κ (replay (take k x) m))) (sym S.1.1)
      (subst (λ x. Fine (cut_model κ (broken x finish k κ)) down (cut κ (replay (take k (slot_op t m ∷ flush ∷ [])) m))) f.3 (finish_cut t m k κ f.0 f.1 f.2))
  broke_fine (sealed t) reopen M m a os w' m' k κ f S = quiet_cut M κ (sealed t) m os k S.1.1.0 f
  broke_fine (sealed t) mount M m a os w' m' k κ f S = absurd S.1
  broke_fine down (ask q) M m a os w' m' k κ f S = absurd S.1
  broke_fine down finish M m a os w' m' k κ f S = absurd S.1
  broke_fine down reopen M m a os w' m' k κ f S = absurd S.1
  broke_fine down mount M m a os w' m' k κ f S = quiet_cut M κ down m os k S.1.0 f

  traced : (es : List (Event V)) (M : Model) (w : Mode) (m : Meaning) → Fine M w m → Run V join w m es → Traced V join M es
  traced [] M w m f R = tt
  traced (did c a os w' m' ∷ es) M w m f R =
      let s = step_fine w c M m a os w' m' f R.0 in
      (s.0, traced es (next M c) w' m' s.1 R.1)
  traced (broke c os k κ ∷ es) M w m f R =
      traced es (cut_model κ (broken M c k κ)) down (cut κ (replay (take k os) m)) (broke_fine w c M m R.0.0 os R.0.1 R.0.2 k κ f R.0.3) R.1
  traced (lost κ ∷ es) M w m f R = traced es (cut_model κ M) down (cut κ m) (idle_cut M κ w m f) R

  pub formatted_fine : (m : Meaning) → Formatted m → Fine (model_of bare m) (mounted bare) m
  unfolding Fine
  formatted_fine m f =
      let kept : Kept m 1 blank = record {
        sized = f.0;
        still = λ b h. f.1 b;
        len = refl;
        goods = tt;
        fits = lit≤ tt;
        slot = ap (λ c. slot_in (blocks_of m) 1 c) f.4 ∙ slot_law (blocks_of m) m.width 1 (current_at m) blank f.0 refl tt (lit≤ tt);
        older = 0;
        older_table = blank;
        before = refl;
        other_slot = ap (λ c. slot_in (blocks_of m) 0 c) f.3 ∙ slot_law (blocks_of m) m.width 0 (current_at m) blank f.0 refl tt (lit≤ tt);
      } in
      (record { calm = λ b _. f.2 b; kept = kept; len = refl; goods = tt }, refl)

pub refines : (V : Type 0) → Refines V
refines V join m es f R = traced V join es (model_of bare m) (mounted bare) m (formatted_fine V join m f) R
