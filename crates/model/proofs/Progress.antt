-- What a call's step asks can be met: the new blocks, written in any order, make the new tree stand.
use Rattle.std.proofs.Common.{◌≡◌, ℕ, zero, suc, ◌+◌, ◌-◌, ◌*◌, ◌<◌, ◌≤◌, T, List, [], ◌∷◌, ◌++◌, map, length, get_or, set, Some, None, Option, sym, refl, ap, ◌∙◌, subst, ap₂, inl, inr, arith}
use Rattle.std.proofs.ByRecursion.{All-append}
use Rattle.std.proofs.lemmas.Bool.{cond_both}
use Rattle.std.proofs.lemmas.List.{map-append}
use Rattle.device.specs.Meaning.{Content, Content.words, Meaning, blocks_of, current_at, written, cell_at}
use Rattle.device.specs.Cuts.{Op, Op.write, replay}
use Rattle.device.proofs.Choices.{write_at, write_off, blocks_apply}
use Rattle.page.specs.Block.{Block, encode, Layout}
use Rattle.page.proofs.Exact.{back}
use Rattle.tree.specs.Node.{map_e, Every}
use Rattle.tree.specs.Tree as tree
use Rattle.tree.specs.Tree.{Pay, All, over, over_root}
use Rattle.tree.specs.Stored.{same}
use Rattle.tree.specs.Layout.{next, Ascends, Child}
use Rattle.tree.specs.Numbered.{beside, numbers, numbered}
use Rattle.tree.specs.Apart.{taking, along, collect, collected, its_place, places, In, Distinct}
use Rattle.tree.proofs.Kept.{kept}
use Rattle.tree.proofs.Over.{map_length}
use Rattle.tree.proofs.Apart.{below, places_apart}
use Rattle.page.specs.Block.{block_in}
use Rattle.counts.specs.Counts.{occ}
use Rattle.model.specs.TreeBlocks.{Tree, elem, Change, Change.begin, Change.puts, Change.takes, changed, changed_on, new_blocks, payload, block_of, Stored, Each, Fit}
use Rattle.tree.proofs.Puts.{five_high}
use Rattle.tree.proofs.Laid.{same_rule}
use Rattle.model.specs.TreeBlocks.{root_of}
use Rattle.model.specs.Model.{unused, used, free, source, new_tree}
use Rattle.model.specs.World.{Tables, Mode.mounted, placed, model_of, shape, FreeWrite, Changed, targets}
use Rattle.model.proofs.Walks.{Angles, rows_angles}
use Rattle.model.proofs.TreeLaws.{needed, changed_low}
use Rattle.model.proofs.Grants.{unused_each, free_each, sizes_parts}
use Rattle.model.proofs.Histories.{Base, keeps_free}
use Rattle.model.proofs.Encoded.{encoded}
use Rattle.tree.proofs.Granted.{in_at, one_place}

abbrev Ot : Type 0
Ot = Option ℕ

module _ {Y : Type 0} (N : Y → Type 0) where
  each_split : (xs ys : List Y) → Each N (xs ++ ys) → Each N xs × Each N ys
  each_split [] ys a = (tt, a)
  each_split (x ∷ xs) ys a = let p = each_split xs ys a.1 in ((a.0, p.0), p.1)

  pub each_in : (xs : List Y) → ((y : Y) → In y xs → N y) → Each N xs
  each_in [] h = tt
  each_in (x ∷ xs) h = (h x (inl refl), each_in xs (λ y q. h y (inr q)))

-- the new blocks: number and content
module _ (pick : ℕ → ℕ) where
  abbrev item : (l : ℕ) → ℕ → List (ℕ × Pay Ot ℕ l) → ℕ × Block
  item l i es = (pick i, block_of l (pick i, numbers ℕ pick l es))

  abbrev items : (l : ℕ) → List (ℕ × Pay Ot ℕ l) → List (ℕ × Block)
  items l es = collect ℕ (ℕ × Block) item l es

  abbrev fresh : tree.Root Ot ℕ → List (ℕ × Block)
  fresh r = collected ℕ (ℕ × Block) item r

  take_first : (m : Ot) (y : ℕ × Block) (ys : List (ℕ × Block)) → map (λ (z : ℕ × Block). z.0) (taking m y ys) ≡ taking m y.0 (map (λ (z : ℕ × Block). z.0) ys)
  take_first None y ys = refl
  take_first (Some b) y ys = refl

  take_pick : (m : Ot) (y : ℕ) (ys : List ℕ) → map pick (taking m y ys) ≡ taking m (pick y) (map pick ys)
  take_pick None y ys = refl
  take_pick (Some b) y ys = refl

  firsts : (l : ℕ) (es : List (ℕ × Pay Ot ℕ l)) → map (λ (z : ℕ × Block). z.0) (items l es) ≡ map pick (collect ℕ ℕ (its_place ℕ) l es)
  firsts zero es = refl
  firsts (suc l) es = go (firsts l) (2 * l) es
    where
      go : ((es : List (ℕ × Pay Ot ℕ l)) → map (λ (z : ℕ × Block). z.0) (items l es) ≡ map pick (collect ℕ ℕ (its_place ℕ) l es))
          → (i : ℕ) (es : List (ℕ × tree.Tree Ot ℕ l)) → map (λ (z : ℕ × Block). z.0) (along (item l) (items l) i (2 * l + 1) es) ≡ map pick (along (its_place ℕ l) (collect ℕ ℕ (its_place ℕ) l) i (2 * l + 1) es)
      go ih i [] = refl
      go ih i ((k, (None, xs)) ∷ r) =
          ap (λ (z : List ℕ). pick i ∷ z) (map-append (λ (z : ℕ × Block). z.0) (items l xs) (along (item l) (items l) (2 * l + 1) (2 * l + 1) r)
          ∙ ap₂ (λ (x y : List ℕ). x ++ y) (ih xs) (go ih (2 * l + 1) r)
          ∙ sym (map-append pick (collect ℕ ℕ (its_place ℕ) l xs) (along (its_place ℕ l) (collect ℕ ℕ (its_place ℕ) l) (2 * l + 1) (2 * l + 1) r)))
      go ih i ((k, (Some b, xs)) ∷ r) =
          map-append (λ (z : ℕ × Block). z.0) (items l xs) (along (item l) (items l) i (2 * l + 1) r)
          ∙ ap₂ (λ (x y : List ℕ). x ++ y) (ih xs) (go ih i r)
          ∙ sym (map-append pick (collect ℕ ℕ (its_place ℕ) l xs) (along (its_place ℕ l) (collect ℕ ℕ (its_place ℕ) l) i (2 * l + 1) r))

  fresh_firsts : (r : tree.Root Ot ℕ) → map (λ (z : ℕ × Block). z.0) (fresh r) ≡ map pick (places ℕ r)
  fresh_firsts r =
      take_first r.1.0 (item r.0 (2 * r.0) r.1.1) (items r.0 r.1.1)
      ∙ ap (taking r.1.0 (pick (2 * r.0))) (firsts r.0 r.1.1)
      ∙ sym (take_pick r.1.0 (2 * r.0) (collect ℕ ℕ (its_place ℕ) r.0 r.1.1))

  -- the new blocks stand, and the old ones stood: the tree stands
  module _ (c : ℕ → Content) where
    abbrev St : (l : ℕ) → tree.Tree ℕ ℕ l → Type 0
    St l u = block_in (c u.0) ≡ Some (block_of l u)

    abbrev R : ℕ × Block → Type 0
    R y = block_in (c y.0) ≡ Some y.1

    abbrev Was : (l : ℕ) → Ot → List (ℕ × Pay Ot ℕ l) → Type 0
    Was l None es = Unit {0}
    Was l (Some b) es = block_in (c b) ≡ Some (block_of l (b, numbers ℕ pick l es))

    abbrev Q : (l : ℕ) → tree.Tree Ot ℕ l → Type 0
    Q l u = Was l u.0 u.1

    stand : (l : ℕ) (es : List (ℕ × Pay Ot ℕ l)) → Every (All Ot ℕ Q l) es → Each R (items l es) → Every (All ℕ ℕ St l) (numbers ℕ pick l es)
    stand zero es a b = leaf es
      where
        leaf : (es : List (ℕ × ℕ)) → Every (All ℕ ℕ St zero) es
        leaf [] = tt
        leaf (e ∷ r) = (tt, leaf r)
    stand (suc l) es a b = go (stand l) (2 * l) es a b
      where
        go : ((es : List (ℕ × Pay Ot ℕ l)) → Every (All Ot ℕ Q l) es → Each R (items l es) → Every (All ℕ ℕ St l) (numbers ℕ pick l es))
            → (i : ℕ) (es : List (ℕ × tree.Tree Ot ℕ l)) → Every (All Ot ℕ Q (suc l)) es → Each R (along (item l) (items l) i (2 * l + 1) es) → Every (All ℕ ℕ St (suc l)) (beside pick (numbers ℕ pick l) i (2 * l + 1) es)
        go ih i [] a b = tt
        go ih i ((k, (None, xs)) ∷ r) a b =
            let p = each_split R (items l xs) (along (item l) (items l) (2 * l + 1) (2 * l + 1) r) b.1 in
            ((b.0, ih xs a.0.1 p.0), go ih (2 * l + 1) r a.1 p.1)
        go ih i ((k, (Some x, xs)) ∷ r) a b =
            let p = each_split R (items l xs) (along (item l) (items l) i (2 * l + 1) r) b in
            ((a.0.0, ih xs a.0.1 p.0), go ih i r a.1 p.1)

    stand_root : (l : ℕ) (m : Ot) (es : List (ℕ × Pay Ot ℕ l)) → All Ot ℕ Q (suc l) (m, es) → Each R (fresh (l, (m, es))) → Stored c (numbered ℕ pick (l, (m, es)))
    stand_root l None es a b = (b.0, stand l es a.1 b.1)
    stand_root l (Some x) es a b = (a.0, stand l es a.1 b)

    -- old blocks keep their numbers
    numbers_old : (l : ℕ) (es : List (ℕ × Pay ℕ ℕ l)) → numbers ℕ pick l (map_e (over Some same l) es) ≡ es
    numbers_old zero [] = refl
    numbers_old zero (e ∷ r) = ap (λ (z : List (ℕ × ℕ)). e ∷ z) (numbers_old zero r)
    numbers_old (suc l) es = go (numbers_old l) (2 * l) es
      where
        go : ((es : List (ℕ × Pay ℕ ℕ l)) → numbers ℕ pick l (map_e (over Some same l) es) ≡ es) → (i : ℕ) (es : List (ℕ × tree.Tree ℕ ℕ l)) → beside pick (numbers ℕ pick l) i (2 * l + 1) (map_e (over Some same (suc l)) es) ≡ es
        go ih i [] = refl
        go ih i (e ∷ r) = ap₂ (λ (x : List (ℕ × Pay ℕ ℕ l)) (y : List (ℕ × tree.Tree ℕ ℕ l)). (e.0, (e.1.0, x)) ∷ y) (ih e.1.1) (go ih i r)

    was_old : (l : ℕ) (p : Pay ℕ ℕ l) → All ℕ ℕ St l p → All Ot ℕ Q l (over Some same l p)
    was_old zero p a = tt
    was_old (suc l) t a =
        (a.0 ∙ ap (λ (z : List (ℕ × Pay ℕ ℕ l)). Some (block_of l (t.0, z))) (sym (numbers_old l t.1)), go (was_old l) t.1 a.1)
      where
        go : ((p : Pay ℕ ℕ l) → All ℕ ℕ St l p → All Ot ℕ Q l (over Some same l p)) → (es : List (ℕ × Pay ℕ ℕ l)) → Every (All ℕ ℕ St l) es → Every (All Ot ℕ Q l) (map_e (over Some same l) es)
        go ih [] a = tt
        go ih (e ∷ r) a = (ih e.1 a.0, go ih r a.1)

    abbrev pub Ready : Change ℕ → Tree → Type 0
    Ready begin t = Unit {0}
    Ready (puts s a) t = Stored c t
    Ready (takes s) t = Stored c t

    was_changed : (d : Change ℕ) (t : Tree) → Ready d t → All Ot ℕ Q (suc (changed ℕ d t).0) (changed ℕ d t).1
    was_changed begin t a = (tt, tt)
    was_changed (puts s x) t a = (kept Ot ℕ None Q (λ l es. tt) s x (over_root Some same t) (was_old (suc t.0) t.1 a)).0
    was_changed (takes s) t a = (kept Ot ℕ None Q (λ l es. tt) s 0 (over_root Some same t) (was_old (suc t.0) t.1 a)).1

    pub stands : (d : Change ℕ) (t : Tree) → Ready d t → Each R (fresh (changed ℕ d t)) → Stored c (numbered ℕ pick (changed ℕ d t))
    stands d t a b = let r : tree.Root Ot ℕ = changed ℕ d t in stand_root r.0 r.1.0 r.1.1 (was_changed d t a) b

  -- what holds of each block of the tree holds of the new ones
  module _ (L : (l : ℕ) → tree.Tree ℕ ℕ l → Type 0) (G : ℕ × Block → Type 0) (h : (l : ℕ) (t : tree.Tree ℕ ℕ l) → L l t → G (t.0, block_of l t)) where
    news_keep : (l : ℕ) (es : List (ℕ × Pay Ot ℕ l)) → Every (All ℕ ℕ L l) (numbers ℕ pick l es) → Each G (items l es)
    news_keep zero es a = tt
    news_keep (suc l) es a = go (news_keep l) (2 * l) es a
      where
        go : ((es : List (ℕ × Pay Ot ℕ l)) → Every (All ℕ ℕ L l) (numbers ℕ pick l es) → Each G (items l es)) → (i : ℕ) (es : List (ℕ × tree.Tree Ot ℕ l)) → Every (All ℕ ℕ L (suc l)) (beside pick (numbers ℕ pick l) i (2 * l + 1) es) → Each G (along (item l) (items l) i (2 * l + 1) es)
        go ih i [] a = tt
        go ih i ((k, (None, xs)) ∷ r) a = (h l (pick i, numbers ℕ pick l xs) a.0.0, All-append G (items l xs) (along (item l) (items l) (2 * l + 1) (2 * l + 1) r) (ih xs a.0.1) (go ih (2 * l + 1) r a.1))
        go ih i ((k, (Some x, xs)) ∷ r) a = All-append G (items l xs) (along (item l) (items l) i (2 * l + 1) r) (ih xs a.0.1) (go ih i r a.1)

    pub fresh_keep : (l : ℕ) (m : Ot) (es : List (ℕ × Pay Ot ℕ l)) → All ℕ ℕ L (suc l) (numbered ℕ pick (l, (m, es))).1 → Each G (fresh (l, (m, es)))
    fresh_keep l None es a = (h l (pick (2 * l), numbers ℕ pick l es) a.0, news_keep l es a.1)
    fresh_keep l (Some b) es a = news_keep l es a.1

-- writes to different blocks
abbrev pub ops : ℕ → List (ℕ × Block) → List Op
ops w [] = []
ops w (y ∷ ys) = write y.0 (encode w y.1) ∷ ops w ys

abbrev pub firsts_of : List (ℕ × Block) → List ℕ
firsts_of ys = map (λ (z : ℕ × Block). z.0) ys

targets_ops : (w : ℕ) (ys : List (ℕ × Block)) → targets (ops w ys) ≡ firsts_of ys
targets_ops w [] = refl
targets_ops w (y ∷ ys) = ap (λ (z : List ℕ). y.0 ∷ z) (targets_ops w ys)

off_ops : (w : ℕ) (ys : List (ℕ × Block)) (m : Meaning) (b : ℕ) → (In b (firsts_of ys) → ⊥) → cell_at (replay (ops w ys) m) b ≡ cell_at m b
off_ops w [] m b h = refl
off_ops w (y ∷ ys) m b h = off_ops w ys (written m y.0 (encode w y.1)) b (λ q. h (inr q)) ∙ write_off m y.0 b (encode w y.1) (λ e. h (inl e))

each_more : (ys : List (ℕ × Block)) (p q : ℕ) → q ≡ p → Each (λ (y : ℕ × Block). y.0 < p) ys → Each (λ (y : ℕ × Block). y.0 < q) ys
each_more ys p q e a = subst (λ z. Each (λ (y : ℕ × Block). y.0 < z) ys) (sym e) a

on_ops : (w : ℕ) (ys : List (ℕ × Block)) (m : Meaning) → Distinct (firsts_of ys) → Each (λ (y : ℕ × Block). y.0 < blocks_of m) ys → Each (λ (y : ℕ × Block). current_at (replay (ops w ys) m) y.0 ≡ words (encode w y.1)) ys
on_ops w [] m d h = tt
on_ops w (y ∷ ys) m d h =
    let ws : List ℕ = encode w y.1 in
    let m₁ : Meaning = written m y.0 ws in (
      ap (λ c. c.current) (off_ops w ys m₁ y.0 d.0) ∙ ap (λ c. c.current) (write_at m y.0 ws h.0),
      on_ops w ys m₁ d.1 (each_more ys (blocks_of m) (blocks_of m₁) (blocks_apply (write y.0 ws) m) h.1),
    )

-- a sound tree's blocks have words
get_or_pair : (N : ℕ × ℕ → Type 0) (xs : List (ℕ × ℕ)) (i : ℕ) → Each N xs → i < length xs → N (get_or xs i (0, 0))
get_or_pair N [] i a h = absurd (omega arith)
get_or_pair N (x ∷ xs) zero a h = a.0
get_or_pair N (x ∷ xs) (suc i) a h = get_or_pair N xs i a.1 (omega arith)

next_le : {X : Type 0} (V : ℕ → ℕ → X → Type 0) (hi : ℕ) (es : List (ℕ × X)) → Ascends V hi es → next hi es ≤ hi
next_le V hi [] a = omega arith
next_le V hi (e ∷ r) a = let q = next_le V hi r a.2 in let p = a.0 in omega arith

module _ (n w : ℕ) (small : n ≤ 4096) (wide : 32 ≤ w) where
  abbrev Lt : (l : ℕ) → tree.Tree ℕ ℕ l → Type 0
  Lt l t = Layout w (block_of l t)

  abbrev Inn : (l : ℕ) → tree.Tree ℕ ℕ l → Type 0
  Inn l u = (2 ≤ u.0) × (u.0 < n)

  abbrev Fits : ℕ × ℕ → Type 0
  Fits e = (e.0 < 268435456) × (e.1 < 268435456)

  payload_small : (l : ℕ) (p : Pay ℕ ℕ l) → All ℕ ℕ Inn l p → Angles l p → payload l p < 268435456
  payload_small zero p i a = omega arith
  payload_small (suc l) t i a = let q = i.0.1 in omega arith

  smalls : (l hi : ℕ) → hi ≤ 10000 → (es : List (ℕ × Pay ℕ ℕ l)) → Ascends (Child ℕ ℕ l) hi es → Every (All ℕ ℕ Inn l) es → Every (Angles l) es → Each Fits (map_e (payload l) es)
  smalls l hi h [] a i g = tt
  smalls l hi h (e ∷ r) a i g =
      let q = next_le (Child ℕ ℕ l) hi r a.2 in let p = a.0 in
      ((omega arith, payload_small l e.1 i.0 g.0), smalls l hi h r a.2 i.1 g.1)

  lay : (l hi b : ℕ) → l ≤ 4 → hi ≤ 10000 → (es : List (ℕ × Pay ℕ ℕ l)) → Ascends (Child ℕ ℕ l) hi es → length es ≤ 15 → Every (All ℕ ℕ Inn l) es → Every (Angles l) es → All ℕ ℕ Lt (suc l) (b, es)
  lay zero hi b k h es a f i g = (top zero hi b k h es a f i g, leaf es)
    where
      leaf : (es : List (ℕ × ℕ)) → Every (All ℕ ℕ Lt zero) es
      leaf [] = tt
      leaf (e ∷ r) = (tt, leaf r)

      top : (l hi b : ℕ) → l ≤ 4 → hi ≤ 10000 → (es : List (ℕ × Pay ℕ ℕ l)) → Ascends (Child ℕ ℕ l) hi es → length es ≤ 15 → Every (All ℕ ℕ Inn l) es → Every (Angles l) es → Layout w (block_of l (b, es))
      top l hi b k h es a f i g =
          record { wide = wide; few = subst (λ z. z ≤ 15) (sym (map_length (payload l) es)) f; low = omega arith; small = λ j q. get_or_pair Fits (map_e (payload l) es) j (smalls l hi h es a i g) q }
  lay (suc l) hi b k h es a f i g = (
    record { wide = wide; few = subst (λ z. z ≤ 15) (sym (map_length (payload (suc l)) es)) f; low = omega arith; small = λ j q. get_or_pair Fits (map_e (payload (suc l)) es) j (smalls (suc l) hi h es a i g) q },
    go (λ hi b. lay l hi b (omega arith)) hi h es a i g,
  )
    where
      go : ((hi b : ℕ) → hi ≤ 10000 → (es : List (ℕ × Pay ℕ ℕ l)) → Ascends (Child ℕ ℕ l) hi es → length es ≤ 15 → Every (All ℕ ℕ Inn l) es → Every (Angles l) es → All ℕ ℕ Lt (suc l) (b, es))
          → (hi : ℕ) → hi ≤ 10000 → (es : List (ℕ × tree.Tree ℕ ℕ l)) → Ascends (Child ℕ ℕ (suc l)) hi es → Every (All ℕ ℕ Inn (suc l)) es → Every (Angles (suc l)) es → Every (All ℕ ℕ Lt (suc l)) es
      go ih hi h [] a i g = tt
      go ih hi h (e ∷ r) a i g =
          let q = next_le (Child ℕ ℕ (suc l)) hi r a.2 in
          (ih (next hi r) e.1.0 (omega arith) e.1.1 a.1.1 a.1.3 i.0.1 g.0, go ih hi h r a.2 i.1 g.1)

  pub fit_layouts : (u : Tree) → Fit n u → All ℕ ℕ Lt (suc u.0) u.1
  fit_layouts u F =
      lay u.0 10000 u.1.0 (five_high ℕ ℕ u.0 u.1 ((same_rule ℕ ℕ u.0 u.1).1 F.laid)) (omega arith) u.1.1 F.laid.1 F.laid.3 F.inside.1 (rows_angles (suc u.0) 0 u.1 F.angles)

-- the free blocks are apart, and unused
each_at : {Y : Type 0} (N : Y → Type 0) (xs : List Y) (y : Y) → Each N xs → In y xs → N y
each_at N [] y a h = absurd h
each_at N (x ∷ xs) y a (inl e) = subst N (sym e) a.0
each_at N (x ∷ xs) y a (inr h) = each_at N xs y a.1 h

unused_new : (k b : ℕ) (us : List ℕ) → Each (λ x. T (elem x us) → ⊥) (unused k b us)
unused_new zero b us = tt
unused_new (suc k) b us =
    cond_both (elem b us) _ _ (Each (λ x. T (elem x us) → ⊥)) (λ e. unused_new k (suc b) us) (λ e. ((λ h. subst T e h), unused_new k (suc b) us))

unused_apart : (k b : ℕ) (us : List ℕ) → Distinct (unused k b us)
unused_apart zero b us = tt
unused_apart (suc k) b us =
    cond_both (elem b us) _ _ Distinct (λ e. unused_apart k (suc b) us)
    (λ e. ((λ h. let q = (each_at (λ x. (suc b ≤ x) × (x < suc b + k)) (unused k (suc b) us) b (unused_each k (suc b) us) h).0 in omega arith), unused_apart k (suc b) us))

module _ (f : List ℕ) where
  abbrev pick : ℕ → ℕ
  pick i = get_or f i 0

  in_map : (ps : List ℕ) (b : ℕ) → In b (map pick ps) → (p : ℕ) × In p ps × (b ≡ pick p)
  in_map [] b h = absurd h
  in_map (p ∷ ps) b (inl e) = (p, inl refl, e)
  in_map (p ∷ ps) b (inr h) = let q = in_map ps b h in (q.0, inr q.1, q.2)

  map_apart : (ps : List ℕ) → Distinct ps → ((p : ℕ) → In p ps → p < length f) → Distinct f → Distinct (map pick ps)
  map_apart [] d h a = tt
  map_apart (p ∷ ps) d h a =
      ((λ q. let z = in_map ps (pick p) q in d.0 (subst (λ y. In y ps) (sym (one_place f p z.0 a (h p (inl refl)) (h z.0 (inr z.1)) z.2)) z.1)), map_apart ps d.1 (λ q k. h q (inr k)) a)

places_low : (l : ℕ) (m : Ot) (es : List (ℕ × Pay Ot ℕ l)) (p : ℕ) → In p (places ℕ (l, (m, es))) → p ≤ 2 * l
places_low l None es p (inl e) = omega arith
places_low l None es p (inr h) = let q = below ℕ l es p h in omega arith
places_low l (Some b) es p h = let q = below ℕ l es p h in omega arith

changed_apart : (d : Change ℕ) (t : Tree) → Distinct (places ℕ (changed ℕ d t))
changed_apart begin t = ((λ z. z), tt)
changed_apart (puts s a) t = (places_apart ℕ s t).0 a
changed_apart (takes s) t = (places_apart ℕ s t).1

each_ops : (N : ℕ → Type 0) (F : Op → Type 0) (w : ℕ) → ((b : ℕ) (n : Block) → N b → Layout w n → F (write b (encode w n)))
    → (ys : List (ℕ × Block)) → Each N (firsts_of ys) → Each (λ (y : ℕ × Block). Layout w y.1) ys → Each F (ops w ys)
each_ops N F w h [] a l = tt
each_ops N F w h (y ∷ ys) a l = (h y.0 y.1 a.0 l.0, each_ops N F w h ys a.1 l.1)

each_firsts : (N : ℕ → Type 0) (ys : List (ℕ × Block)) → Each N (firsts_of ys) → Each (λ (y : ℕ × Block). N y.0) ys
each_firsts N [] a = tt
each_firsts N (y ∷ ys) a = (a.0, each_firsts N ys a.1)

decoded : (w : ℕ) (c : ℕ → Content) (ys : List (ℕ × Block)) → Each (λ (y : ℕ × Block). c y.0 ≡ words (encode w y.1)) ys → Each (λ (y : ℕ × Block). Layout w y.1) ys → Each (λ (y : ℕ × Block). block_in (c y.0) ≡ Some y.1) ys
decoded w c [] a b = tt
decoded w c (y ∷ ys) a b = (ap block_in a.0 ∙ back w y.1 b.0, decoded w c ys a.1 b.1)

-- a deed can be done
module _ (t : Tables) (m : Meaning) (B : Base t m) (n : ℕ) (d : Change ℕ) where
  abbrev src : Tree
  src = source (model_of t m) n d

  abbrev fs : List ℕ
  fs = free (shape t m)

  abbrev ys : List (ℕ × Block)
  ys = fresh (λ i. get_or fs i 0) (changed ℕ d src)

  abbrev pub script : List Op
  script = ops m.width ys

  abbrev Nice : ℕ → Type 0
  Nice b = (2 ≤ b) × (b < blocks_of m) × (T (elem b (used (shape t m))) → ⊥)

  free_nice : Each Nice fs
  free_nice = both fs (free_each (shape t m) (sizes_parts (blocks_of m) m.width B.kept.sized).0) (unused_new (blocks_of m - 2) 2 (used (shape t m)))
    where
      both : (xs : List ℕ) → Each (λ x. (2 ≤ x) × (x < blocks_of m)) xs → Each (λ x. T (elem x (used (shape t m))) → ⊥) xs → Each Nice xs
      both [] a b = tt
      both (x ∷ xs) a b = ((a.0.0, a.0.1, b.0), both xs a.1 b.1)

  firsts_are : firsts_of ys ≡ new_blocks d fs src
  firsts_are = fresh_firsts (λ i. get_or fs i 0) (changed ℕ d src)

  pub met : needed d src ≤ length fs → Fit (blocks_of m) (new_tree (model_of t m) n d) → ((c : ℕ → Content) → ((b : ℕ) → T (elem b (0 ∷ 1 ∷ used (shape t m))) → c b ≡ current_at m b) → Ready (λ i. get_or fs i 0) c d src)
      → Changed t m n d script (mounted (placed t (set t.working n (Some (root_of (new_tree (model_of t m) n d)))))) (replay script m)
  unfolding changed_on
  met room F ready =
      let r : tree.Root Ot ℕ = changed ℕ d src in
      let low : (p : ℕ) → In p (places ℕ r) → p < length fs = λ p h. (let q = places_low r.0 r.1.0 r.1.1 p h in let k = changed_low ℕ d src in omega arith) in
      let apart : Distinct (firsts_of ys) = subst Distinct (sym firsts_are) (map_apart fs (places ℕ r) (changed_apart d src) low (unused_apart (blocks_of m - 2) 2 (used (shape t m)))) in
      let nice : Each Nice (firsts_of ys)
      = subst (Each Nice) (sym firsts_are) (each_in Nice (new_blocks d fs src) (λ b h. let z = in_map fs (places ℕ r) b h in subst Nice (sym z.2) (each_at Nice fs (get_or fs z.0 0) free_nice (in_at fs z.0 (low z.0 z.1))))) in
      let c : ℕ → Content = current_at (replay script m) in
      let small : Each (λ (y : ℕ × Block). y.0 < blocks_of m) ys = each_in (λ (y : ℕ × Block). y.0 < blocks_of m) ys (λ y h. (each_at (λ (y : ℕ × Block). Nice y.0) ys y (each_firsts Nice ys nice) h).1) in
      let sz = sizes_parts (blocks_of m) m.width B.kept.sized in
      let laid : Each (λ (y : ℕ × Block). Layout m.width y.1) ys
      = fresh_keep (λ i. get_or fs i 0) (λ l v. Layout m.width (block_of l v)) (λ (y : ℕ × Block). Layout m.width y.1) (λ l v z. z) r.0 r.1.0 r.1.1
      (fit_layouts (blocks_of m) m.width sz.1 sz.2 (new_tree (model_of t m) n d) F) in
      let frees : Each (FreeWrite t m) script = each_ops Nice (FreeWrite t m) m.width (λ b n k l. (k.0, k.1, k.2, encoded m.width n l)) ys nice laid in (
        frees,
        (λ b. ap (occ b) (targets_ops m.width ys ∙ firsts_are)),
        refl,
        stands (λ i. get_or fs i 0) c d src (ready c (λ b h. ap (λ x. x.current) (keeps_free t m script frees b h)))
            (decoded m.width c ys (on_ops m.width ys m apart small) laid),
      )
