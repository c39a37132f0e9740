-- The walk is exact.
use Rattle.std.proofs.Common.{◌≡◌, ℕ, zero, suc, ◌<◌, ◌≤◌, Bool, true, false, ◌&&◌, eqb, ltb, leb, List, [], ◌∷◌, ◌++◌, length, Some, None, Option, sym, refl, ap, ◌∙◌, subst, ap₂, arith}
use Rattle.std.proofs.ByRecursion.{All-append}
use Rattle.std.specs.Option.{option_or}
use Rattle.std.proofs.lemmas.Bool.{eq-eqb, eqb-true, and_parts, and_from, leb-true, ltb-true, le-leb, lt-ltb, false≢true}
use Rattle.device.specs.Meaning.{Content, Content.words, Content.damaged}
use Rattle.page.specs.Block.{Block, decode}
use Rattle.page.specs.Slot.{Root, Table, every, rooted}
use Rattle.tree.specs.Node.{map_e, Every, flat}
use Rattle.tree.specs.Tree as tree
use Rattle.tree.specs.Tree.{Pay, Rows, rows, All, Enough}
use Rattle.tree.specs.Layout.{next, Ascends, Start, Child}
use Rattle.tree.proofs.Over.{map_length}
use Rattle.page.specs.Block.{block_in}
use Rattle.model.specs.TreeBlocks.{entries_in, pay_at, top_level, tree_at, payload, block_of, Each, Good, AllGood}
use Rattle.model.specs.Walk.{Fault, ascending, starts, payable, least, well_made, if_made, in_block, in_content, fault_below, fault_at, fault_of, pair_with, walk, WalkExact}

abbrev IsNone : {A : Type 0} → Option A → Type 0
IsNone None = Unit {0}
IsNone (Some x) = ⊥

pub some_none : {A : Type 0} (x : A) → Some x ≡ None → ⊥
some_none x e = subst IsNone (sym e) tt

pub either_none : {A : Type 0} (x y : Option A) → option_or x y ≡ None → (x ≡ None) × (y ≡ None)
either_none (Some a) y e = absurd (some_none a e)
either_none None y e = (refl, e)

-- a block without fault
module _ (n k l lo hi b : ℕ) (f : List (ℕ × ℕ) → Option Fault) where
  made_none : (q : Bool) (o : Option Fault) → if_made b q o ≡ None → (q ≡ true) × (o ≡ None)
  made_none true o e = (refl, e)
  made_none false o e = absurd (some_none _ e)

  block_part : (o : Option Block) → in_block n k l lo hi b f o ≡ None → (y : Block) × (o ≡ Some y) × (well_made n k l lo hi y ≡ true) × (f y.entries ≡ None)
  block_part None e = absurd (some_none _ e)
  block_part (Some y) e = let p = made_none (well_made n k l lo hi y) (f y.entries) e in (y, refl, p.0, p.1)

  pub content_part : (x : Content) → in_content n k l lo hi b f x ≡ None → (y : Block) × (block_in x ≡ Some y) × (well_made n k l lo hi y ≡ true) × (f y.entries ≡ None)
  content_part (words ws) e = block_part (decode ws) e
  content_part (damaged m) e = absurd (some_none _ e)

  content_none : (x : Content) (y : Block) → block_in x ≡ Some y → well_made n k l lo hi y ≡ true → f y.entries ≡ None → in_content n k l lo hi b f x ≡ None
  content_none (words ws) y e w h = ap (in_block n k l lo hi b f) e ∙ ap (λ q. if_made b q (f y.entries)) w ∙ h
  content_none (damaged m) y e w h = absurd (some_none y (sym e))

-- the parts of the test
pub record Made (n k l lo hi : ℕ) (b : Block) : Type 0 where
  pub level : b.level ≡ l
  pub starts' : starts l lo b.entries ≡ true
  pub asc : ascending hi b.entries ≡ true
  pub enough : k ≤ length b.entries
  pub few : length b.entries ≤ 15
  pub pays : every (payable n l) b.entries ≡ true

pub made_parts : (n k l lo hi : ℕ) (b : Block) → well_made n k l lo hi b ≡ true → Made n k l lo hi b
made_parts n k l lo hi b h =
    let es : List (ℕ × ℕ) = b.entries in
    let p = and_parts (eqb b.level l && (starts l lo es && ascending hi es)) ((leb k (length es) && leb (length es) 15) && every (payable n l) es) h in
    let q = and_parts (eqb b.level l) (starts l lo es && ascending hi es) p.0 in
    let q' = and_parts (starts l lo es) (ascending hi es) q.1 in
    let r = and_parts (leb k (length es) && leb (length es) 15) (every (payable n l) es) p.1 in
    let r' = and_parts (leb k (length es)) (leb (length es) 15) r.0 in
    record { level = eqb-true b.level l q.0; starts' = q'.0; asc = q'.1; enough = leb-true k (length es) r'.0; few = leb-true (length es) 15 r'.1; pays = r.1 }

parts_made : (n k l lo hi : ℕ) (b : Block) → Made n k l lo hi b → well_made n k l lo hi b ≡ true
parts_made n k l lo hi b m =
    let es : List (ℕ × ℕ) = b.entries in
    and_from (eqb b.level l && (starts l lo es && ascending hi es)) ((leb k (length es) && leb (length es) 15) && every (payable n l) es)
    (and_from (eqb b.level l) (starts l lo es && ascending hi es) (eq-eqb b.level l m.level) (and_from (starts l lo es) (ascending hi es) m.starts' m.asc))
    (and_from (leb k (length es) && leb (length es) 15) (every (payable n l) es) (and_from (leb k (length es)) (leb (length es) 15) (le-leb k (length es) m.enough) (le-leb (length es) 15 m.few)) m.pays)

-- starts and ascents, of what the entries stand for
module _ {X : Type 0} (F : ℕ → X) where
  next_map : (hi : ℕ) (es : List (ℕ × ℕ)) → next hi (map_e F es) ≡ next hi es
  next_map hi [] = refl
  next_map hi (e ∷ r) = refl

  start_to : (l lo : ℕ) (es : List (ℕ × ℕ)) → starts l lo es ≡ true → Start l lo (map_e F es)
  start_to zero lo [] h = tt
  start_to zero lo (e ∷ r) h = leb-true lo e.0 h
  start_to (suc l) lo [] h = absurd (false≢true h)
  start_to (suc l) lo (e ∷ r) h = eqb-true lo e.0 h

  start_from : (l lo : ℕ) (es : List (ℕ × ℕ)) → Start l lo (map_e F es) → starts l lo es ≡ true
  start_from zero lo [] h = refl
  start_from zero lo (e ∷ r) h = le-leb lo e.0 h
  start_from (suc l) lo [] h = absurd h
  start_from (suc l) lo (e ∷ r) h = eq-eqb lo e.0 h

  ascent_from : (V : ℕ → ℕ → X → Type 0) (hi : ℕ) (es : List (ℕ × ℕ)) → Ascends V hi (map_e F es) → ascending hi es ≡ true
  ascent_from V hi [] h = refl
  ascent_from V hi (e ∷ r) h = and_from (ltb e.0 (next hi r)) (ascending hi r) (lt-ltb e.0 (next hi r) (subst (λ z. e.0 < z) (next_map hi r) h.0)) (ascent_from V hi r h.2)

leaf_ascent : (hi : ℕ) (es : List (ℕ × ℕ)) → ascending hi es ≡ true → Ascends (Child ℕ ℕ zero) hi (map_e (λ p. p) es)
leaf_ascent hi [] h = tt
leaf_ascent hi (e ∷ r) h =
    let p = and_parts (ltb e.0 (next hi r)) (ascending hi r) h in
    (subst (λ z. e.0 < z) (sym (next_map (λ p. p) hi r)) (ltb-true e.0 (next hi r) p.0), tt, leaf_ascent hi r p.1)

-- angles, entry by entry
abbrev pub Angles : (l : ℕ) → Pay ℕ ℕ l → Type 0
Angles zero p = p ≤ 18000
Angles (suc l) t = Every (Angles l) t.1

each_parts : (xs ys : List (ℕ × ℕ)) → Each (λ (r : ℕ × ℕ). r.1 ≤ 18000) (xs ++ ys) → Each (λ (r : ℕ × ℕ). r.1 ≤ 18000) xs × Each (λ (r : ℕ × ℕ). r.1 ≤ 18000) ys
each_parts [] ys a = (tt, a)
each_parts (x ∷ xs) ys a = let p = each_parts xs ys a.1 in ((a.0, p.0), p.1)

angles_rows : (l k : ℕ) (p : Pay ℕ ℕ l) → Angles l p → Each (λ (r : ℕ × ℕ). r.1 ≤ 18000) (Rows ℕ ℕ l k p)
angles_rows zero k p a = (a, tt)
angles_rows (suc l) k t a = go (angles_rows l) t.1 a
  where
    go : ((k : ℕ) (p : Pay ℕ ℕ l) → Angles l p → Each (λ (r : ℕ × ℕ). r.1 ≤ 18000) (Rows ℕ ℕ l k p)) → (es : List (ℕ × Pay ℕ ℕ l)) → Every (Angles l) es → Each (λ (r : ℕ × ℕ). r.1 ≤ 18000) (flat (Rows ℕ ℕ l) es)
    go ih [] a = tt
    go ih (e ∷ r) a = All-append (λ (r : ℕ × ℕ). r.1 ≤ 18000) (Rows ℕ ℕ l e.0 e.1) (flat (Rows ℕ ℕ l) r) (ih e.0 e.1 a.0) (go ih r a.1)

pub rows_angles : (l k : ℕ) (p : Pay ℕ ℕ l) → Each (λ (r : ℕ × ℕ). r.1 ≤ 18000) (Rows ℕ ℕ l k p) → Angles l p
rows_angles zero k p a = a.0
rows_angles (suc l) k t a = go (rows_angles l) t.1 a
  where
    go : ((k : ℕ) (p : Pay ℕ ℕ l) → Each (λ (r : ℕ × ℕ). r.1 ≤ 18000) (Rows ℕ ℕ l k p) → Angles l p) → (es : List (ℕ × Pay ℕ ℕ l)) → Each (λ (r : ℕ × ℕ). r.1 ≤ 18000) (flat (Rows ℕ ℕ l) es) → Every (Angles l) es
    go ih [] a = tt
    go ih (e ∷ r) a = let p = each_parts (Rows ℕ ℕ l e.0 e.1) (flat (Rows ℕ ℕ l) r) a in (ih e.0 e.1 p.0, go ih r p.1)

module _ (n : ℕ) (c : ℕ → Content) where
  abbrev St : (l : ℕ) → tree.Tree ℕ ℕ l → Type 0
  St l u = block_in (c u.0) ≡ Some (block_of l u)

  abbrev In : (l : ℕ) → tree.Tree ℕ ℕ l → Type 0
  In l u = (2 ≤ u.0) × (u.0 < n)

  abbrev kids : (l b : ℕ) → List (ℕ × Pay ℕ ℕ l)
  kids l b = (pay_at c (suc l) b).1

  -- what the walk finds out about a block of level l, and all below it
  record Sane (k l lo hi b : ℕ) : Type 0 where
    stored : All ℕ ℕ St (suc l) (pay_at c (suc l) b)
    start : Start l lo (kids l b)
    ascent : Ascends (Child ℕ ℕ l) hi (kids l b)
    enough : k ≤ length (kids l b)
    few : length (kids l b) ≤ 15
    inside : Every (All ℕ ℕ In l) (kids l b)
    angles : Every (Angles l) (kids l b)

  -- entries and what they stand for
  pub payload_pay : (l p : ℕ) → payload l (pay_at c l p) ≡ p
  payload_pay zero p = refl
  payload_pay (suc l) p = refl

  payloads : (l : ℕ) (es : List (ℕ × ℕ)) → map_e (payload l) (map_e (pay_at c l) es) ≡ es
  payloads l [] = refl
  payloads l (e ∷ r) = ap₂ (λ (x : ℕ) (y : List (ℕ × ℕ)). (e.0, x) ∷ y) (payload_pay l e.1) (payloads l r)

  -- leaves
  leaf_stored : (es : List (ℕ × ℕ)) → Every (All ℕ ℕ St zero) (map_e (pay_at c zero) es)
  leaf_stored [] = tt
  leaf_stored (e ∷ r) = (tt, leaf_stored r)

  leaf_inside : (es : List (ℕ × ℕ)) → Every (All ℕ ℕ In zero) (map_e (pay_at c zero) es)
  leaf_inside [] = tt
  leaf_inside (e ∷ r) = (tt, leaf_inside r)

  leaf_angles : (es : List (ℕ × ℕ)) → every (payable n zero) es ≡ true → Every (Angles zero) (map_e (pay_at c zero) es)
  leaf_angles [] h = tt
  leaf_angles (e ∷ r) h = let p = and_parts (leb e.1 18000) (every (payable n zero) r) h in (leb-true e.1 18000 p.0, leaf_angles r p.1)

  angles_leaf : (es : List (ℕ × ℕ)) → Every (Angles zero) (map_e (pay_at c zero) es) → every (payable n zero) es ≡ true
  angles_leaf [] h = refl
  angles_leaf (e ∷ r) h = and_from (leb e.1 18000) (every (payable n zero) r) (le-leb e.1 18000 h.0) (angles_leaf r h.1)

  -- what the entries' subtrees keep
  record Kids (l hi : ℕ) (es : List (ℕ × ℕ)) : Type 0 where
    stored : Every (All ℕ ℕ St l) (map_e (pay_at c l) es)
    ascent : Ascends (Child ℕ ℕ l) hi (map_e (pay_at c l) es)
    inside : Every (All ℕ ℕ In l) (map_e (pay_at c l) es)
    angles : Every (Angles l) (map_e (pay_at c l) es)

  -- from the entries of a block, all that the walk finds out
  sane_block : (k l lo hi b : ℕ) (y : Block) → block_in (c b) ≡ Some y → Made n k l lo hi y → Kids l hi y.entries → Sane k l lo hi b
  sane_block k l lo hi b y e m K =
      let q : entries_in (block_in (c b)) ≡ y.entries = ap entries_in e in
      let R : List (ℕ × ℕ) → Type 0 = λ es. Start l lo (map_e (pay_at c l) es) × Ascends (Child ℕ ℕ l) hi (map_e (pay_at c l) es) × (k ≤ length (map_e (pay_at c l) es)) × (length (map_e (pay_at c l) es) ≤ 15)
      × Every (All ℕ ℕ In l) (map_e (pay_at c l) es) × Every (Angles l) (map_e (pay_at c l) es) × Every (All ℕ ℕ St l) (map_e (pay_at c l) es) in
      let len : length (map_e (pay_at c l) y.entries) ≡ length y.entries = map_length (pay_at c l) y.entries in
      let r : R (entries_in (block_in (c b)))
      = subst R (sym q) (start_to (pay_at c l) l lo y.entries m.starts', K.ascent, subst (λ z. k ≤ z) (sym len) m.enough, subst (λ z. z ≤ 15) (sym len) m.few, K.inside, K.angles, K.stored) in
      let top : block_in (c b) ≡ Some (block_of l (pay_at c (suc l) b))
      = e ∙ (λ i. Some (record { level = m.level i; entries = (sym q ∙ sym (payloads l (entries_in (block_in (c b))))) i })) in
      record { stored = (top, r.6); start = r.0; ascent = r.1; enough = r.2; few = r.3; inside = r.4; angles = r.5 }

  -- the walk finds no fault: all is sane
  none_sane : (l k lo hi b : ℕ) → fault_at n c k l lo hi b ≡ None → Sane k l lo hi b
  none_sane zero k lo hi b h =
      let p = content_part n k zero lo hi b (fault_below n c zero hi) (c b) h in
      let m = made_parts n k zero lo hi p.0 p.2 in
      sane_block k zero lo hi b p.0 p.1 m (record { stored = leaf_stored p.0.entries; ascent = leaf_ascent hi p.0.entries m.asc; inside = leaf_inside p.0.entries; angles = leaf_angles p.0.entries m.pays })
  none_sane (suc l) k lo hi b h =
      let p = content_part n k (suc l) lo hi b (fault_below n c (suc l) hi) (c b) h in
      let m = made_parts n k (suc l) lo hi p.0 p.2 in
      sane_block k (suc l) lo hi b p.0 p.1 m (go (none_sane l) hi p.0.entries m.asc m.pays p.3)
    where
      go : ((k lo hi b : ℕ) → fault_at n c k l lo hi b ≡ None → Sane k l lo hi b)
          → (hi : ℕ) (es : List (ℕ × ℕ)) → ascending hi es ≡ true → every (payable n (suc l)) es ≡ true → fault_below n c (suc l) hi es ≡ None → Kids (suc l) hi es
      go ih hi [] a y f = record { stored = tt; ascent = tt; inside = tt; angles = tt }
      go ih hi (e ∷ r) a y f =
          let pa = and_parts (ltb e.0 (next hi r)) (ascending hi r) a in
          let py = and_parts (leb 2 e.1 && ltb e.1 n) (every (payable n (suc l)) r) y in
          let pz = and_parts (leb 2 e.1) (ltb e.1 n) py.0 in
          let pf = either_none (fault_at n c 7 l e.0 (next hi r) e.1) (fault_below n c (suc l) hi r) f in
          let s = ih 7 e.0 (next hi r) e.1 pf.0 in
          let K = go ih hi r pa.1 py.1 pf.1 in
          let nx : next hi (map_e (pay_at c (suc l)) r) ≡ next hi r = next_map (pay_at c (suc l)) hi r in
          record {
            stored = (s.stored, K.stored);
            ascent = subst (λ z. (e.0 < z) × Child ℕ ℕ (suc l) e.0 z (pay_at c (suc l) e.1) × Ascends (Child ℕ ℕ (suc l)) hi (map_e (pay_at c (suc l)) r)) (sym nx)
                (ltb-true e.0 (next hi r) pa.0, (s.start, s.ascent, s.enough, s.few), K.ascent);
            inside = (((leb-true 2 e.1 pz.0, ltb-true e.1 n pz.1), s.inside), K.inside);
            angles = (s.angles, K.angles);
          }

  -- all is sane: the walk finds no fault
  abbrev here : ℕ → ℕ → Block
  here l b = block_of l (pay_at c (suc l) b)

  here_entries : (l b : ℕ) → (here l b).entries ≡ entries_in (block_in (c b))
  here_entries l b = payloads l (entries_in (block_in (c b)))

  sane_made : (k l lo hi b : ℕ) → Sane k l lo hi b → every (payable n l) (entries_in (block_in (c b))) ≡ true → Made n k l lo hi (here l b)
  sane_made k l lo hi b s y =
      let es : List (ℕ × ℕ) = entries_in (block_in (c b)) in
      let q : es ≡ (here l b).entries = sym (here_entries l b) in
      let len : length (map_e (pay_at c l) es) ≡ length es = map_length (pay_at c l) es in
      record {
        level = refl;
        starts' = subst (λ z. starts l lo z ≡ true) q (start_from (pay_at c l) l lo es s.start);
        asc = subst (λ z. ascending hi z ≡ true) q (ascent_from (pay_at c l) (Child ℕ ℕ l) hi es s.ascent);
        enough = subst (λ z. k ≤ length z) q (subst (λ z. k ≤ z) len s.enough);
        few = subst (λ z. length z ≤ 15) q (subst (λ z. z ≤ 15) len s.few);
        pays = subst (λ z. every (payable n l) z ≡ true) q y;
      }

  sane_none : (l k lo hi b : ℕ) → Sane k l lo hi b → fault_at n c k l lo hi b ≡ None
  sane_none zero k lo hi b s =
      content_none n k zero lo hi b (fault_below n c zero hi) (c b) (here zero b) s.stored.0
      (parts_made n k zero lo hi (here zero b) (sane_made k zero lo hi b s (angles_leaf (entries_in (block_in (c b))) s.angles))) refl
  sane_none (suc l) k lo hi b s =
      let es : List (ℕ × ℕ) = entries_in (block_in (c b)) in
      let g = go (sane_none l) hi es s.stored.1 s.ascent s.inside s.angles in
      content_none n k (suc l) lo hi b (fault_below n c (suc l) hi) (c b) (here (suc l) b) s.stored.0
      (parts_made n k (suc l) lo hi (here (suc l) b) (sane_made k (suc l) lo hi b s g.0))
      (ap (fault_below n c (suc l) hi) (here_entries (suc l) b) ∙ g.1)
    where
      go : ((k lo hi b : ℕ) → Sane k l lo hi b → fault_at n c k l lo hi b ≡ None)
          → (hi : ℕ) (es : List (ℕ × ℕ)) → Every (All ℕ ℕ St (suc l)) (map_e (pay_at c (suc l)) es) → Ascends (Child ℕ ℕ (suc l)) hi (map_e (pay_at c (suc l)) es)
          → Every (All ℕ ℕ In (suc l)) (map_e (pay_at c (suc l)) es) → Every (Angles (suc l)) (map_e (pay_at c (suc l)) es)
          → (every (payable n (suc l)) es ≡ true) × (fault_below n c (suc l) hi es ≡ None)
      go ih hi [] st a i g = (refl, refl)
      go ih hi (e ∷ r) st a i g =
          let nx : next hi (map_e (pay_at c (suc l)) r) ≡ next hi r = next_map (pay_at c (suc l)) hi r in
          let ch : Child ℕ ℕ (suc l) e.0 (next hi r) (pay_at c (suc l) e.1) = subst (λ z. Child ℕ ℕ (suc l) e.0 z (pay_at c (suc l) e.1)) nx a.1 in
          let one : fault_at n c 7 l e.0 (next hi r) e.1 ≡ None
          = ih 7 e.0 (next hi r) e.1 (record { stored = st.0; start = ch.0; ascent = ch.1; enough = ch.2; few = ch.3; inside = i.0.1; angles = g.0 }) in
          let rest = go ih hi r st.1 a.2 i.1 g.1 in (
            and_from (leb 2 e.1 && ltb e.1 n) (every (payable n (suc l)) r)
                (and_from (leb 2 e.1) (ltb e.1 n) (le-leb 2 e.1 i.0.0.0) (lt-ltb e.1 n i.0.0.1)) rest.0,
            ap (λ (o : Option Fault). option_or o (fault_below n c (suc l) hi r)) one ∙ rest.1,
          )

  -- a root
  enough_to : (l k : ℕ) → least l ≤ k → Enough l k
  enough_to zero k h = tt
  enough_to (suc l) k h = h

  enough_from : (l k : ℕ) → Enough l k → least l ≤ k
  enough_from zero k h = omega arith
  enough_from (suc l) k h = h

  root_good : (r : Root) → rooted n (Some r) ≡ true → fault_of n c r ≡ None → Good n c r
  unfolding tree_at
  root_good r q h =
      let l : ℕ = top_level r.0 in
      let pa = and_parts (leb 1 r.0 && leb r.0 5) (leb 2 r.1 && ltb r.1 n) q in
      let pb = and_parts (leb 1 r.0) (leb r.0 5) pa.0 in
      let pc = and_parts (leb 2 r.1) (ltb r.1 n) pa.1 in
      let s = none_sane l (least l) 0 10000 r.1 h in
      record {
        height = leb-true 1 r.0 pb.0;
        stored = s.stored;
        fit = record {
          laid = (s.start, s.ascent, enough_to l (length (kids l r.1)) s.enough, s.few);
          inside = ((leb-true 2 r.1 pc.0, ltb-true r.1 n pc.1), s.inside);
          angles = angles_rows (suc l) 0 (pay_at c (suc l) r.1) s.angles;
        };
      }

  good_root : (r : Root) → Good n c r → fault_of n c r ≡ None
  unfolding tree_at
  good_root r g =
      let l : ℕ = top_level r.0 in
      let f = g.fit in
      sane_none l (least l) 0 10000 r.1 (record {
        stored = g.stored;
        start = f.laid.0;
        ascent = f.laid.1;
        enough = enough_from l (length (kids l r.1)) f.laid.2;
        few = f.laid.3;
        inside = f.inside.1;
        angles = rows_angles (suc l) 0 (pay_at c (suc l) r.1) f.angles;
      })

  pair_none : (k : ℕ) (o : Option Fault) → pair_with k o ≡ None → o ≡ None
  pair_none k None e = refl
  pair_none k (Some f) e = absurd (some_none _ e)

  walk_to : (k : ℕ) (t : Table) → every (rooted n) t ≡ true → walk n c k t ≡ None → AllGood (Good n c) t
  walk_to k [] q h = tt
  walk_to k (None ∷ t) q h = walk_to (suc k) t q h
  walk_to k (Some r ∷ t) q h =
      let p = and_parts (rooted n (Some r)) (every (rooted n) t) q in
      let e = either_none (pair_with k (fault_of n c r)) (walk n c (suc k) t) h in
      (root_good r p.0 (pair_none k (fault_of n c r) e.0), walk_to (suc k) t p.1 e.1)

  pub walk_none : (k : ℕ) (t : Table) → AllGood (Good n c) t → walk n c k t ≡ None
  walk_none k [] g = refl
  walk_none k (None ∷ t) g = walk_none (suc k) t g
  walk_none k (Some r ∷ t) g = ap (λ o. option_or (pair_with k o) (walk n c (suc k) t)) (good_root r g.0) ∙ walk_none (suc k) t g.1

pub walk_exact : WalkExact
walk_exact n c k t q = (walk_to n c k t q, walk_none n c k t)
