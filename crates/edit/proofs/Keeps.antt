-- Put keeps the counts' equation, and what it makes is stored.
use Rattle.std.proofs.Common.{◌≡◌, ℕ, zero, suc, ◌+◌, ◌*◌, ◌<◌, ◌≤◌, Bool, true, false, cond, eqb, ltb, List, [], ◌∷◌, ◌++◌, length, get_or, take, drop, is_some, Some, Option, sym, refl, ap, ◌∙◌, subst, ⊎_elim, arith, length-set, take-append-drop}
use Rattle.std.proofs.lemmas.List.{get_or-set_same, get_or-set_other}
use Rattle.std.proofs.lemmas.Bool.{eq-eqb, ne_eqb, lt-ltb, le-ltb, cases_eq, cases_lt}
use Rattle.device.specs.Meaning.{Meaning, Cell, blocks_of, no_cell, written_cell, cell_at}
use Rattle.tree.specs.Node.{ins, first, at, ahead, Every, map_e}
use Rattle.tree.specs.Tree.{Pay, Tree}
use Rattle.tree.proofs.Kept.{every_append, every_take, every_drop}
use Rattle.page.specs.Block.{Block, block_at, block_in, encode, kids_of, level_of, Layout}
use Rattle.page.proofs.Exact.{back}
use Rattle.counts.specs.Counts.{one, occ, Counted}
use Rattle.counts.proofs.Parents.{one_same, one_other}
use Rattle.counts.proofs.Steps.{link_in}
use Rattle.counts.proofs.Opens.{recount, open_counted, open_free, length_opened, kids_alive}
use Rattle.edit.specs.Plan.{shallow, node_of, kids, Stored, chosen, unchosen, parted, placed, links, down, kid_n, put_n, kid_moves, moves}
use Rattle.counts.specs.Moves.{Move, opening, linking, State, step, run, Laid}
use Rattle.edit.specs.Kept.{Free, Kept, Stands}
use Rattle.edit.proofs.States.{run_same, run_append}
use Rattle.edit.proofs.Downs.{kids_append}

block_at_cells : (m m' : Meaning) (b : ℕ) → cell_at m' b ≡ cell_at m b → block_at m' b ≡ block_at m b
unfolding block_at
block_at_cells m m' b e = ap (λ (c : Cell). block_in c.current) e

-- what is stored below live blocks is stored where these are the same
pub frame : (m : Meaning) (g : ℕ → Option Block) (cs : List ℕ) (h : ℕ → ℕ) → Counted (block_at m) cs h → ((b : ℕ) → 0 < get_or cs b 0 → g b ≡ block_at m b)
    → (l : ℕ) (es : List (ℕ × Pay ℕ ℕ l)) → ((b : ℕ) → 0 < occ b (kids l es) → 0 < get_or cs b 0) → Every (Stored (block_at m) l) es → Every (Stored g l) es
frame m g cs h c same zero [] a p = tt
frame m g cs h c same zero (e ∷ r) a p = (tt, frame m g cs h c same zero r a p.1)
frame m g cs h c same (suc l) es a p = go (frame m g cs h c same l) es a p
  where
    go : ((es : List (ℕ × Pay ℕ ℕ l)) → ((b : ℕ) → 0 < occ b (kids l es) → 0 < get_or cs b 0) → Every (Stored (block_at m) l) es → Every (Stored g l) es)
        → (es : List (ℕ × Tree ℕ ℕ l)) → ((b : ℕ) → 0 < occ b (kids (suc l) es) → 0 < get_or cs b 0) → Every (Stored (block_at m) (suc l)) es → Every (Stored g (suc l)) es
    go ih [] a p = tt
    go ih (e ∷ r) a p =
        let x = e.1.0 in
        let ax : 0 < get_or cs x 0 = a x (omega (arith, one_same x x refl)) in
        let st = p.0.0 in (
          (
            same x ax ∙ st,
            ih e.1.1 (λ b q. kids_alive m cs h x b c ax (subst (λ (o : Option Block). 0 < occ b (kids_of o)) (sym st) q)) p.0.1,
          ),
          go ih r (λ b q. a b (omega arith)) p.1,
        )

-- references in hand are to live blocks
in_hand : (g : ℕ → Option Block) (cs : List ℕ) (h : ℕ → ℕ) (l : ℕ) (es : List (ℕ × Pay ℕ ℕ l)) → Counted g cs (λ b. occ b (kids l es) + h b) → (b : ℕ) → 0 < occ b (kids l es) → 0 < get_or cs b 0
in_hand g cs h l es c b p = omega (arith, c.eqn b)

kids_level : (g : ℕ → Option Block) (l : ℕ) (es : List (ℕ × Pay ℕ ℕ l)) → Every (Stored g l) es → (y : ℕ) → 0 < occ y (kids l es) → level_of (g y) + 1 ≡ l
kids_level g zero es p y h = absurd (omega arith)
kids_level g (suc l) [] p y h = absurd (omega arith)
kids_level g (suc l) (e ∷ r) p y h =
    ⊎_elim
    (λ (q : y ≡ e.1.0). omega (arith, ap level_of (ap g q ∙ p.0.0)))
    (λ (ne : y ≡ e.1.0 → ⊥). kids_level g (suc l) r p.1 y (omega (arith, one_other e.1.0 y ne)))
    (cases_eq y e.1.0)

-- one node linked
module _ (q : State) (x l : ℕ) (us : List (ℕ × Pay ℕ ℕ l)) (h : ℕ → ℕ) (free : get_or q.1 x 0 ≡ 0) (within : x < length q.1) (on : x < blocks_of q.0) (laid : Layout q.0.width (node_of l us))
    (stored : Every (Stored (block_at q.0) l) us) (c : Counted (block_at q.0) q.1 (λ b. occ b (kids l us) + h b)) where
  abbrev q' : State
  q' = step (linking x (node_of l us)) q

  pub link_cells : (b : ℕ) → (b ≡ x → ⊥) → cell_at q'.0 b ≡ cell_at q.0 b
  link_cells b ne = get_or-set_other q.0.cells x b _ no_cell ne

  pub link_counts : (b : ℕ) → (b ≡ x → ⊥) → get_or q'.1 b 0 ≡ get_or q.1 b 0
  link_counts b ne = get_or-set_other q.1 x b 1 0 ne

  link_there : block_at q'.0 x ≡ Some (node_of l us)
  unfolding block_at
  link_there = ap (λ (k : Cell). block_in k.current) (get_or-set_same q.0.cells x (written_cell (encode q.0.width (node_of l us)) (cell_at q.0 x)) no_cell on) ∙ back q.0.width (node_of l us) laid

  link_block_at : (b : ℕ) → (b ≡ x → ⊥) → block_at q'.0 b ≡ block_at q.0 b
  link_block_at b ne = block_at_cells q.0 q'.0 b (link_cells b ne)

  link_live : (b : ℕ) → 0 < get_or q.1 b 0 → block_at q'.0 b ≡ block_at q.0 b
  link_live b a = link_block_at b (λ e. omega (arith, ap (λ (n : ℕ). get_or q.1 n 0) e))

  pub link_counted : Counted (block_at q'.0) q'.1 (λ b. one x b + h b)
  link_counted =
      link_in (block_at q.0) (block_at q'.0) q.1 h x link_block_at free within
      (subst (λ (o : Option Block). (is_some o ≡ true) × (level_of o < 5)) (sym link_there) (refl, laid.low))
      (λ y p. kids_level (block_at q.0) l us stored y (subst (λ (o : Option Block). 0 < occ y (kids_of o)) link_there p) ∙ ap level_of (sym link_there))
      (subst (λ (o : Option Block). Counted (block_at q.0) q.1 (λ b. occ b (kids_of o) + h b)) (sym link_there) c)

  pub link_stored : Stored (block_at q'.0) (suc l) (x, us)
  link_stored = (link_there, frame q.0 (block_at q'.0) q.1 (λ b. occ b (kids l us) + h b) c link_live l us (in_hand (block_at q.0) q.1 h l us c) stored)

  -- something else in hand
  link_other : (k : ℕ) (zs : List (ℕ × Pay ℕ ℕ k)) → ((b : ℕ) → occ b (kids k zs) ≤ h b) → Every (Stored (block_at q.0) k) zs → Every (Stored (block_at q'.0) k) zs
  link_other k zs le st = frame q.0 (block_at q'.0) q.1 (λ b. occ b (kids l us) + h b) c link_live k zs (λ b p. omega (arith, c.eqn b, le b)) st

-- the blocks that stand for a child
pub record Good (l : ℕ) (h : ℕ → ℕ) (x y : ℕ) (q q' : State) (us : List (ℕ × Tree ℕ ℕ l)) : Type 0 where
  pub stored : Every (Stored (block_at q'.0) (suc l)) us
  pub counted : Counted (block_at q'.0) q'.1 (λ b. occ b (kids (suc l) us) + h b)
  pub cells : (b : ℕ) → (b ≡ x → ⊥) → (b ≡ y → ⊥) → cell_at q'.0 b ≡ cell_at q.0 b
  pub counts : (b : ℕ) → (b ≡ x → ⊥) → (b ≡ y → ⊥) → get_or q'.1 b 0 ≡ get_or q.1 b 0

module _ (l : ℕ) (h : ℕ → ℕ) (x y : ℕ) (q : State) (fx : get_or q.1 x 0 ≡ 0) (wx : x < length q.1) (ox : x < blocks_of q.0) (fy : get_or q.1 y 0 ≡ 0) (wy : y < length q.1) (oy : y < blocks_of q.0) (ne : x ≡ y → ⊥) where
  abbrev after : List (ℕ × List (ℕ × Pay ℕ ℕ l)) → State
  after ps = run (links l (map_e (λ c. (c.0, shallow l c.1)) (placed x y ps))) q

  pub good_one : (k : ℕ) (us : List (ℕ × Pay ℕ ℕ l)) → Every (Stored (block_at q.0) l) us → Counted (block_at q.0) q.1 (λ b. occ b (kids l us) + (0 + h b)) → Layout q.0.width (node_of l us) → Good l h x y q (after ((k, us) ∷ [])) ((k, (x, us)) ∷ [])
  good_one k us st c z =
      let c' : Counted (block_at q.0) q.1 (λ b. occ b (kids l us) + h b) = recount (λ b. occ b (kids l us) + (0 + h b)) (λ b. occ b (kids l us) + h b) (λ b. omega arith) c in
      record {
        stored = (link_stored q x l us h fx wx ox z st c', tt);
        counted = recount (λ b. one x b + h b) (λ b. occ b (x ∷ []) + h b) (λ b. omega arith) (link_counted q x l us h fx wx ox z st c');
        cells = λ b n o. link_cells q x l us h fx wx ox z st c' b n;
        counts = λ b n o. link_counts q x l us h fx wx ox z st c' b n;
      }

  pub good_two : (k j : ℕ) (xs ys : List (ℕ × Pay ℕ ℕ l)) → Every (Stored (block_at q.0) l) xs → Every (Stored (block_at q.0) l) ys → Counted (block_at q.0) q.1 (λ b. occ b (kids l xs) + (occ b (kids l ys) + h b))
      → Layout q.0.width (node_of l xs) → Layout q.0.width (node_of l ys) → Good l h x y q (after ((k, xs) ∷ (j, ys) ∷ [])) ((k, (x, xs)) ∷ (j, (y, ys)) ∷ [])
  good_two k j xs ys sx sy c zx zy =
      let h₁ : ℕ → ℕ = λ b. occ b (kids l ys) + h b in
      let q₁ : State = step (linking x (node_of l xs)) q in
      let c₁ = link_counted q x l xs h₁ fx wx ox zx sx c in
      let ys₁ : Every (Stored (block_at q₁.0) l) ys = link_other q x l xs h₁ fx wx ox zx sx c l ys (λ b. omega arith) sy in
      let xs₁ : Every (Stored (block_at q₁.0) (suc l)) ((k, (x, xs)) ∷ []) = (link_stored q x l xs h₁ fx wx ox zx sx c, tt) in
      let h₂ : ℕ → ℕ = λ b. one x b + h b in
      let c₂ : Counted (block_at q₁.0) q₁.1 (λ b. occ b (kids l ys) + h₂ b) = recount (λ b. one x b + h₁ b) (λ b. occ b (kids l ys) + h₂ b) (λ b. omega arith) c₁ in
      let yx : y ≡ x → ⊥ = λ e. ne (sym e) in
      let f₁ : get_or q₁.1 y 0 ≡ 0 = link_counts q x l xs h₁ fx wx ox zx sx c y yx ∙ fy in
      let w₁ : y < length q₁.1 = omega (arith, length-set q.1 x 1) in
      let o₁ : y < blocks_of q₁.0 = omega (arith, length-set q.0.cells x (written_cell (encode q.0.width (node_of l xs)) (cell_at q.0 x))) in
      record {
        stored = ((link_other q₁ y l ys h₂ f₁ w₁ o₁ zy ys₁ c₂ (suc l) ((k, (x, xs)) ∷ []) (λ b. omega arith) xs₁).0, (link_stored q₁ y l ys h₂ f₁ w₁ o₁ zy ys₁ c₂, tt));
        counted = recount (λ b. one y b + h₂ b) (λ b. occ b (x ∷ y ∷ []) + h b) (λ b. omega arith) (link_counted q₁ y l ys h₂ f₁ w₁ o₁ zy ys₁ c₂);
        cells = λ b n o. link_cells q₁ y l ys h₂ f₁ w₁ o₁ zy ys₁ c₂ b o ∙ link_cells q x l xs h₁ fx wx ox zx sx c b n;
        counts = λ b n o. link_counts q₁ y l ys h₂ f₁ w₁ o₁ zy ys₁ c₂ b o ∙ link_counts q x l xs h₁ fx wx ox zx sx c b n;
      }

  pub good : (s k : ℕ) (es made : List (ℕ × Pay ℕ ℕ l)) → Every (Stored (block_at q.0) l) made → Every (Stored (block_at q.0) l) (unchosen s es) → Counted (block_at q.0) q.1 (λ b. occ b (kids l made) + (occ b (kids l (unchosen s es)) + h b))
      → Laid q.0.width (links l (map_e (λ c. (c.0, shallow l c.1)) (placed x y (parted s k es made)))) → Good l h x y q (after (parted s k es made)) (placed x y (parted s k es made))
  good s k es made sm =
      ⊎_elim
      (λ n. ⊎_elim
      (λ v. rw (eq-eqb (length es) 15 n, lt-ltb s (first (drop 7 es)) v) (λ su c z. good_two k (first (drop 7 es)) made (drop 7 es) sm su c z.0 z.1.0))
      (λ v. rw (eq-eqb (length es) 15 n, le-ltb s (first (drop 7 es)) v)
      (λ su c z. good_two k (first (drop 7 es)) (take 7 es) made su sm
      (recount (λ b. occ b (kids l made) + (occ b (kids l (take 7 es)) + h b)) (λ b. occ b (kids l (take 7 es)) + (occ b (kids l made) + h b)) (λ b. omega arith) c) z.0 z.1.0))
      (cases_lt s (first (drop 7 es))))
      (λ n. rw (ne_eqb (length es) 15 n) (λ su c z. good_one k made sm
      (recount (λ b. occ b (kids l made) + (occ b (kids l []) + h b)) (λ b. occ b (kids l made) + (0 + h b)) (λ b. omega (arith, kids_nil b l)) c) z.0))
      (cases_eq (length es) 15)
    where
      kids_nil : (b l : ℕ) → occ b (kids l []) ≡ 0
      kids_nil b zero = refl
      kids_nil b (suc l) = refl

-- both parts of a child
every_chosen : {X : Type 0} (F : X → Type 0) (s : ℕ) (es : List (ℕ × X)) → Every F es → Every F (chosen s es) × Every F (unchosen s es)
every_chosen {X} F s es p = go (eqb (length es) 15) (ltb s (first (drop 7 es)))
  where
    go : (b d : Bool) → Every F (cond {A = List (ℕ × X)} b (cond d (take 7 es) (drop 7 es)) es) × Every F (cond {A = List (ℕ × X)} b (cond d (drop 7 es) (take 7 es)) [])
    go true true = (every_take F 7 es p, every_drop F 7 es p)
    go true false = (every_drop F 7 es p, every_take F 7 es p)
    go false d = (p, tt)

occ_chosen : (b s l : ℕ) (es : List (ℕ × Pay ℕ ℕ l)) → occ b (kids l es) ≡ occ b (kids l (chosen s es)) + occ b (kids l (unchosen s es))
occ_chosen b s l es = go (eqb (length es) 15) (ltb s (first (drop 7 es)))
  where
    halves : occ b (kids l es) ≡ occ b (kids l (take 7 es)) + occ b (kids l (drop 7 es))
    halves = ap (λ (z : List (ℕ × Pay ℕ ℕ l)). occ b (kids l z)) (sym (take-append-drop 7 es)) ∙ kids_append b l (take 7 es) (drop 7 es)

    none : (l : ℕ) → occ b (kids l []) ≡ 0
    none zero = refl
    none (suc l) = refl

    go : (t d : Bool) → occ b (kids l es) ≡ occ b (kids l (cond t (cond d (take 7 es) (drop 7 es)) es)) + occ b (kids l (cond t (cond d (drop 7 es) (take 7 es)) []))
    go true true = halves
    go true false = omega (arith, halves)
    go false d = omega (arith, none l)

pub laid_parts : (w : ℕ) (us vs : List Move) → Laid w (us ++ vs) → Laid w us × Laid w vs
laid_parts w [] vs p = (tt, p)
laid_parts w (u ∷ us) vs p = let q = laid_parts w us vs p.1 in ((p.0, q.0), q.1)

pub same_live : (gs : List ℕ) (n N : ℕ) (q q' : State) → Free q gs N → n ≤ N → Kept gs n q q' → (b : ℕ) → 0 < get_or q.1 b 0 → block_at q'.0 b ≡ block_at q.0 b
same_live gs n N q q' f le k b a = block_at_cells q.0 q'.0 b (k.cells b (λ j lt e. omega (arith, f.count j (omega arith), ap (λ (x : ℕ). get_or q.1 x 0) e)))

pub kept_refl : (gs : List ℕ) (n : ℕ) (q : State) → Kept gs n q q
kept_refl gs n q = record { cells = λ b o. refl; free = λ b o z. z }

pub free_open : (gs : List ℕ) (N : ℕ) (q : State) (h : ℕ → ℕ) (x : ℕ) → Counted (block_at q.0) q.1 (λ b. one x b + h b) → Free q gs N → Free (step (opening x) q) gs N
free_open gs N q h x c f = record {
  count = λ j lt. open_free q.0 q.1 h x (get_or gs j 0) c (f.count j lt);
  on = λ j lt. ((f.on j lt).0, omega (arith, (f.on j lt).1, length_opened (kids_of (block_at q.0 x)) x q.1));
  apart = f.apart;
}

module _ (gs : List ℕ) (s a N : ℕ) where
  kid_keeps : (l : ℕ) → ((es : List (ℕ × Pay ℕ ℕ l)) (q : State) (h : ℕ → ℕ) → Every (Stored (block_at q.0) l) es → Counted (block_at q.0) q.1 (λ b. occ b (kids l es) + h b) → Free q gs N → 2 * l ≤ N
      → Laid q.0.width (moves gs s a l es) → Stands gs l h q (run (moves gs s a l es) q) (put_n gs s a l es))
      → (k : ℕ) (t : Tree ℕ ℕ l) (q : State) (h : ℕ → ℕ) → Stored (block_at q.0) (suc l) t → Counted (block_at q.0) q.1 (λ b. one t.0 b + h b) → Free q gs N → 2 * suc l ≤ N
      → Laid q.0.width (kid_moves gs s a l (moves gs s a l) k t) → Stands gs (suc l) h q (run (kid_moves gs s a l (moves gs s a l) k t) q) (kid_n gs s a l (put_n gs s a l) k t)
  kid_keeps l ih k t q h st c f le laid =
      let m = q.0 in
      let es = t.1 in
      let xs = chosen s es in
      let ys = unchosen s es in
      let ms = moves gs s a l xs in
      let us = put_n gs s a l xs in
      let x = get_or gs (2 * l) 0 in
      let y = get_or gs (2 * l + 1) 0 in
      let ls = links l (map_e (λ c. (c.0, shallow l c.1)) (placed x y (parted s k es us))) in
      let q₁ : State = step (opening t.0) q in
      let q₂ : State = run ms q₁ in
      let two = every_chosen (Stored (block_at m) l) s es st.1 in
      let kk = λ (b : ℕ). ap (λ (o : Option Block). occ b (kids_of o)) st.0 in
      let c₁ = open_counted m q.1 h t.0 c in
      let h₁ : ℕ → ℕ = λ b. occ b (kids l ys) + h b in
      let cx : Counted (block_at m) q₁.1 (λ b. occ b (kids l xs) + h₁ b) = recount (λ b. occ b (kids_of (block_at m t.0)) + h b) (λ b. occ b (kids l xs) + h₁ b) (λ b. omega (arith, kk b, occ_chosen b s l es)) c₁ in
      let f₁ = free_open gs N q h t.0 c f in
      let parts = laid_parts m.width ms ls laid.1 in
      let S = ih xs q₁ h₁ two.0 cx f₁ (omega arith) parts.0 in
      let z = run_same ms q₁ in
      let ys₂ : Every (Stored (block_at q₂.0) l) ys = frame m (block_at q₂.0) q₁.1 (λ b. occ b (kids l xs) + h₁ b) cx (same_live gs (2 * l) N q₁ q₂ f₁ (omega arith) S.kept) l ys (λ b p. omega (arith, cx.eqn b)) two.1 in
      let fx = S.kept.free x (λ j lt e. f.apart j (2 * l) lt (omega arith) (sym e)) (f₁.count (2 * l) (omega arith)) in
      let fy = S.kept.free y (λ j lt e. f.apart j (2 * l + 1) (omega arith) (omega arith) (sym e)) (f₁.count (2 * l + 1) (omega arith)) in
      let ox = f₁.on (2 * l) (omega arith) in
      let oy = f₁.on (2 * l + 1) (omega arith) in
      let G = good l h x y q₂ fx (omega (arith, ox.1, z.counts)) (omega (arith, ox.0, z.blocks)) fy (omega (arith, oy.1, z.counts)) (omega (arith, oy.0, z.blocks)) (λ e. f.apart (2 * l) (2 * l + 1) (omega arith) (omega arith) e)
      s k es us S.stored ys₂ S.counted (subst (λ (w : ℕ). Laid w ls) (sym z.width) parts.1) in
      subst (λ (r : State). Stands gs (suc l) h q r (kid_n gs s a l (put_n gs s a l) k t)) (sym (run_append ms ls q₁))
      (record {
        stored = G.stored;
        counted = G.counted;
        kept = record {
          cells = λ b o. G.cells b (o (2 * l) (omega arith)) (o (2 * l + 1) (omega arith)) ∙ S.kept.cells b (λ j lt. o j (omega arith));
          free = λ b o v. G.counts b (o (2 * l) (omega arith)) (o (2 * l + 1) (omega arith)) ∙ S.kept.free b (λ j lt. o j (omega arith)) (open_free m q.1 h t.0 b c v);
        };
      })

  pub keeps : (l : ℕ) (es : List (ℕ × Pay ℕ ℕ l)) (q : State) (h : ℕ → ℕ) → Every (Stored (block_at q.0) l) es → Counted (block_at q.0) q.1 (λ b. occ b (kids l es) + h b) → Free q gs N → 2 * l ≤ N
      → Laid q.0.width (moves gs s a l es) → Stands gs l h q (run (moves gs s a l es) q) (put_n gs s a l es)
  keeps zero es q h st c f le laid = record { stored = every_unit (ins s a es); counted = c; kept = kept_refl gs 0 q }
    where
      every_unit : (es : List (ℕ × ℕ)) → Every (Stored (block_at q.0) zero) es
      every_unit [] = tt
      every_unit (e ∷ r) = (tt, every_unit r)
  keeps (suc l) es q h st c f le laid = go (keeps l) es h st c laid
    where
      go : ((es : List (ℕ × Pay ℕ ℕ l)) (q : State) (h : ℕ → ℕ) → Every (Stored (block_at q.0) l) es → Counted (block_at q.0) q.1 (λ b. occ b (kids l es) + h b) → Free q gs N → 2 * l ≤ N
          → Laid q.0.width (moves gs s a l es) → Stands gs l h q (run (moves gs s a l es) q) (put_n gs s a l es))
          → (es : List (ℕ × Tree ℕ ℕ l)) (h : ℕ → ℕ) → Every (Stored (block_at q.0) (suc l)) es → Counted (block_at q.0) q.1 (λ b. occ b (kids (suc l) es) + h b)
          → Laid q.0.width (down s (kid_moves gs s a l (moves gs s a l)) es) → Stands gs (suc l) h q (run (down s (kid_moves gs s a l (moves gs s a l)) es) q) (at s (kid_n gs s a l (put_n gs s a l)) es)
      go ih [] h st c laid = record { stored = tt; counted = c; kept = kept_refl gs (2 * suc l) q }
      go ih (e ∷ r) h st c laid = by (ahead s r) (λ c' z. go ih r (λ b. one e.1.0 b + h b) st.1 c' z) laid
        where
          by : (b : Bool) → (Counted (block_at q.0) q.1 (λ b. occ b (kids (suc l) r) + (one e.1.0 b + h b)) → Laid q.0.width (down s (kid_moves gs s a l (moves gs s a l)) r)
              → Stands gs (suc l) (λ b. one e.1.0 b + h b) q (run (down s (kid_moves gs s a l (moves gs s a l)) r) q) (at s (kid_n gs s a l (put_n gs s a l)) r))
              → Laid q.0.width (cond b (kid_moves gs s a l (moves gs s a l) e.0 e.1) (down s (kid_moves gs s a l (moves gs s a l)) r))
              → Stands gs (suc l) h q (run (cond b (kid_moves gs s a l (moves gs s a l) e.0 e.1) (down s (kid_moves gs s a l (moves gs s a l)) r)) q) (cond b (kid_n gs s a l (put_n gs s a l) e.0 e.1 ++ r) (e ∷ at s (kid_n gs s a l (put_n gs s a l)) r))
          by true more laid =
              let h₁ : ℕ → ℕ = λ b. occ b (kids (suc l) r) + h b in
              let us = kid_n gs s a l (put_n gs s a l) e.0 e.1 in
              let q' = run (kid_moves gs s a l (moves gs s a l) e.0 e.1) q in
              let S = kid_keeps l ih e.0 e.1 q h₁ st.0 (recount (λ b. occ b (kids (suc l) (e ∷ r)) + h b) (λ b. one e.1.0 b + h₁ b) (λ b. omega arith) c) f le laid in
              record {
                stored = every_append (Stored (block_at q'.0) (suc l)) us r S.stored
                    (frame q.0 (block_at q'.0) q.1 (λ b. occ b (kids (suc l) (e ∷ r)) + h b) c (same_live gs (2 * suc l) N q q' f le S.kept) (suc l) r (λ b p. omega (arith, c.eqn b)) st.1);
                counted = recount (λ b. occ b (kids (suc l) us) + h₁ b) (λ b. occ b (kids (suc l) (us ++ r)) + h b) (λ b. omega (arith, kids_append b (suc l) us r)) S.counted;
                kept = S.kept;
              }
          by false more laid =
              let h₁ : ℕ → ℕ = λ b. one e.1.0 b + h b in
              let us = at s (kid_n gs s a l (put_n gs s a l)) r in
              let q' = run (down s (kid_moves gs s a l (moves gs s a l)) r) q in
              let S = more (recount (λ b. occ b (kids (suc l) (e ∷ r)) + h b) (λ b. occ b (kids (suc l) r) + h₁ b) (λ b. omega arith) c) laid in
              record {
                stored = ((frame q.0 (block_at q'.0) q.1 (λ b. occ b (kids (suc l) (e ∷ r)) + h b) c (same_live gs (2 * suc l) N q q' f le S.kept) (suc l) (e ∷ []) (λ b p. omega (arith, c.eqn b)) (st.0, tt)).0, S.stored);
                counted = recount (λ b. occ b (kids (suc l) us) + h₁ b) (λ b. occ b (kids (suc l) (e ∷ us)) + h b) (λ b. omega arith) S.counted;
                kept = S.kept;
              }
