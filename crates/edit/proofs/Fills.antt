-- One level of any edit: some children in a row are opened, a part of what they hold is made anew below, and one or two blocks stand for them.
use Rattle.std.proofs.Common.{◌≡◌, ℕ, suc, ◌+◌, ◌*◌, ◌<◌, ◌≤◌, List, [], ◌∷◌, ◌++◌, length, get_or, Option, sym, refl, ap, ◌∙◌, subst, arith}
use Rattle.device.specs.Meaning.{Meaning, blocks_of, no_cell}
use Rattle.tree.specs.Node.{Every, map_e}
use Rattle.tree.specs.Tree.{Pay, Tree}
use Rattle.tree.proofs.Kept.{every_append}
use Rattle.page.specs.Block.{Block, block_at, kids_of}
use Rattle.counts.specs.Counts.{one, occ, Counted}
use Rattle.counts.proofs.Opens.{recount, open_counted, open_free}
use Rattle.edit.specs.Plan.{shallow, kids, Stored, placed, links}
use Rattle.counts.specs.Moves.{Move, opening, State, step, run, Laid}
use Rattle.edit.specs.Kept.{Free, Stands}
use Rattle.edit.specs.Fill.{opens, below}
use Rattle.edit.proofs.States.{run_same, run_append}
use Rattle.edit.proofs.Downs.{kids_append}
use Rattle.edit.proofs.Keeps.{Good, frame, same_live, free_open, laid_parts}

-- all of them opened: the device is the same, free blocks stay free, and references to what was below are in hand
pub record Opened (gs : List ℕ) (N l : ℕ) (mid : List (ℕ × Tree ℕ ℕ l)) (h : ℕ → ℕ) (q q' : State) : Type 0 where
  pub device : q'.0 ≡ q.0
  pub counted : Counted (block_at q.0) q'.1 (λ b. below l mid b + h b)
  pub free : Free (q.0, q'.1) gs N
  pub stays : (b : ℕ) → get_or q.1 b 0 ≡ 0 → get_or q'.1 b 0 ≡ 0

pub open_all : (gs : List ℕ) (N l : ℕ) (mid : List (ℕ × Tree ℕ ℕ l)) (h : ℕ → ℕ) (q : State) → Every (Stored (block_at q.0) (suc l)) mid → Counted (block_at q.0) q.1 (λ b. occ b (kids (suc l) mid) + h b) → Free q gs N
    → Opened gs N l mid h q (run (opens mid) q)
open_all gs N l [] h q st c f = record { device = refl; counted = c; free = f; stays = λ b z. z }
open_all gs N l (e ∷ r) h q st c f =
    let x = e.1.0 in
    let q₁ : State = step (opening x) q in
    let h₁ : ℕ → ℕ = λ b. occ b (kids (suc l) r) + h b in
    let c₁ : Counted (block_at q.0) q.1 (λ b. one x b + h₁ b) = recount (λ b. occ b (kids (suc l) (e ∷ r)) + h b) (λ b. one x b + h₁ b) (λ b. omega arith) c in
    let kk = λ (b : ℕ). ap (λ (o : Option Block). occ b (kids_of o)) st.0.0 in
    let h₂ : ℕ → ℕ = λ b. occ b (kids l e.1.1) + h b in
    let c₂ : Counted (block_at q.0) q₁.1 (λ b. occ b (kids (suc l) r) + h₂ b) = recount (λ b. occ b (kids_of (block_at q.0 x)) + h₁ b) (λ b. occ b (kids (suc l) r) + h₂ b) (λ b. omega (arith, kk b)) (open_counted q.0 q.1 h₁ x c₁) in
    let o = open_all gs N l r h₂ q₁ st.1 c₂ (free_open gs N q h₁ x c₁ f) in
    record {
      device = o.device;
      counted = recount (λ b. below l r b + h₂ b) (λ b. below l (e ∷ r) b + h b) (λ b. omega arith) o.counted;
      free = o.free;
      stays = λ b z. o.stays b (open_free q.0 q.1 h₁ x b c₁ z);
    }

module _ (gs : List ℕ) (N l : ℕ) (mid : List (ℕ × Tree ℕ ℕ l)) (part rest us : List (ℕ × Pay ℕ ℕ l)) (ps : List (ℕ × List (ℕ × Pay ℕ ℕ l))) (ms : List Move) (h : ℕ → ℕ) (q : State) (le : 2 * suc l ≤ N)
    (st : Every (Stored (block_at q.0) (suc l)) mid) (c : Counted (block_at q.0) q.1 (λ b. occ b (kids (suc l) mid) + h b)) (f : Free q gs N)
    (sp : Every (Stored (block_at q.0) l) part) (sr : Every (Stored (block_at q.0) l) rest) (split : (b : ℕ) → below l mid b ≡ occ b (kids l part) + occ b (kids l rest)) where
  abbrev x : ℕ
  x = get_or gs (2 * l) 0

  abbrev y : ℕ
  y = get_or gs (2 * l + 1) 0

  abbrev ls : List Move
  ls = links l (map_e (λ c. (c.0, shallow l c.1)) (placed x y ps))

  -- What is to be shown of an edit: the recursion's own claim, and that the parts stand for what was made and what is left.
  pub replaced : ((q₁ : State) (h₁ : ℕ → ℕ) → Every (Stored (block_at q₁.0) l) part → Counted (block_at q₁.0) q₁.1 (λ b. occ b (kids l part) + h₁ b) → Free q₁ gs N → Laid q₁.0.width ms → Stands gs l h₁ q₁ (run ms q₁) us)
      → ((q₂ : State) → get_or q₂.1 x 0 ≡ 0 → x < length q₂.1 → x < blocks_of q₂.0 → get_or q₂.1 y 0 ≡ 0 → y < length q₂.1 → y < blocks_of q₂.0 → (x ≡ y → ⊥) → Every (Stored (block_at q₂.0) l) us → Every (Stored (block_at q₂.0) l) rest
      → Counted (block_at q₂.0) q₂.1 (λ b. occ b (kids l us) + (occ b (kids l rest) + h b)) → Laid q₂.0.width ls → Good l h x y q₂ (run ls q₂) (placed x y ps))
      → Laid q.0.width (opens mid ++ (ms ++ ls)) → Stands gs (suc l) h q (run (opens mid ++ (ms ++ ls)) q) (placed x y ps)
  replaced ih build laid =
      let q₁ : State = run (opens mid) q in
      let q₂ : State = run ms q₁ in
      let o = open_all gs N l mid h q st c f in
      let lo = laid_parts q.0.width (opens mid) (ms ++ ls) laid in
      let lp = laid_parts q.0.width ms ls lo.1 in
      let dev : q₁.0 ≡ q.0 = o.device in
      let h₁ : ℕ → ℕ = λ b. occ b (kids l rest) + h b in
      let on : (m : Meaning) → Type 0 = λ m. Counted (block_at m) q₁.1 (λ b. occ b (kids l part) + h₁ b) in
      let cp : on q₁.0 = subst on (sym dev) (recount (λ b. below l mid b + h b) (λ b. occ b (kids l part) + h₁ b) (λ b. omega (arith, split b)) o.counted) in
      let f₁ : Free q₁ gs N = subst (λ (m : Meaning). Free (m, q₁.1) gs N) (sym dev) o.free in
      let to : (es : List (ℕ × Pay ℕ ℕ l)) → Every (Stored (block_at q.0) l) es → Every (Stored (block_at q₁.0) l) es = λ es p. subst (λ (m : Meaning). Every (Stored (block_at m) l) es) (sym dev) p in
      let wide : q₁.0.width ≡ q.0.width = ap (λ (m : Meaning). m.width) dev in
      let S = ih q₁ h₁ (to part sp) cp f₁ (subst (λ (w : ℕ). Laid w ms) (sym wide) lp.0) in
      let z = run_same ms q₁ in
      let sr₂ : Every (Stored (block_at q₂.0) l) rest = frame q₁.0 (block_at q₂.0) q₁.1 (λ b. occ b (kids l part) + h₁ b) cp (same_live gs (2 * l) N q₁ q₂ f₁ (omega arith) S.kept) l rest (λ b p. omega (arith, cp.eqn b)) (to rest sr) in
      let fx = S.kept.free x (λ j lt e. f.apart j (2 * l) lt (omega arith) (sym e)) (f₁.count (2 * l) (omega arith)) in
      let fy = S.kept.free y (λ j lt e. f.apart j (2 * l + 1) (omega arith) (omega arith) (sym e)) (f₁.count (2 * l + 1) (omega arith)) in
      let ox = f₁.on (2 * l) (omega arith) in
      let oy = f₁.on (2 * l + 1) (omega arith) in
      let G = build q₂ fx (omega (arith, ox.1, z.counts)) (omega (arith, ox.0, z.blocks)) fy (omega (arith, oy.1, z.counts)) (omega (arith, oy.0, z.blocks)) (λ e. f.apart (2 * l) (2 * l + 1) (omega arith) (omega arith) e)
      S.stored sr₂ S.counted (subst (λ (w : ℕ). Laid w ls) (sym (z.width ∙ wide)) lp.1) in
      subst (λ (r : State). Stands gs (suc l) h q r (placed x y ps)) (sym (run_append (opens mid) (ms ++ ls) q ∙ run_append ms ls q₁))
      (record {
        stored = G.stored;
        counted = G.counted;
        kept = record {
          cells = λ b out. G.cells b (out (2 * l) (omega arith)) (out (2 * l + 1) (omega arith)) ∙ S.kept.cells b (λ j lt. out j (omega arith)) ∙ ap (λ (m : Meaning). get_or m.cells b no_cell) dev;
          free = λ b out v. G.counts b (out (2 * l) (omega arith)) (out (2 * l + 1) (omega arith)) ∙ S.kept.free b (λ j lt. out j (omega arith)) (o.stays b v);
        };
      })

-- among the other children of the block
pub among : (gs : List ℕ) (N l : ℕ) (pre mid post us : List (ℕ × Tree ℕ ℕ l)) (h : ℕ → ℕ) (q q' : State) → Every (Stored (block_at q.0) (suc l)) pre → Every (Stored (block_at q.0) (suc l)) post
    → Counted (block_at q.0) q.1 (λ b. occ b (kids (suc l) (pre ++ (mid ++ post))) + h b) → Free q gs N → 2 * suc l ≤ N
    → Stands gs (suc l) (λ b. (occ b (kids (suc l) pre) + occ b (kids (suc l) post)) + h b) q q' us → Stands gs (suc l) h q q' (pre ++ (us ++ post))
among gs N l pre mid post us h q q' sp so c f le S =
    let H : ℕ → ℕ = λ b. occ b (kids (suc l) (pre ++ (mid ++ post))) + h b in
    let all = λ (b : ℕ). kids_append b (suc l) pre (mid ++ post) in
    let some = λ (b : ℕ). kids_append b (suc l) mid post in
    let same = same_live gs (2 * suc l) N q q' f le S.kept in
    record {
      stored = every_append (Stored (block_at q'.0) (suc l)) pre (us ++ post)
          (frame q.0 (block_at q'.0) q.1 H c same (suc l) pre (λ b p. omega (arith, c.eqn b, all b)) sp)
          (every_append (Stored (block_at q'.0) (suc l)) us post S.stored (frame q.0 (block_at q'.0) q.1 H c same (suc l) post (λ b p. omega (arith, c.eqn b, all b, some b)) so));
      counted = recount (λ b. occ b (kids (suc l) us) + ((occ b (kids (suc l) pre) + occ b (kids (suc l) post)) + h b)) (λ b. occ b (kids (suc l) (pre ++ (us ++ post))) + h b)
          (λ b. omega (arith, kids_append b (suc l) pre (us ++ post), kids_append b (suc l) us post)) S.counted;
      kept = S.kept;
    }
