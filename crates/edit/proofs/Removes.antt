-- Remove keeps the counts' equation, and what it makes is stored.
use Rattle.std.proofs.Common.{◌≡◌, ℕ, zero, suc, ◌+◌, ◌-◌, ◌*◌, ◌≤◌, Bool, true, false, cond, eqb, ltb, List, [], ◌∷◌, ◌++◌, length, get_or, take, drop, sym, refl, ap, ◌∙◌, arith, take-append-drop}
use Rattle.tree.specs.Node.{del, first, Every}
use Rattle.tree.specs.Tree.{Pay, Tree}
use Rattle.tree.proofs.Kept.{every_append, every_take, every_drop}
use Rattle.page.specs.Block.{block_at}
use Rattle.counts.specs.Counts.{one, occ, Counted}
use Rattle.counts.proofs.Opens.{recount}
use Rattle.edit.specs.Plan.{kids, Stored}
use Rattle.counts.specs.Moves.{Move, State, run, Laid}
use Rattle.edit.specs.Kept.{Free, Stands}
use Rattle.edit.specs.Fill.{below}
use Rattle.edit.specs.Remove.{put2, right_n, left_n, edit_moves, right_m, left_m, shrink_n, shrink_m, rem_n, rem_moves, RemoveKeeps}
use Rattle.edit.proofs.Downs.{kids_append}
use Rattle.edit.proofs.Keeps.{good_one, good_two, kept_refl, frame, same_live}
use Rattle.edit.proofs.Fills.{replaced, among}

pub kids_nil : (b l : ℕ) → occ b (kids l []) ≡ 0
kids_nil b zero = refl
kids_nil b (suc l) = refl

pub halves : (b l n : ℕ) (es : List (ℕ × Pay ℕ ℕ l)) → occ b (kids l es) ≡ occ b (kids l (take n es)) + occ b (kids l (drop n es))
halves b l n es = ap (λ (z : List (ℕ × Pay ℕ ℕ l)). occ b (kids l z)) (sym (take-append-drop n es)) ∙ kids_append b l (take n es) (drop n es)

module _ (gs : List ℕ) (s N l : ℕ) (g : List (ℕ × Pay ℕ ℕ l) → List (ℕ × Pay ℕ ℕ l)) (ms : List (ℕ × Pay ℕ ℕ l) → List Move)
    (ih : (es : List (ℕ × Pay ℕ ℕ l)) (q : State) (h : ℕ → ℕ) → Every (Stored (block_at q.0) l) es → Counted (block_at q.0) q.1 (λ b. occ b (kids l es) + h b) → Free q gs N → Laid q.0.width (ms es) → Stands gs l h q (run (ms es) q) (g es))
    (q : State) (f : Free q gs N) (le : 2 * suc l ≤ N) where
  abbrev S1 : List (ℕ × Tree ℕ ℕ l) → Type 0
  S1 es = Every (Stored (block_at q.0) (suc l)) es

  -- the work goes on in one part, and nothing is left
  one_part : (mid : List (ℕ × Tree ℕ ℕ l)) (work : List (ℕ × Pay ℕ ℕ l)) (k : ℕ) (h : ℕ → ℕ) → S1 mid → Counted (block_at q.0) q.1 (λ b. occ b (kids (suc l) mid) + h b) → Every (Stored (block_at q.0) l) work → ((b : ℕ) → below l mid b ≡ occ b (kids l work))
      → Laid q.0.width (edit_moves gs s l g ms mid work ((k, g work) ∷ [])) → Stands gs (suc l) h q (run (edit_moves gs s l g ms mid work ((k, g work) ∷ [])) q) (put2 gs s l g ((k, g work) ∷ []))
  one_part mid work k h st c sw split laid =
      replaced gs N l mid work [] (g work) ((k, g work) ∷ []) (ms work) h q le st c f sw tt (λ b. omega (arith, split b, kids_nil b l))
      (λ q₁ h₁ a b e z. ih work q₁ h₁ a b e z)
      (λ q₂ fx wx ox fy wy oy ne su sr c₂ z. good_one l h (get_or gs (2 * l) 0) (get_or gs (2 * l + 1) 0) q₂ fx wx ox fy wy oy ne k (g work) su
      (recount (λ b. occ b (kids l (g work)) + (occ b (kids l []) + h b)) (λ b. occ b (kids l (g work)) + (0 + h b)) (λ b. omega (arith, kids_nil b l)) c₂) z.0)
      laid

  -- the rest stands right of the work, or left of it
  part_rest : (mid : List (ℕ × Tree ℕ ℕ l)) (work rest : List (ℕ × Pay ℕ ℕ l)) (k j : ℕ) (h : ℕ → ℕ) → S1 mid → Counted (block_at q.0) q.1 (λ b. occ b (kids (suc l) mid) + h b) → Every (Stored (block_at q.0) l) work → Every (Stored (block_at q.0) l) rest → ((b : ℕ) → below l mid b ≡ occ b (kids l work) + occ b (kids l rest))
      → Laid q.0.width (edit_moves gs s l g ms mid work ((k, g work) ∷ (j, rest) ∷ [])) → Stands gs (suc l) h q (run (edit_moves gs s l g ms mid work ((k, g work) ∷ (j, rest) ∷ [])) q) (put2 gs s l g ((k, g work) ∷ (j, rest) ∷ []))
  part_rest mid work rest k j h st c sw sr split laid =
      replaced gs N l mid work rest (g work) ((k, g work) ∷ (j, rest) ∷ []) (ms work) h q le st c f sw sr split
      (λ q₁ h₁ a b e z. ih work q₁ h₁ a b e z)
      (λ q₂ fx wx ox fy wy oy ne su sr c₂ z. good_two l h (get_or gs (2 * l) 0) (get_or gs (2 * l + 1) 0) q₂ fx wx ox fy wy oy ne k j (g work) rest su sr c₂ z.0 z.1.0)
      laid

  rest_part : (mid : List (ℕ × Tree ℕ ℕ l)) (work rest : List (ℕ × Pay ℕ ℕ l)) (k j : ℕ) (h : ℕ → ℕ) → S1 mid → Counted (block_at q.0) q.1 (λ b. occ b (kids (suc l) mid) + h b) → Every (Stored (block_at q.0) l) work → Every (Stored (block_at q.0) l) rest → ((b : ℕ) → below l mid b ≡ occ b (kids l work) + occ b (kids l rest))
      → Laid q.0.width (edit_moves gs s l g ms mid work ((k, rest) ∷ (j, g work) ∷ [])) → Stands gs (suc l) h q (run (edit_moves gs s l g ms mid work ((k, rest) ∷ (j, g work) ∷ [])) q) (put2 gs s l g ((k, rest) ∷ (j, g work) ∷ []))
  rest_part mid work rest k j h st c sw sr split laid =
      replaced gs N l mid work rest (g work) ((k, rest) ∷ (j, g work) ∷ []) (ms work) h q le st c f sw sr split
      (λ q₁ h₁ a b e z. ih work q₁ h₁ a b e z)
      (λ q₂ fx wx ox fy wy oy ne su sr c₂ z. good_two l h (get_or gs (2 * l) 0) (get_or gs (2 * l + 1) 0) q₂ fx wx ox fy wy oy ne k j rest (g work) sr su
      (recount (λ b. occ b (kids l (g work)) + (occ b (kids l rest) + h b)) (λ b. occ b (kids l rest) + (occ b (kids l (g work)) + h b)) (λ b. omega arith) c₂) z.0 z.1.0)
      laid

  -- a child with its right neighbour
  pub right : (e d : ℕ × Tree ℕ ℕ l) (h : ℕ → ℕ) → S1 (e ∷ d ∷ []) → Counted (block_at q.0) q.1 (λ b. occ b (kids (suc l) (e ∷ d ∷ [])) + h b) → Laid q.0.width (right_m gs s l g ms e d)
      → Stands gs (suc l) h q (run (right_m gs s l g ms e d) q) (right_n gs s l g e d)
  right e d h st c = go (eqb (length e.1.1) 7) (eqb (length d.1.1) 7)
    where
      go : (t u : Bool)
          → Laid q.0.width (edit_moves gs s l g ms (cond t (e ∷ d ∷ []) (e ∷ [])) (cond t (cond u (e.1.1 ++ d.1.1) (e.1.1 ++ take 1 d.1.1)) e.1.1)
          (cond t (cond u ((e.0, g (cond t (cond u (e.1.1 ++ d.1.1) (e.1.1 ++ take 1 d.1.1)) e.1.1)) ∷ []) ((e.0, g (cond t (cond u (e.1.1 ++ d.1.1) (e.1.1 ++ take 1 d.1.1)) e.1.1)) ∷ (first (drop 1 d.1.1), drop 1 d.1.1) ∷ [])) ((e.0, g (cond t (cond u (e.1.1 ++ d.1.1) (e.1.1 ++ take 1 d.1.1)) e.1.1)) ∷ [])))
          → Stands gs (suc l) h q
          (run (edit_moves gs s l g ms (cond t (e ∷ d ∷ []) (e ∷ [])) (cond t (cond u (e.1.1 ++ d.1.1) (e.1.1 ++ take 1 d.1.1)) e.1.1)
          (cond t (cond u ((e.0, g (cond t (cond u (e.1.1 ++ d.1.1) (e.1.1 ++ take 1 d.1.1)) e.1.1)) ∷ []) ((e.0, g (cond t (cond u (e.1.1 ++ d.1.1) (e.1.1 ++ take 1 d.1.1)) e.1.1)) ∷ (first (drop 1 d.1.1), drop 1 d.1.1) ∷ [])) ((e.0, g (cond t (cond u (e.1.1 ++ d.1.1) (e.1.1 ++ take 1 d.1.1)) e.1.1)) ∷ []))) q)
          (put2 gs s l g (cond t (cond u ((e.0, g (cond t (cond u (e.1.1 ++ d.1.1) (e.1.1 ++ take 1 d.1.1)) e.1.1)) ∷ []) ((e.0, g (cond t (cond u (e.1.1 ++ d.1.1) (e.1.1 ++ take 1 d.1.1)) e.1.1)) ∷ (first (drop 1 d.1.1), drop 1 d.1.1) ∷ [])) ((e.0, g (cond t (cond u (e.1.1 ++ d.1.1) (e.1.1 ++ take 1 d.1.1)) e.1.1)) ∷ [])) ++ cond t [] (d ∷ []))
      go true true laid = one_part (e ∷ d ∷ []) (e.1.1 ++ d.1.1) e.0 h st c (every_append (Stored (block_at q.0) l) e.1.1 d.1.1 st.0.1 st.1.0.1) (λ b. omega (arith, kids_append b l e.1.1 d.1.1)) laid
      go true false laid =
          part_rest (e ∷ d ∷ []) (e.1.1 ++ take 1 d.1.1) (drop 1 d.1.1) e.0 (first (drop 1 d.1.1)) h st c (every_append (Stored (block_at q.0) l) e.1.1 (take 1 d.1.1) st.0.1 (every_take (Stored (block_at q.0) l) 1 d.1.1 st.1.0.1))
          (every_drop (Stored (block_at q.0) l) 1 d.1.1 st.1.0.1) (λ b. omega (arith, kids_append b l e.1.1 (take 1 d.1.1), halves b l 1 d.1.1)) laid
      go false u laid =
          among gs N l [] (e ∷ []) (d ∷ []) (put2 gs s l g ((e.0, g e.1.1) ∷ [])) h q _ tt st.1 (recount (λ b. occ b (kids (suc l) (e ∷ d ∷ [])) + h b) (λ b. occ b (kids (suc l) ([] ++ ((e ∷ []) ++ d ∷ []))) + h b) (λ b. refl) c) f le
          (one_part (e ∷ []) e.1.1 e.0 (λ b. (occ b (kids (suc l) []) + occ b (kids (suc l) (d ∷ []))) + h b) (st.0, tt) (recount (λ b. occ b (kids (suc l) (e ∷ d ∷ [])) + h b) (λ b. occ b (kids (suc l) (e ∷ [])) + ((occ b (kids (suc l) []) + occ b (kids (suc l) (d ∷ []))) + h b)) (λ b. omega arith) c) st.0.1 (λ b. omega arith) laid)

  -- the last child with its left neighbour
  left : (e d : ℕ × Tree ℕ ℕ l) (h : ℕ → ℕ) → S1 (e ∷ d ∷ []) → Counted (block_at q.0) q.1 (λ b. occ b (kids (suc l) (e ∷ d ∷ [])) + h b) → Laid q.0.width (left_m gs s l g ms e d)
      → Stands gs (suc l) h q (run (left_m gs s l g ms e d) q) (left_n gs s l g e d)
  left e d h st c = go (eqb (length d.1.1) 7) (eqb (length e.1.1) 7)
    where
      go : (t u : Bool)
          → Laid q.0.width (edit_moves gs s l g ms (cond t (e ∷ d ∷ []) (d ∷ [])) (cond t (cond u (e.1.1 ++ d.1.1) (drop (length e.1.1 - 1) e.1.1 ++ d.1.1)) d.1.1)
          (cond t (cond u ((e.0, g (cond t (cond u (e.1.1 ++ d.1.1) (drop (length e.1.1 - 1) e.1.1 ++ d.1.1)) d.1.1)) ∷ []) ((e.0, take (length e.1.1 - 1) e.1.1) ∷ (first (drop (length e.1.1 - 1) e.1.1), g (cond t (cond u (e.1.1 ++ d.1.1) (drop (length e.1.1 - 1) e.1.1 ++ d.1.1)) d.1.1)) ∷ [])) ((d.0, g (cond t (cond u (e.1.1 ++ d.1.1) (drop (length e.1.1 - 1) e.1.1 ++ d.1.1)) d.1.1)) ∷ [])))
          → Stands gs (suc l) h q
          (run (edit_moves gs s l g ms (cond t (e ∷ d ∷ []) (d ∷ [])) (cond t (cond u (e.1.1 ++ d.1.1) (drop (length e.1.1 - 1) e.1.1 ++ d.1.1)) d.1.1)
          (cond t (cond u ((e.0, g (cond t (cond u (e.1.1 ++ d.1.1) (drop (length e.1.1 - 1) e.1.1 ++ d.1.1)) d.1.1)) ∷ []) ((e.0, take (length e.1.1 - 1) e.1.1) ∷ (first (drop (length e.1.1 - 1) e.1.1), g (cond t (cond u (e.1.1 ++ d.1.1) (drop (length e.1.1 - 1) e.1.1 ++ d.1.1)) d.1.1)) ∷ [])) ((d.0, g (cond t (cond u (e.1.1 ++ d.1.1) (drop (length e.1.1 - 1) e.1.1 ++ d.1.1)) d.1.1)) ∷ []))) q)
          (cond t [] (e ∷ []) ++ put2 gs s l g (cond t (cond u ((e.0, g (cond t (cond u (e.1.1 ++ d.1.1) (drop (length e.1.1 - 1) e.1.1 ++ d.1.1)) d.1.1)) ∷ []) ((e.0, take (length e.1.1 - 1) e.1.1) ∷ (first (drop (length e.1.1 - 1) e.1.1), g (cond t (cond u (e.1.1 ++ d.1.1) (drop (length e.1.1 - 1) e.1.1 ++ d.1.1)) d.1.1)) ∷ [])) ((d.0, g (cond t (cond u (e.1.1 ++ d.1.1) (drop (length e.1.1 - 1) e.1.1 ++ d.1.1)) d.1.1)) ∷ [])))
      go true true laid = one_part (e ∷ d ∷ []) (e.1.1 ++ d.1.1) e.0 h st c (every_append (Stored (block_at q.0) l) e.1.1 d.1.1 st.0.1 st.1.0.1) (λ b. omega (arith, kids_append b l e.1.1 d.1.1)) laid
      go true false laid =
          let n = length e.1.1 - 1 in
          rest_part (e ∷ d ∷ []) (drop n e.1.1 ++ d.1.1) (take n e.1.1) e.0 (first (drop n e.1.1)) h st c (every_append (Stored (block_at q.0) l) (drop n e.1.1) d.1.1 (every_drop (Stored (block_at q.0) l) n e.1.1 st.0.1) st.1.0.1)
          (every_take (Stored (block_at q.0) l) n e.1.1 st.0.1) (λ b. omega (arith, kids_append b l (drop n e.1.1) d.1.1, halves b l n e.1.1)) laid
      go false u laid =
          among gs N l (e ∷ []) (d ∷ []) [] (put2 gs s l g ((d.0, g d.1.1) ∷ [])) h q _ (st.0, tt) tt c f le
          (one_part (d ∷ []) d.1.1 d.0 (λ b. (occ b (kids (suc l) (e ∷ [])) + occ b (kids (suc l) [])) + h b) st.1 (recount (λ b. occ b (kids (suc l) (e ∷ d ∷ [])) + h b) (λ b. occ b (kids (suc l) (d ∷ [])) + ((occ b (kids (suc l) (e ∷ [])) + occ b (kids (suc l) [])) + h b)) (λ b. omega arith) c) st.1.0.1 (λ b. omega arith) laid)

  -- some of the children, in a row
  pub shrinks : (e : ℕ × Tree ℕ ℕ l) (r : List (ℕ × Tree ℕ ℕ l)) (h : ℕ → ℕ) → S1 (e ∷ r) → Counted (block_at q.0) q.1 (λ b. occ b (kids (suc l) (e ∷ r)) + h b) → Laid q.0.width (shrink_m gs s l g ms (e ∷ r))
      → Stands gs (suc l) h q (run (shrink_m gs s l g ms (e ∷ r)) q) (shrink_n gs s l g (e ∷ r))
  shrinks e [] h st c laid = one_part (e ∷ []) e.1.1 e.0 h st c st.0.1 (λ b. omega arith) laid
  shrinks e (d ∷ []) h st c laid = by (ltb s d.0) laid
    where
      by : (b : Bool) → Laid q.0.width (cond b (right_m gs s l g ms e d) (left_m gs s l g ms e d)) → Stands gs (suc l) h q (run (cond b (right_m gs s l g ms e d) (left_m gs s l g ms e d)) q) (cond b (right_n gs s l g e d ++ []) (left_n gs s l g e d))
      by true laid =
          among gs N l [] (e ∷ d ∷ []) [] (right_n gs s l g e d) h q _ tt tt c f le
          (right e d (λ b. (occ b (kids (suc l) []) + occ b (kids (suc l) [])) + h b) st (recount (λ b. occ b (kids (suc l) (e ∷ d ∷ [])) + h b) (λ b. occ b (kids (suc l) (e ∷ d ∷ [])) + ((occ b (kids (suc l) []) + occ b (kids (suc l) [])) + h b)) (λ b. omega arith) c) laid)
      by false laid = left e d h st c laid
  shrinks e (d ∷ x ∷ r) h st c laid = by (ltb s d.0) (λ c' z. shrinks d (x ∷ r) (λ b. one e.1.0 b + h b) st.1 c' z) laid
    where
      by : (b : Bool) → (Counted (block_at q.0) q.1 (λ b. occ b (kids (suc l) (d ∷ x ∷ r)) + (one e.1.0 b + h b)) → Laid q.0.width (shrink_m gs s l g ms (d ∷ x ∷ r)) → Stands gs (suc l) (λ b. one e.1.0 b + h b) q (run (shrink_m gs s l g ms (d ∷ x ∷ r)) q) (shrink_n gs s l g (d ∷ x ∷ r)))
          → Laid q.0.width (cond b (right_m gs s l g ms e d) (shrink_m gs s l g ms (d ∷ x ∷ r)))
          → Stands gs (suc l) h q (run (cond b (right_m gs s l g ms e d) (shrink_m gs s l g ms (d ∷ x ∷ r))) q) (cond b (right_n gs s l g e d ++ x ∷ r) (e ∷ shrink_n gs s l g (d ∷ x ∷ r)))
      by true more laid =
          among gs N l [] (e ∷ d ∷ []) (x ∷ r) (right_n gs s l g e d) h q _ tt st.1.1 c f le
          (right e d (λ b. (occ b (kids (suc l) []) + occ b (kids (suc l) (x ∷ r))) + h b) (st.0, (st.1.0, tt)) (recount (λ b. occ b (kids (suc l) (e ∷ d ∷ x ∷ r)) + h b) (λ b. occ b (kids (suc l) (e ∷ d ∷ [])) + ((occ b (kids (suc l) []) + occ b (kids (suc l) (x ∷ r))) + h b)) (λ b. omega arith) c) laid)
      by false more laid =
          let h₁ : ℕ → ℕ = λ b. one e.1.0 b + h b in
          let us = shrink_n gs s l g (d ∷ x ∷ r) in
          let q' = run (shrink_m gs s l g ms (d ∷ x ∷ r)) q in
          let S = more (recount (λ b. occ b (kids (suc l) (e ∷ d ∷ x ∷ r)) + h b) (λ b. occ b (kids (suc l) (d ∷ x ∷ r)) + h₁ b) (λ b. omega arith) c) laid in
          record {
            stored = ((frame q.0 (block_at q'.0) q.1 (λ b. occ b (kids (suc l) (e ∷ d ∷ x ∷ r)) + h b) c (same_live gs (2 * suc l) N q q' f le S.kept) (suc l) (e ∷ []) (λ b p. omega (arith, c.eqn b)) (st.0, tt)).0, S.stored);
            counted = recount (λ b. occ b (kids (suc l) us) + h₁ b) (λ b. occ b (kids (suc l) (e ∷ us)) + h b) (λ b. omega arith) S.counted;
            kept = S.kept;
          }

pub remove_keeps : RemoveKeeps
remove_keeps gs s N zero es q h st c f le laid = record { stored = every_unit (del s es); counted = c; kept = kept_refl gs 0 q }
  where
    every_unit : (es : List (ℕ × ℕ)) → Every (Stored (block_at q.0) zero) es
    every_unit [] = tt
    every_unit (e ∷ r) = (tt, every_unit r)
remove_keeps gs s N (suc l) [] q h st c f le laid = record { stored = tt; counted = c; kept = kept_refl gs (2 * suc l) q }
remove_keeps gs s N (suc l) (e ∷ r) q h st c f le laid =
    shrinks gs s N l (rem_n gs s l) (rem_moves gs s l) (λ es q h a b c d. remove_keeps gs s N l es q h a b c (omega arith) d) q f le e r h st c laid
