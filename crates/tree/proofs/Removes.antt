-- remove keeps a tree well formed and clears one row.
use Rattle.std.proofs.Common.{◌≡◌, ℕ, zero, suc, ◌-◌, ◌<◌, ◌≤◌, eqb, List, [], ◌∷◌, ◌++◌, length, take, drop, sym, refl, ap, ◌∙◌, subst, subst₂, append_assoc, append-nil, not-suc-le-zero, arith, length-append, length-drop, take-append-drop, length-take}
use Rattle.std.proofs.lemmas.Bool.{cond_both, eqb-true, eqb-false}
use Rattle.tree.specs.Node.{del, first, at, Seg, Asc, flat, touch, ready_right, ready_left, shrink}
use Rattle.tree.specs.Tree.{Pay, Tree, Gap, Enough, Rows, rows, Cell, Span, Wf, rem_e, only, lower, RemoveSound}
use Rattle.tree.proofs.Segs.{seg_join, seg_le, at_seg, at_same, at_rows, flat_append, del_left, del_right, del_asc, del_length, beside_seg, beside_rows, beside_length}
use Rattle.tree.proofs.Puts.{gap_trans, gap_le, enough, flat_id, cell_asc, span_cut}

module _ (M P : Type 0) where
  pub cell_le : (l k m : ℕ) (x : Pay M P l) → Cell M P l k m x → k ≤ m
  cell_le zero k m x p = omega (arith, p)
  cell_le (suc l) k m t p = seg_le (Gap l) (Cell M P l) (gap_le l) (cell_le l) k m t.1 p.0

  span_le : (l lo hi : ℕ) (es : List (ℕ × Pay M P l)) → Span M P l lo hi es → lo ≤ hi
  span_le l lo hi es p = seg_le (Gap l) (Cell M P l) (gap_le l) (cell_le l) lo hi es p

  span_join : (l lo m hi : ℕ) (xs ys : List (ℕ × Pay M P l)) → Span M P l lo m xs → Span M P l m hi ys → Span M P l lo hi (xs ++ ys)
  span_join l lo m hi xs ys p q = seg_join (Gap l) (Cell M P l) (gap_trans l) lo m hi xs ys p q

  -- a child, which can spare an entry if it covers s
  abbrev Ready : (l s : ℕ) → ℕ → ℕ → Tree M P l → Type 0
  Ready l s k m t = Cell M P (suc l) k m t × (k ≤ s → s < m → 8 ≤ length t.1)

  right_seg : (l s m : ℕ) (new : M) (e d : ℕ × Tree M P l) → Cell M P (suc l) e.0 d.0 e.1 → Cell M P (suc l) d.0 m d.1 → s < d.0 → Seg ◌≡◌ (Ready l s) e.0 m (ready_right new e d)
  right_seg l s m new e d p q h =
      let xs = e.1.1 in
      let ys = d.1.1 in
      cond_both (eqb (length xs) 7) _ _ (λ z. Seg ◌≡◌ (Ready l s) e.0 m z)
      (λ t. let n = eqb-true (length xs) 7 t in
      cond_both (eqb (length ys) 7) _ _ (λ z. Seg ◌≡◌ (Ready l s) e.0 m z)
      (λ u. let o = eqb-true (length ys) 7 u in
      let j = length-append xs ys in
      (refl, (m, ((span_join l e.0 d.0 m xs ys p.0 q.0, omega arith, omega arith), λ a b. omega arith), refl)))
      (λ u. let o = eqb-false (length ys) 7 u in
      let c = span_cut M P l d.0 m 1 ys (omega arith) q.0 in
      let j = length-append xs (take 1 ys) in
      let i = length-take 1 ys in
      let i' = length-drop 1 ys in (
        refl,
        (
          first (drop 1 ys),
          ((span_join l e.0 d.0 _ xs (take 1 ys) p.0 c.0, omega arith, omega arith), λ a b. omega arith),
          (refl, (m, ((c.1, omega arith, omega arith), λ a b. absurd (omega (arith, span_le l d.0 _ (take 1 ys) c.0))), refl)),
        ),
      )))
      (λ t. let n = eqb-false (length xs) 7 t in
      (refl, (d.0, (p, λ a b. omega arith), (refl, (m, (q, λ a b. absurd (omega arith)), refl)))))

  left_seg : (l s m : ℕ) (new : M) (e d : ℕ × Tree M P l) → Cell M P (suc l) e.0 d.0 e.1 → Cell M P (suc l) d.0 m d.1 → d.0 ≤ s → Seg ◌≡◌ (Ready l s) e.0 m (ready_left new e d)
  left_seg l s m new e d p q h =
      let xs = e.1.1 in
      let ys = d.1.1 in
      cond_both (eqb (length ys) 7) _ _ (λ z. Seg ◌≡◌ (Ready l s) e.0 m z)
      (λ t. let n = eqb-true (length ys) 7 t in
      cond_both (eqb (length xs) 7) _ _ (λ z. Seg ◌≡◌ (Ready l s) e.0 m z)
      (λ u. let o = eqb-true (length xs) 7 u in
      let j = length-append xs ys in
      (refl, (m, ((span_join l e.0 d.0 m xs ys p.0 q.0, omega arith, omega arith), λ a b. omega arith), refl)))
      (λ u. let o = eqb-false (length xs) 7 u in
      let k = length xs - 1 in
      let c = span_cut M P l e.0 d.0 k xs (omega arith) p.0 in
      let j = length-append (drop k xs) ys in
      let i = length-take k xs in
      let i' = length-drop k xs in (
        refl,
        (
          first (drop k xs),
          ((c.0, omega arith, omega arith), λ a b. absurd (omega (arith, span_le l _ d.0 (drop k xs) c.1))),
          (refl, (m, ((span_join l _ d.0 m (drop k xs) ys c.1 q.0, omega arith, omega arith), λ a b. omega arith), refl)),
        ),
      )))
      (λ t. let n = eqb-false (length ys) 7 t in
      (refl, (d.0, (p, λ a b. absurd (omega arith)), (refl, (m, (q, λ a b. omega arith), refl)))))

  right_rows : (l : ℕ) (new : M) (e d : ℕ × Tree M P l) → flat (Rows M P (suc l)) (ready_right new e d) ≡ flat (Rows M P l) e.1.1 ++ flat (Rows M P l) d.1.1
  right_rows l new e d =
      let R = Rows M P l in
      let F : List (ℕ × Pay M P l) → List (ℕ × P) = flat R in
      let xs = e.1.1 in
      let ys = d.1.1 in
      let Q : List (ℕ × Tree M P l) → Type 0 = λ z. flat (Rows M P (suc l)) z ≡ F xs ++ F ys in
      cond_both (eqb (length xs) 7) _ _ Q
      (λ t. cond_both (eqb (length ys) 7) _ _ Q
      (λ u. append-nil (F (xs ++ ys)) ∙ flat_append R xs ys)
      (λ u. rw (flat_append R xs (take 1 ys), append-nil (F (drop 1 ys)), append_assoc (F xs) (F (take 1 ys)) (F (drop 1 ys)), ← flat_append R (take 1 ys) (drop 1 ys), take-append-drop 1 ys)))
      (λ t. ap (λ (z : List (ℕ × P)). F xs ++ z) (append-nil (F ys)))

  left_rows : (l : ℕ) (new : M) (e d : ℕ × Tree M P l) → flat (Rows M P (suc l)) (ready_left new e d) ≡ flat (Rows M P l) e.1.1 ++ flat (Rows M P l) d.1.1
  left_rows l new e d =
      let R = Rows M P l in
      let F : List (ℕ × Pay M P l) → List (ℕ × P) = flat R in
      let xs = e.1.1 in
      let ys = d.1.1 in
      let k = length xs - 1 in
      let Q : List (ℕ × Tree M P l) → Type 0 = λ z. flat (Rows M P (suc l)) z ≡ F xs ++ F ys in
      cond_both (eqb (length ys) 7) _ _ Q
      (λ t. cond_both (eqb (length xs) 7) _ _ Q
      (λ u. append-nil (F (xs ++ ys)) ∙ flat_append R xs ys)
      (λ u. rw (append-nil (F (drop k xs ++ ys)), flat_append R (drop k xs) ys, ← append_assoc (F (take k xs)) (F (drop k xs)) (F ys), ← flat_append R (take k xs) (drop k xs), take-append-drop k xs)))
      (λ t. ap (λ (z : List (ℕ × P)). F xs ++ z) (append-nil (F ys)))

  right_length : (l : ℕ) (new : M) (e d : ℕ × Tree M P l) → (1 ≤ length (ready_right new e d)) × (length (ready_right new e d) ≤ 2)
  right_length l new e d =
      let Q : List (ℕ × Tree M P l) → Type 0 = λ z. (1 ≤ length z) × (length z ≤ 2) in
      cond_both (eqb (length e.1.1) 7) _ _ Q (λ t. cond_both (eqb (length d.1.1) 7) _ _ Q (λ u. omega arith) (λ u. omega arith)) (λ t. omega arith)

  left_length : (l : ℕ) (new : M) (e d : ℕ × Tree M P l) → (1 ≤ length (ready_left new e d)) × (length (ready_left new e d) ≤ 2)
  left_length l new e d =
      let Q : List (ℕ × Tree M P l) → Type 0 = λ z. (1 ≤ length z) × (length z ≤ 2) in
      cond_both (eqb (length d.1.1) 7) _ _ Q (λ t. cond_both (eqb (length e.1.1) 7) _ _ Q (λ u. omega arith) (λ u. omega arith)) (λ t. omega arith)

  module _ (new : M) (s : ℕ) where
    pub rem_length : (l : ℕ) (es : List (ℕ × Pay M P l)) → (length es ≤ suc (length (rem_e M P new s l es))) × (length (rem_e M P new s l es) ≤ length es)
    rem_length zero es = del_length s es
    rem_length (suc l) [] = omega arith
    rem_length (suc l) (e ∷ r) =
        let g = rem_e M P new s l in
        let n = beside_length s (touch new g) (λ e d. at s (touch new g) (ready_right new e d)) (λ e d. at s (touch new g) (ready_left new e d)) (λ k x. refl)
        (λ e d. omega (arith, at_same s (touch new g) (λ i x. refl) (ready_right new e d), right_length l new e d))
        (λ e d. omega (arith, at_same s (touch new g) (λ i x. refl) (ready_left new e d), left_length l new e d)) e r in
        (n.0, n.1)

    pub rem_span : (l lo hi : ℕ) (es : List (ℕ × Pay M P l)) → Enough l (length es) → Span M P l lo hi es → lo ≤ s → s < hi → Span M P l lo hi (rem_e M P new s l es)
    rem_span zero lo hi es n p u v = del_asc s lo hi es p
    rem_span (suc l) lo hi [] n p u v = p
    rem_span (suc l) lo hi (e ∷ r) n p u v =
        let g = rem_e M P new s l in
        let W = Cell M P (suc l) in
        let touched : (i j : ℕ) (z : Tree M P l) → Ready l s i j z → i ≤ s → s < j → Seg ◌≡◌ W i j (touch new g i z) =
        λ i j z h b d. let k = rem_length l z.1 in let o = h.1 b d in
        (refl, (j, (rem_span l i j z.1 (enough l (length z.1) (omega (arith, o))) h.0.0 b d, omega (arith, k, o), omega (arith, k, h.0)), refl)) in
        subst (λ (b : ℕ). Seg ◌≡◌ W b hi (shrink new s g (e ∷ r))) (sym p.0)
        (beside_seg W W s (touch new g) (λ e d. at s (touch new g) (ready_right new e d)) (λ e d. at s (touch new g) (ready_left new e d)) (λ k m x h. h)
        (λ m e d a b c h. at_seg (Ready l s) W s (touch new g) (λ i j z h. h.0) touched e.0 m (ready_right new e d) (right_seg l s m new e d a b h) c (omega (arith, cell_le (suc l) _ _ d.1 b)))
        (λ m e d a b c h. at_seg (Ready l s) W s (touch new g) (λ i j z h. h.0) touched e.0 m (ready_left new e d) (left_seg l s m new e d a b c) (omega (arith, cell_le (suc l) _ _ e.1 a)) h)
        hi e r (omega arith) (refl, p.1) (omega (arith, p.0)) v)

    pub rem_rows : (l lo hi : ℕ) (es : List (ℕ × Pay M P l)) → Enough l (length es) → Span M P l lo hi es → lo ≤ s → s < hi → flat (Rows M P l) (rem_e M P new s l es) ≡ del s (flat (Rows M P l) es)
    rem_rows zero lo hi es n p u v = flat_id (del s es) ∙ ap (del s) (sym (flat_id es))
    rem_rows (suc l) lo hi [] n p u v = refl
    rem_rows (suc l) lo hi (e ∷ r) n p u v =
        let g = rem_e M P new s l in
        let W = Cell M P (suc l) in
        let R = Rows M P (suc l) in
        let touched : (i j : ℕ) (z : Tree M P l) → Ready l s i j z → i ≤ s → s < j → flat R (touch new g i z) ≡ del s (R i z) =
        λ i j z h b d. append-nil (flat (Rows M P l) (g z.1)) ∙ rem_rows l i j z.1 (enough l (length z.1) (omega (arith, h.0))) h.0.0 b d in
        let asc : (k m : ℕ) (z : Tree M P l) → Ready l s k m z → Asc k m (R k z) = λ k m z h. cell_asc M P (suc l) k m z h.0 in
        beside_rows W R s (del s) (del_left s) (del_right s) (cell_asc M P (suc l)) (touch new g) (λ e d. at s (touch new g) (ready_right new e d)) (λ e d. at s (touch new g) (ready_left new e d))
        (λ m e d a b c h. at_rows (Ready l s) R s (del s) (del_left s) (del_right s) asc (touch new g) touched e.0 m (ready_right new e d) (omega (arith, right_length l new e d)) (right_seg l s m new e d a b h) c (omega (arith, cell_le (suc l) _ _ d.1 b))
        ∙ ap (del s) (right_rows l new e d))
        (λ m e d a b c h. at_rows (Ready l s) R s (del s) (del_left s) (del_right s) asc (touch new g) touched e.0 m (ready_left new e d) (omega (arith, left_length l new e d)) (left_seg l s m new e d a b c) (omega (arith, cell_le (suc l) _ _ e.1 a)) h
        ∙ ap (del s) (left_rows l new e d))
        hi e r (omega arith) (refl, p.1) (omega (arith, p.0)) v

  only_wf : (l : ℕ) (m : M) (es : List (ℕ × Tree M P l)) → Span M P (suc l) 0 10000 es → 1 ≤ length es → length es ≤ 15 → Wf M P (only M P l m es).0 (only M P l m es).1
  only_wf l m [] p a b = absurd (not-suc-le-zero a)
  only_wf l m (e ∷ []) p a b =
      let c = p.1.1 in
      (subst₂ (λ (i j : ℕ). Span M P l i j e.1.1) (sym p.0) p.1.2 c.0, enough l (length e.1.1) (omega arith), c.2)
  only_wf l m (e ∷ d ∷ r) p a b = (p, omega arith, b)

  only_rows : (l : ℕ) (m : M) (es : List (ℕ × Tree M P l)) → rows M P (only M P l m es).0 (only M P l m es).1 ≡ flat (Rows M P (suc l)) es
  only_rows l m [] = refl
  only_rows l m (e ∷ []) = sym (append-nil (flat (Rows M P l) e.1.1))
  only_rows l m (e ∷ d ∷ r) = refl

  lower_wf : (l : ℕ) (t : Tree M P l) → Span M P l 0 10000 t.1 → (1 ≤ l → 1 ≤ length t.1) → length t.1 ≤ 15 → Wf M P (lower M P l t).0 (lower M P l t).1
  lower_wf zero t p a b = (p, tt, b)
  lower_wf (suc l) t p a b = only_wf l t.0 t.1 p (a (omega arith)) b

  lower_rows : (l : ℕ) (t : Tree M P l) → rows M P (lower M P l t).0 (lower M P l t).1 ≡ rows M P l t
  lower_rows zero t = refl
  lower_rows (suc l) t = only_rows l t.0 t.1

  enough_two : (l n : ℕ) → Enough l n → 1 ≤ l → 2 ≤ n
  enough_two zero n h p = absurd (omega arith)
  enough_two (suc l) n h p = h

pub remove_sound : (M P : Type 0) → RemoveSound M P
remove_sound M P new s r h w =
    let es = rem_e M P new s r.0 r.1.1 in
    let n = rem_length M P new s r.0 r.1.1 in (
      lower_wf M P r.0 (new, es) (rem_span M P new s r.0 0 10000 r.1.1 w.1 w.0 (omega arith) h) (λ p. omega (arith, n.0, enough_two M P r.0 _ w.1 p)) (omega (arith, n.1, w.2)),
      lower_rows M P r.0 (new, es) ∙ rem_rows M P new s r.0 0 10000 r.1.1 w.1 w.0 (omega arith) h,
    )
