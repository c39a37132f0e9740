-- put keeps a tree well formed and sets one row.
use Rattle.std.proofs.Common.{◌≡◌, ℕ, zero, suc, ◌-◌, ◌*◌, ◌<◌, ◌≤◌, eqb, List, [], ◌∷◌, ◌++◌, length, take, drop, sym, refl, ap, ◌∙◌, append-nil, le_trans, le_refl, mul-le-mul_right, arith, length-drop, take-append-drop, length-take}
use Rattle.std.proofs.lemmas.Bool.{cond_both, eqb-true, eqb-false}
use Rattle.tree.specs.Node.{ins, first, Seg, Asc, flat, parts, opened, touch, kid}
use Rattle.tree.specs.Tree.{Pay, Tree, Gap, Enough, Rows, rows, Cell, Span, put_e, Wf, Root, raise, PutSound, FiveHigh}
use Rattle.tree.proofs.Segs.{seg_cut, seg_weak, at_seg, at_length, at_same, ins_length, ins_asc, ins_left, ins_right, seg_asc, at_rows, flat_append, asc_length, flat_least}

pub gap_refl : (l a : ℕ) → Gap l a a
gap_refl zero a = le_refl a
gap_refl (suc l) a = refl

pub gap_trans : (l a b c : ℕ) → Gap l a b → Gap l b c → Gap l a c
gap_trans zero a b c p q = le_trans p q
gap_trans (suc l) a b c p q = p ∙ q

pub gap_le : (l a b : ℕ) → Gap l a b → a ≤ b
gap_le zero a b p = p
gap_le (suc l) a b p = omega (arith, p)

pub enough : (l n : ℕ) → 2 ≤ n → Enough l n
enough zero n h = tt
enough (suc l) n h = h

pub flat_id : {P : Type 0} (es : List (ℕ × P)) → flat (λ k p. (k, p) ∷ []) es ≡ es
flat_id [] = refl
flat_id {P} (e ∷ r) = ap (λ (z : List (ℕ × P)). e ∷ z) (flat_id r)

module _ (M P : Type 0) where
  pub cell_asc : (l k m : ℕ) (x : Pay M P l) → Cell M P l k m x → Asc k m (Rows M P l k x)
  cell_asc zero k m x p = (le_refl k, (suc k, refl, omega (arith, p)))
  cell_asc (suc l) k m t p = seg_asc (Gap l) (Cell M P l) (Rows M P l) (gap_le l) (cell_asc l) k m t.1 p.0

  pub span_asc : (l lo hi : ℕ) (es : List (ℕ × Pay M P l)) → Span M P l lo hi es → Asc lo hi (flat (Rows M P l) es)
  span_asc l lo hi es p = seg_asc (Gap l) (Cell M P l) (Rows M P l) (gap_le l) (cell_asc l) lo hi es p

  pub span_cut : (l lo hi n : ℕ) (es : List (ℕ × Pay M P l)) → n < length es → Span M P l lo hi es → Span M P l lo (first (drop n es)) (take n es) × Span M P l (first (drop n es)) hi (drop n es)
  span_cut l lo hi n es h p =
      seg_cut (Gap l) (Cell M P l) (gap_refl l) lo hi (take n es) (drop n es) (simp length-drop (omega arith)) (rw take-append-drop p)

  -- a child that is not full
  abbrev pub Fit : (l : ℕ) → ℕ → ℕ → ℕ → ℕ → Tree M P l → Type 0
  Fit l a b k m t = Span M P l k m t.1 × (a ≤ length t.1) × (length t.1 ≤ b)

  -- entries cut in two
  pub parts_seg : (l : ℕ) (new : M) (a b n k m : ℕ) (es : List (ℕ × Pay M P l)) → n < length es → a ≤ n → n ≤ b → a ≤ length es - n → length es - n ≤ b → Span M P l k m es → Seg ◌≡◌ (Fit l a b) k m (parts new n k es)
  parts_seg l new a b n k m es h p q u v w =
      let c = span_cut l k m n es h w in
      (refl, (first (drop n es), (c.0, simp length-take (omega arith), simp length-take (omega arith)), (refl, (m, (c.1, simp length-drop (omega arith), simp length-drop (omega arith)), refl))))

  pub opened_seg : (l : ℕ) (new : M) (k m : ℕ) (t : Tree M P l) → Cell M P (suc l) k m t → Seg ◌≡◌ (Fit l 7 14) k m (opened new k t)
  opened_seg l new k m t p =
      cond_both (eqb (length t.1) 15) _ _ (λ z. Seg ◌≡◌ (Fit l 7 14) k m z)
      (λ e. let q = eqb-true (length t.1) 15 e in parts_seg l new 7 14 7 k m t.1 (omega arith) (omega arith) (omega arith) (omega arith) (omega arith) p.0)
      (λ e. let q = eqb-false (length t.1) 15 e in (refl, (m, (p.0, p.1, omega arith), refl)))

  pub opened_length : (l : ℕ) (new : M) (k : ℕ) (t : Tree M P l) → (1 ≤ length (opened new k t)) × (length (opened new k t) ≤ 2)
  opened_length l new k t = cond_both (eqb (length t.1) 15) _ _ (λ z. (1 ≤ length z) × (length z ≤ 2)) (λ e. omega arith) (λ e. omega arith)

  pub parts_rows : (l : ℕ) (new : M) (n k : ℕ) (es : List (ℕ × Pay M P l)) → flat (Rows M P (suc l)) (parts new n k es) ≡ flat (Rows M P l) es
  parts_rows l new n k es =
      ap (λ (z : List (ℕ × P)). flat (Rows M P l) (take n es) ++ z) (append-nil (flat (Rows M P l) (drop n es)))
      ∙ sym (flat_append (Rows M P l) (take n es) (drop n es)) ∙ ap (flat (Rows M P l)) (take-append-drop n es)

  pub opened_rows : (l : ℕ) (new : M) (k : ℕ) (t : Tree M P l) → flat (Rows M P (suc l)) (opened new k t) ≡ flat (Rows M P l) t.1
  opened_rows l new k t =
      cond_both (eqb (length t.1) 15) _ _ (λ z. flat (Rows M P (suc l)) z ≡ flat (Rows M P l) t.1)
      (λ e. parts_rows l new 7 k t.1) (λ e. append-nil (flat (Rows M P l) t.1))

  module _ (new : M) (s : ℕ) (a : P) where
    pub put_length : (l : ℕ) (es : List (ℕ × Pay M P l)) → (length es ≤ length (put_e M P new s a l es)) × (length (put_e M P new s a l es) ≤ suc (length es))
    put_length zero es = ins_length s a es
    put_length (suc l) es = at_length s (kid new s (put_e M P new s a l)) kid_length es
      where
        kid_length : (k : ℕ) (t : Tree M P l) → (1 ≤ length (kid new s (put_e M P new s a l) k t)) × (length (kid new s (put_e M P new s a l) k t) ≤ 2)
        kid_length k t = omega (arith, at_same s (touch new (put_e M P new s a l)) (λ i x. refl) (opened new k t), opened_length l new k t)

    pub put_span : (l lo hi : ℕ) (es : List (ℕ × Pay M P l)) → Span M P l lo hi es → lo ≤ s → s < hi → Span M P l lo hi (put_e M P new s a l es)
    put_span zero lo hi es p u v = ins_asc s a lo hi es p u v
    put_span (suc l) lo hi es p u v =
        at_seg (Cell M P (suc l)) (Cell M P (suc l)) s (kid new s (put_e M P new s a l)) (λ k m x h. h)
        (λ k m t c x y. at_seg (Fit l 7 14) (Cell M P (suc l)) s (touch new (put_e M P new s a l)) (λ i j z h. (h.0, h.1, omega arith))
        (λ i j z h b d. (refl, (j, (put_span l i j z.1 h.0 b d, omega (arith, put_length l z.1), omega (arith, put_length l z.1)), refl)))
        k m (opened new k t) (opened_seg l new k m t c) x y)
        lo hi es p u v

    pub put_rows : (l lo hi : ℕ) (es : List (ℕ × Pay M P l)) → Enough l (length es) → Span M P l lo hi es → lo ≤ s → s < hi → flat (Rows M P l) (put_e M P new s a l es) ≡ ins s a (flat (Rows M P l) es)
    put_rows zero lo hi es n p u v = flat_id (ins s a es) ∙ ap (ins s a) (sym (flat_id es))
    put_rows (suc l) lo hi es n p u v =
        at_rows (Cell M P (suc l)) (Rows M P (suc l)) s (ins s a) (ins_left s a) (ins_right s a) (cell_asc (suc l)) (kid new s (put_e M P new s a l))
        (λ k m t c x y.
        at_rows (Fit l 7 14) (Rows M P (suc l)) s (ins s a) (ins_left s a) (ins_right s a) (λ i j z h. span_asc l i j z.1 h.0) (touch new (put_e M P new s a l))
        (λ i j z h b d. append-nil (flat (Rows M P l) (put_e M P new s a l z.1)) ∙ put_rows l i j z.1 (enough l (length z.1) (omega arith)) h.0 b d)
        k m (opened new k t) (omega (arith, opened_length l new k t)) (opened_seg l new k m t c) x y
        ∙ ap (ins s a) (opened_rows l new k t))
        lo hi es (omega arith) p u v

  pub raise_wf : (new : M) (r : Root M P) → Wf M P r.0 r.1 → Wf M P (raise M P new r).0 (raise M P new r).1 × (length (raise M P new r).1.1 ≤ 14)
  raise_wf new r w =
      cond_both (eqb (length r.1.1) 15) _ _ (λ (z : Root M P). Wf M P z.0 z.1 × (length z.1.1 ≤ 14))
      (λ e. let q = eqb-true (length r.1.1) 15 e in (
        (
          seg_weak ◌≡◌ (Fit r.0 7 14) (Cell M P (suc r.0)) (λ k m x h. (h.0, h.1, omega arith)) 0 10000 (parts new 7 0 r.1.1)
              (parts_seg r.0 new 7 14 7 0 10000 r.1.1 (omega arith) (omega arith) (omega arith) (omega arith) (omega arith) w.0),
          omega arith,
          omega arith,
        ),
        omega arith,
      ))
      (λ e. let q = eqb-false (length r.1.1) 15 e in (w, omega arith))

  pub raise_rows : (new : M) (r : Root M P) → rows M P (raise M P new r).0 (raise M P new r).1 ≡ rows M P r.0 r.1
  raise_rows new r =
      cond_both (eqb (length r.1.1) 15) _ _ (λ (z : Root M P). rows M P z.0 z.1 ≡ rows M P r.0 r.1)
      (λ e. parts_rows r.0 new 7 0 r.1.1) (λ e. refl)

  pub enough_more : (l a b : ℕ) → a ≤ b → Enough l a → Enough l b
  enough_more zero a b h p = tt
  enough_more (suc l) a b h p = omega arith

pub put_sound : (M P : Type 0) → PutSound M P
put_sound M P new s a r h w =
    let q = raise M P new r in
    let v = raise_wf M P new r w in
    let n = put_length M P new s a q.0 q.1.1 in (
      (put_span M P new s a q.0 0 10000 q.1.1 v.0.0 (omega arith) h, enough_more M P q.0 _ _ n.0 v.0.1, omega (arith, v.1, n.1)),
      put_rows M P new s a q.0 0 10000 q.1.1 v.0.1 v.0.0 (omega arith) h ∙ ap (ins s a) (raise_rows M P new r),
    )

-- the rows that a tree has at least
least : ℕ → ℕ
least zero = 1
least (suc l) = 7 * least l

cell_least : (M P : Type 0) (l k m : ℕ) (x : Pay M P l) → Cell M P l k m x → least l ≤ length (Rows M P l k x)
unfolding least
cell_least M P zero k m x p = omega arith
cell_least M P (suc l) k m t p =
    le_trans (mul-le-mul_right (least l) p.1) (flat_least (Gap l) (Cell M P l) (Rows M P l) (least l) (cell_least M P l) k m t.1 p.0)

least_pos : (l : ℕ) → 1 ≤ least l
unfolding least
least_pos zero = omega arith
least_pos (suc l) = omega (arith, least_pos l)

least_root : (M P : Type 0) (l : ℕ) (t : Tree M P (suc l)) → Wf M P (suc l) t → 2 * least (suc l) ≤ 10000
least_root M P l t w =
    le_trans (le_trans (mul-le-mul_right (least (suc l)) w.1)
    (flat_least (Gap (suc l)) (Cell M P (suc l)) (Rows M P (suc l)) (least (suc l)) (cell_least M P (suc l)) 0 10000 t.1 w.0))
    (omega (arith, asc_length 0 10000 (rows M P (suc l) t) (span_asc M P (suc l) 0 10000 t.1 w.0)))

pub five_high : (M P : Type 0) → FiveHigh M P
unfolding least
five_high M P zero t w = omega arith
five_high M P (suc zero) t w = omega arith
five_high M P (suc (suc zero)) t w = omega arith
five_high M P (suc (suc (suc zero))) t w = omega arith
five_high M P (suc (suc (suc (suc zero)))) t w = omega arith
five_high M P (suc (suc (suc (suc (suc l))))) t w = absurd (omega (arith, least_pos l, least_root M P (suc (suc (suc (suc l)))) t w))
