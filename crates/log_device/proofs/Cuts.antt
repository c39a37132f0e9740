-- Opening after a cut shows a cut of what was shown before.
use Rattle.std.proofs.Common.{◌≡◌, ℕ, zero, suc, ◌+◌, ◌*◌, ◌<◌, ◌≤◌, min, ◌⊎◌, List, [], length, get_or, take, drop, replicate, sym, refl, ap, ◌∙◌, subst, inl, inr, ⊎_elim, arith}
use Rattle.std.proofs.lemmas.List.{get_or-take, get_or-drop, take-take, drop-take, drop-drop, take_all, drop_all}
use Rattle.std.proofs.lemmas.List.FromFn.{length-map-range_with_len, take-map-range_with_len}
use Rattle.device.specs.Meaning.{Cell, Content, words, LawfulCell, Cut, CutCell, CutTo, no_cell, Held}
use Rattle.device.proofs.Tables.{get_or_table, same_table, rows}
use Rattle.word.specs.Words.{kind_of, payload_of}
use Rattle.log_device.specs.Log.{last_of, count_of, log_cell, record_at, records, flushed_in, capacity, log_of, opened_log, Sound, Formed, Shaped, Leaves, Outlasts, place_of, IsRecord}
use Rattle.log_device.specs.Fit.{cell_fit}
use Rattle.log_device.proofs.Facts.{kind_word, payload_word, same_record, fits_in}

-- a cut may leave either content of a block
either : (w m : ℕ) (c : Cell) (x : Content) → c.mark ≡ m → LawfulCell w c → (x ≡ c.persisted) ⊎ (x ≡ c.current) → CutTo w m c x
either w zero c x e l (inl p) = p ∙ l.clean e
either w zero c x e l (inr p) = p
either w (suc zero) c x e l p = p
either w (suc (suc m)) c x e l (inl p) = subst (λ y. Held w y) (sym p) l.persisted
either w (suc (suc m)) c x e l (inr p) = subst (λ y. Held w y) (sym p) l.current

module _ (img left : List ℕ) (n w k : ℕ) (s : Sound img n w k) (l : Leaves w k img left) where
  -- the head counts the records flushed last, or all
  heads : (flushed_in left ≡ flushed_in img) ⊎ (flushed_in left ≡ k)
  heads = ⊎_elim (λ e. inl (ap payload_of e)) (λ e. inr (ap payload_of e ∙ payload_word 8 k (omega (arith, s.small)))) l.head

  head_kind : kind_of (get_or left 0 0) ≡ 8
  head_kind = ⊎_elim (λ e. ap kind_of e ∙ s.head) (λ e. ap kind_of e ∙ kind_word 8 k (omega (arith, s.small))) l.head

  few : flushed_in left ≤ k
  few = ⊎_elim (λ e. omega (arith, s.flushed)) (λ e. omega arith) heads

  word_kept : (i : ℕ) → i < flushed_in left → get_or left (place_of w i) 0 ≡ get_or img (place_of w i) 0
  word_kept i h =
      let low : i * (w + 1) < flushed_in left * (w + 1) = omega (arith, rows i (flushed_in left) (w + 1) h) in
      sym (get_or-drop 1 left (i * (w + 1)) 0)
      ∙ sym (get_or-take (flushed_in left * (w + 1)) (drop 1 left) (i * (w + 1)) 0 low)
      ∙ ap (λ xs. get_or xs (i * (w + 1)) 0) l.kept
      ∙ get_or-take (flushed_in left * (w + 1)) (drop 1 img) (i * (w + 1)) 0 low
      ∙ get_or-drop 1 img (i * (w + 1)) 0

  part_kept : (xs ys : List ℕ) (m a : ℕ) → take m xs ≡ take m ys → a + w ≤ m → take w (drop a xs) ≡ take w (drop a ys)
  part_kept xs ys m a e h =
      sym (drop-take a w xs) ∙ ap (drop a) (sym (take-take (a + w) m xs h) ∙ ap (take (a + w)) e ∙ take-take (a + w) m ys h) ∙ drop-take a w ys

  record_kept : (i : ℕ) → i < flushed_in left → record_at w left i ≡ record_at w img i
  record_kept i h =
      same_record w img left i (word_kept i h)
      (ap (λ j. take w (drop j left)) (omega arith) ∙ ap (take w) (sym (drop-drop (i * (w + 1) + 1) 1 left))
      ∙ part_kept (drop 1 left) (drop 1 img) (flushed_in left * (w + 1)) (i * (w + 1) + 1) l.kept (omega (arith, rows i (flushed_in left) (w + 1) h))
      ∙ ap (take w) (drop-drop (i * (w + 1) + 1) 1 img) ∙ ap (λ j. take w (drop j img)) (omega arith))

  -- the records that are kept are the first ones
  kept : records w left (flushed_in left) ≡ take (flushed_in left) (records w img k)
  kept = same_table (record_at w img) (record_at w left) (flushed_in left) record_kept ∙ sym (take-map-range_with_len (record_at w img) 0 k (flushed_in left) few)

  shown : (b : ℕ) → (words (last_of (records w left (flushed_in left)) b (replicate w 0)) ≡ (log_cell w (records w img k) (flushed_in img) b).persisted)
      ⊎ (words (last_of (records w left (flushed_in left)) b (replicate w 0)) ≡ (log_cell w (records w img k) (flushed_in img) b).current)
  shown b = ⊎_elim
      (λ e. inl (ap (λ rs. words (last_of rs b (replicate w 0))) (kept ∙ ap (λ j. take j (records w img k)) e)))
      (λ e. inr (ap (λ rs. words (last_of rs b (replicate w 0))) (kept ∙ take_all (flushed_in left) (records w img k) (omega (arith, length-map-range_with_len (record_at w img) 0 k)))))
      heads

  cell : (b : ℕ) → CutCell w (log_cell w (records w img k) (flushed_in img) b) (log_cell w (records w left (flushed_in left)) (flushed_in left) b)
  cell b =
      let long : length (records w left (flushed_in left)) ≡ flushed_in left = length-map-range_with_len (record_at w left) 0 (flushed_in left) in
      let none : drop (flushed_in left) (records w left (flushed_in left)) ≡ [] = drop_all (flushed_in left) (records w left (flushed_in left)) (omega (arith, long)) in
      let all : take (flushed_in left) (records w left (flushed_in left)) ≡ records w left (flushed_in left) = take_all (flushed_in left) (records w left (flushed_in left)) (omega (arith, long)) in
      record {
        mark = ap (λ rs. min (count_of rs b) 2) none;
        equal = ap (λ rs. words (last_of rs b (replicate w 0))) all;
        from = either w (log_cell w (records w img k) (flushed_in img) b).mark (log_cell w (records w img k) (flushed_in img) b) _ refl (cell_fit img n w k s b) (shown b);
      }

  pub cut_opened : Cut (log_of img n w k) (opened_log left n w)
  cut_opened = record {
    width = refl;
    blocks = length-map-range_with_len (log_cell w (records w left (flushed_in left)) (flushed_in left)) 0 n ∙ sym (length-map-range_with_len (log_cell w (records w img k) (flushed_in img)) 0 n);
    cells = λ b h.
        let h₁ : b < n = omega (arith, length-map-range_with_len (log_cell w (records w img k) (flushed_in img)) 0 n) in
        subst (λ c. CutCell w c (get_or (opened_log left n w).cells b no_cell)) (sym (get_or_table (log_cell w (records w img k) (flushed_in img)) n b no_cell h₁))
        (subst (CutCell w (log_cell w (records w img k) (flushed_in img) b))
        (sym (get_or_table (log_cell w (records w left (flushed_in left)) (flushed_in left)) n b no_cell h₁)) (cell b));
    left = omega arith;
    left_mark = omega arith;
  }

  pub formed : Formed left n w
  formed = record {
    head = head_kind;
    within = omega (arith, few, fits_in k w (length img) s.room s.small, ap (λ j. capacity j w) l.same_length);
    kinds = λ i h. subst (IsRecord n) (sym (word_kept i h)) (s.kinds i (omega (arith, few)));
  }

  pub shaped : Shaped (length left) n w
  shaped = record { long = omega (arith, l.same_length, s.room); limits = s.limits }

pub outlasts : (left : List ℕ) (n w : ℕ) → Outlasts left n w
outlasts left n w img k s l = (shaped img left n w k s l, formed img left n w k s l, cut_opened img left n w k s l)
