-- What a cut leaves, by the mark; what it leaves is flushed already; and cuts before and after a call.
use Rattle.std.proofs.Common.{◌≡◌, ℕ, zero, suc, min, ◌+◌, ◌<◌, ◌≤◌, ◌⊎◌, List, map, get_or, sym, refl, ap, ◌∙◌, subst, inl, inr, ⊎_elim, arith}
use Rattle.std.proofs.lemmas.Bool.{cases_eq}
use Rattle.std.proofs.lemmas.List.{same_lists, length-map, length-set, get_or-map, get_or_default}
use Rattle.std.proofs.ByRecursion.{All-get_or}
use Rattle.device.specs.Meaning.{Meaning, Cell, Content, Held, Lawful, LawfulCell, Cut, CutCell, CutTo, cell_at, flushed, flushed_cell, written, written_cell, no_cell, blocks_of}
use Rattle.device.proofs.Choices.{flush_at, write_at, write_off}

-- what a cut leaves, by the mark k
pub clean : (w k : ℕ) (c : Cell) (x : Content) → CutTo w k c x → k ≡ 0 → x ≡ c.current
clean w zero c x t z = t
clean w (suc k) c x t z = absurd (omega (arith, z))

pub once : (w k : ℕ) (c : Cell) (x : Content) → CutTo w k c x → k ≡ 1 → (x ≡ c.persisted) ⊎ (x ≡ c.current)
once w zero c x t z = absurd (omega (arith, z))
once w (suc zero) c x t z = t
once w (suc (suc k)) c x t z = absurd (omega (arith, z))

pub often : (w k : ℕ) (c : Cell) (x : Content) → CutTo w k c x → 2 ≤ k → Held w x
often w zero c x t z = absurd (omega (arith, z))
often w (suc zero) c x t z = absurd (omega (arith, z))
often w (suc (suc k)) c x t z = t

pub any : (w k : ℕ) (c : Cell) (x : Content) → LawfulCell w c → CutTo w k c x → Held w x
any w zero c x l t = subst (Held w) (sym t) l.current
any w (suc zero) c x l t = ⊎_elim (λ e. subst (Held w) (sym e) l.persisted) (λ e. subst (Held w) (sym e) l.current) t
any w (suc (suc k)) c x l t = t

-- a cut of what a cut left
pub cut_again : (m n p : Meaning) → Cut m n → Cut n p → Cut m p
cut_again m n p k l = record {
  width = l.width ∙ k.width;
  blocks = l.blocks ∙ k.blocks;
  cells = λ b h.
      let c = k.cells b h in
      let d : CutCell m.width (cell_at n b) (cell_at p b) = subst (λ w. CutCell w (cell_at n b) (cell_at p b)) k.width (l.cells b (omega (arith, k.blocks))) in
      record {
        mark = d.mark;
        equal = d.equal;
        from = subst (CutTo m.width (cell_at m b).mark (cell_at m b)) (sym (clean m.width (cell_at n b).mark (cell_at n b) (cell_at p b).current d.from c.mark)) c.from;
      };
  left = l.left;
  left_mark = l.left_mark;
}

still : (w : ℕ) (c d : Cell) → CutCell w c d → flushed_cell d ≡ d
still w c d k = ap (λ x. make x 0) (sym k.equal) ∙ ap (make d.persisted) (sym k.mark)
  where
    make : Content → ℕ → Cell
    make x n = record { persisted = x; current = d.current; mark = n }

pub cut_flushed : (m n : Meaning) → Cut m n → flushed n ≡ n
cut_flushed m n k = ap (λ (cs : List Cell). with_cells cs)
    (same_lists _ _ (length-map n.cells flushed_cell)
    (λ b d h. let h' : b < blocks_of n = omega (arith, length-map n.cells flushed_cell) in
    get_or_default (map flushed_cell n.cells) b d no_cell h ∙ get_or-map flushed_cell n.cells b no_cell no_cell h'
    ∙ still m.width (get_or m.cells b no_cell) (get_or n.cells b no_cell) (k.cells b (omega (arith, k.blocks)))
    ∙ get_or_default n.cells b no_cell d h'))
  where
    with_cells : List Cell → Meaning
    with_cells cs = record { width = n.width; cells = cs; left = n.left; left_mark = n.left_mark }

-- A write that has not begun counts as done, and a flush that is done as not begun.
unbegun : (w k : ℕ) (ws : List ℕ) (c : Cell) (x : Content) → k ≡ c.mark → LawfulCell w c → CutTo w k c x → CutTo w (written_cell ws c).mark (written_cell ws c) x
unbegun w zero ws c x e l t =
    subst (λ n. CutTo w n (written_cell ws c) x) (ap (λ n. min (n + 1) 2) e) (inl (t ∙ sym (l.clean (sym e))))
unbegun w (suc k) ws c x e l t =
    let two : 2 ≡ min (c.mark + 1) 2 = omega (arith, e) in
    subst (λ n. CutTo w n (written_cell ws c) x) two (any w (suc k) c x l t)

pub cut_unwritten : (m n : Meaning) (b : ℕ) (ws : List ℕ) → Lawful m → Cut m n → Cut (written m b ws) n
cut_unwritten m n b ws l k =
    let e = length-set m.cells b (written_cell ws (cell_at m b)) in
    record {
      width = k.width;
      blocks = k.blocks ∙ sym e;
      cells = λ i h.
          let i< : i < blocks_of m = omega (arith, e) in
          let d = k.cells i i< in
          ⊎_elim
          (λ (z : i ≡ b).
          subst (λ c. CutCell m.width c (cell_at n i)) (sym (subst (λ j. cell_at (written m b ws) j ≡ written_cell ws (cell_at m j)) (sym z) (write_at m b ws (omega (arith, z)))))
          (record {
            mark = d.mark;
            equal = d.equal;
            from = unbegun m.width (cell_at m i).mark ws (cell_at m i) (cell_at n i).current refl (All-get_or (LawfulCell m.width) m.cells i no_cell i< l.cells) d.from;
          }))
          (λ (ne : i ≡ b → ⊥). subst (λ c. CutCell m.width c (cell_at n i)) (sym (write_off m b i ws ne)) d)
          (cases_eq i b);
      left = k.left;
      left_mark = k.left_mark;
    }

-- what is flushed is a cut
settled : (w k : ℕ) (c : Cell) (x : Content) → LawfulCell w c → x ≡ c.current → CutTo w k c x
settled w zero c x l e = e
settled w (suc zero) c x l e = inr e
settled w (suc (suc n)) c x l e = subst (Held w) (sym e) l.current

pub cut_unflushed : (m n : Meaning) → Lawful m → Cut (flushed m) n → Cut m n
cut_unflushed m n l k =
    let e = length-map m.cells flushed_cell in
    record {
      width = k.width;
      blocks = k.blocks ∙ e;
      cells = λ i h.
          let d : CutCell m.width (flushed_cell (cell_at m i)) (cell_at n i) = subst (λ c. CutCell m.width c (cell_at n i)) (flush_at m i) (k.cells i (omega (arith, e))) in
          record {
            mark = d.mark;
            equal = d.equal;
            from = settled m.width (cell_at m i).mark (cell_at m i) (cell_at n i).current (All-get_or (LawfulCell m.width) m.cells i no_cell h l.cells)
                d.from;
          };
      left = k.left;
      left_mark = k.left_mark;
    }
