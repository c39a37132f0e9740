-- A cut below the check layer is a cut of it.
use Rattle.std.proofs.Common.{◌-◌, ◌<◌, ◌≤◌, map, get_or, sym, ap, ◌∙◌, subst, arith}
use Rattle.std.proofs.lemmas.List.{length-map, get_or-map}
use Rattle.device.specs.Meaning.{Meaning, Cut, CutCell, written, flushed, no_cell, blocks_of, cell_at}
use Rattle.device.proofs.Cuts.{cut_flushed, cut_unflushed}
use Rattle.device.proofs.Mapped.{mapped_cut}
use Rattle.check_layer.specs.Cuts.{CutsKept}
use Rattle.check_layer.proofs.Follows.{checked_written}
use Rattle.check_layer.specs.Checked.{checked, with_check, checked_cell, checked_content, held_checked}

checked_cut : (m n : Meaning) → 1 ≤ n.width → Cut m n → Cut (checked m) (checked n)
checked_cut m n big k = record {
  width = ap (λ w. w - 1) k.width;
  blocks = length-map n.cells (checked_cell (n.width - 1)) ∙ k.blocks ∙ sym (length-map m.cells (checked_cell (m.width - 1)));
  cells = λ b h.
      let h₁ : b < blocks_of m = omega (arith, length-map m.cells (checked_cell (m.width - 1))) in
      let h₂ : b < blocks_of n = omega (arith, k.blocks) in
      let c = cell_at m b in
      let d = cell_at n b in
      subst (λ x. CutCell (m.width - 1) x (get_or (map (checked_cell (n.width - 1)) n.cells) b no_cell)) (sym (get_or-map (checked_cell (m.width - 1)) m.cells b no_cell no_cell h₁))
      (subst (CutCell (m.width - 1) (checked_cell (m.width - 1) c)) (sym (get_or-map (checked_cell (n.width - 1)) n.cells b no_cell no_cell h₂))
      (subst (λ w. CutCell (m.width - 1) (checked_cell (m.width - 1) c) (checked_cell (w - 1) d)) (sym k.width)
      (mapped_cut (checked_content (m.width - 1)) m.width (m.width - 1) (held_checked m.width (omega (arith, k.width))) c d (k.cells b h₁))));
  left = k.left;
  left_mark = omega arith;
}

-- the layer that is built anew: it flushes what a cut has left, which changes nothing
pub built_cut : (p : Meaning) → 2 ≤ p.width → CutsKept p (checked (flushed p))
built_cut p big = record {
  between = between;
  in_write = λ m b ws h e k. subst (λ x. Cut x (checked (flushed p))) (checked_written m b ws h (omega (arith, e))) (between (written m b (with_check ws)) k);
  in_flush = λ m l k. between m (cut_unflushed m p l k);
}
  where
    between : (m : Meaning) → Cut m p → Cut (checked m) (checked (flushed p))
    between m k = subst (λ x. Cut (checked m) (checked x)) (sym (cut_flushed m p k)) (checked_cut m p (omega (arith, big)) k)
