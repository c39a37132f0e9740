-- A cut below the quota layer is a cut of it.
use Rattle.std.proofs.Common.{ℕ, ◌<◌, ◌≤◌, sym, ◌∙◌, subst, arith}
use Rattle.std.proofs.lemmas.List.{length-set}
use Rattle.device.specs.Meaning.{Meaning, Cut, CutCell, written, written_cell, flushed, blocks_of, cell_at}
use Rattle.device.proofs.Cuts.{cut_flushed, cut_unflushed}
use Rattle.device.proofs.Mapped.{mapped_cut}
use Rattle.quota.specs.Cuts.{CutsKept}
use Rattle.quota.specs.Limited.{limited, raised_cell, raised_content, limited_blocks, held_raised}
use Rattle.quota.proofs.Follows.{cell_limited, limited_written}

limited_cut : (n : ℕ) (m p : Meaning) → n ≤ blocks_of p → Cut m p → Cut (limited n m) (limited n p)
limited_cut n m p few k =
    let few' : n ≤ blocks_of m = omega (arith, k.blocks) in
    record {
      width = k.width;
      blocks = limited_blocks n p few ∙ sym (limited_blocks n m few');
      cells = λ b h.
          let h' : b < n = omega (arith, limited_blocks n m few') in
          subst (λ x. CutCell m.width x (cell_at (limited n p) b)) (sym (cell_limited n m few' b h'))
          (subst (CutCell m.width (raised_cell (cell_at m b))) (sym (cell_limited n p few b h'))
          (mapped_cut raised_content m.width m.width (held_raised m.width) (cell_at m b) (cell_at p b) (k.cells b (omega arith))));
      left = k.left;
      left_mark = omega arith;
    }

-- the quota that is built anew: it flushes what a cut has left, which changes nothing
pub built_cut : (n : ℕ) (p : Meaning) → n ≤ blocks_of p → CutsKept n p (limited n (flushed p))
built_cut n p few = record {
  between = between;
  in_write = λ m b ws h k.
      let few' : n ≤ blocks_of m = omega (arith, few, k.blocks, length-set m.cells b (written_cell ws (cell_at m b))) in
      subst (λ x. Cut x (limited n (flushed p))) (limited_written n m few' b h ws) (between (written m b ws) k);
  in_flush = λ m l k. between m (cut_unflushed m p l k);
}
  where
    between : (m : Meaning) → Cut m p → Cut (limited n m) (limited n (flushed p))
    between m k = subst (λ x. Cut (limited n m) (limited n x)) (sym (cut_flushed m p k)) (limited_cut n m p few k)
