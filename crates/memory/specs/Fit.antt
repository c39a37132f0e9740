-- What the device in memory keeps makes its meaning lawful.
use Rattle.std.specs.Prelude.{◌≡◌, ℕ, ◌*◌, ◌<◌, List, length, drop}
use Rattle.std.proofs.Common.{sym, ap, subst, arith}
use Rattle.std.proofs.lemmas.List.{length-take-le, length-drop}
use Rattle.std.proofs.ByRecursion.{All-take, All-drop}
use Rattle.std.proofs.lemmas.List.FromFn.{length-map-range_with_len}
use Rattle.device.specs.Meaning.{Limits, LawfulCell, Lawful, words}
use Rattle.device.proofs.Tables.{all_table, rows}
use Rattle.memory.specs.Memory.{memory, Parts, Sound, block_of, cell_of}

module _ (xs : List ℕ) (w n : ℕ) (long : length xs ≡ n * w) where
  pub block_length : (b : ℕ) → b < n → length (block_of w xs b) ≡ w
  block_length b h = length-take-le w (drop (b * w) xs) (simp length-drop (omega (arith, rows b n w h)))

module _ (p : Parts) (s : Sound p) where
  pub fit : Lawful (memory p)
  fit =
      let h = s.shaped in
      record {
        limits = subst (λ n. Limits n p.width) (sym (length-map-range_with_len (cell_of p) 0 (length p.marks))) h.limits;
        cells = all_table (LawfulCell p.width) (cell_of p) (length p.marks) (λ k k<. record {
          persisted = (block_length p.persisted p.width (length p.marks) h.per_len k k<, All-take _ p.width _ (All-drop _ (k * p.width) p.persisted s.per_fit));
          current = (block_length p.current p.width (length p.marks) h.cur_len k k<, All-take _ p.width _ (All-drop _ (k * p.width) p.current s.cur_fit));
          mark = s.counts k k<;
          clean = λ e. ap words (s.clean k k< e);
        });
        left = omega arith;
        left_mark = omega arith;
      }
