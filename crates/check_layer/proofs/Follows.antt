-- How the check layer's meaning follows the meaning below it.
use Rattle.std.proofs.Common.{◌≡◌, ℕ, ◌-◌, ◌<◌, List, [], ◌∷◌, map, length, set, Ok, Err, Result, sym, refl, ap, ◌∙◌, arith}
use Rattle.std.proofs.lemmas.List.{length-map, map-set, get_or-map, take_at, get_or_at}
use Rattle.std.proofs.lemmas.Bool.{eq-eqb}
use Rattle.device.specs.declared.DeviceFault.{DeviceFault}
use Rattle.device.specs.Meaning.{Meaning, Shown, count_of, shown_of, Cell, words, raised, flushed, written, written_cell, no_cell, spent, blocks_of, passed, after_write, cell_at}
use Rattle.device.specs.Showing.{count_shown}
use Rattle.device.proofs.Mapped.{mapped_flush}
use Rattle.check_layer.specs.Checked.{checked, checked_shown, checked_cell, checked_content, check_of, with_check}

-- after a flush below
pub checked_flushed : (m : Meaning) → checked (flushed m) ≡ flushed (checked m)
checked_flushed m = ap with_cells (mapped_flush (checked_content (m.width - 1)) m.cells)
  where
    with_cells : List Cell → Meaning
    with_cells cs = record { width = m.width - 1; cells = cs; left = m.left; left_mark = raised m.left_mark }

-- words with their check show as those words
pub content_written : (w : ℕ) (ws : List ℕ) → length ws ≡ w → checked_content w (words (with_check ws)) ≡ words ws
content_written w ws e = rw (get_or_at ws (check_of ws) [] 0 w e, take_at ws (check_of ws ∷ []) w e, eq-eqb (check_of ws) (check_of ws) refl)

-- what the calls answer at a block that is there, by the block below
module _ (m : Meaning) (b n : ℕ) (h : b < blocks_of m) (e : n ≡ m.width - 1) where
  pub cell_checked : cell_at (checked m) b ≡ checked_cell (m.width - 1) (cell_at m b)
  cell_checked = get_or-map (checked_cell (m.width - 1)) m.cells b no_cell no_cell h

-- after a write below
pub after_passed : (r : Result Unit DeviceFault) (m : Meaning) (b : ℕ) (ws : List ℕ) → after_write r m b ws ≡ after_write (passed r) m b ws
after_passed (Ok u) m b ws = refl
after_passed (Err e) m b ws = refl

module _ (m : Meaning) (b : ℕ) (ws : List ℕ) (h : b < blocks_of m) (e : length ws ≡ m.width - 1) where
  pub checked_written : checked (written m b (with_check ws)) ≡ written (checked m) b ws
  checked_written =
      ap with_cells
      (map-set f m.cells b (written_cell (with_check ws) (cell_at m b))
      ∙ ap (set (map f m.cells) b) (cell ∙ sym (ap (written_cell ws) (cell_checked m b (length ws) h e))))
    where
      f : Cell → Cell
      f = checked_cell (m.width - 1)

      with_cells : List Cell → Meaning
      with_cells cs = record { width = m.width - 1; cells = cs; left = spent m.left; left_mark = raised m.left_mark }

      cell : f (written_cell (with_check ws) (cell_at m b)) ≡ written_cell ws (f (cell_at m b))
      cell = let p = content_written (m.width - 1) ws e in cc

  pub checked_after : (r : Result Unit DeviceFault) → checked (after_write r m b (with_check ws)) ≡ after_write r (checked m) b ws
  checked_after (Ok u) = checked_written
  checked_after (Err f) = refl

-- the same, where what is shown below is known
pub shown_after : (s : Shown) (m : Meaning) → s ≡ shown_of m → (b : ℕ) (ws : List ℕ) → b < count_of (checked_shown s) → length ws ≡ s.width - 1
    → (r : Result Unit DeviceFault) → checked (after_write r m b (with_check ws)) ≡ after_write r (checked m) b ws
shown_after s m q b ws h e =
    checked_after m b ws
    (omega (arith, length-map s.contents (checked_content (s.width - 1)), ap count_of q, count_shown m))
    (e ∙ ap (λ (x : Shown). x.width - 1) q)
