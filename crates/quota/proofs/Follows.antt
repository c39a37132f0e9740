-- How the quota layer's meaning follows the meaning below it.
use Rattle.std.proofs.Common.{◌≡◌, ℕ, zero, suc, ◌<◌, ◌≤◌, List, [], ◌∷◌, map, take, set, Ok, Err, Result, sym, refl, ap, ◌∙◌, arith}
use Rattle.std.proofs.lemmas.List.{map-set, get_or-map, get_or-take, take-map, length-take-le}
use Rattle.device.specs.declared.DeviceFault.{DeviceFault}
use Rattle.device.specs.Meaning.{Meaning, Cell, raised, flushed, flushed_cell, written, written_cell, no_cell, spent, blocks_of, passed, after_write, cell_at}
use Rattle.device.specs.Cuts.{written_ops}
use Rattle.device.proofs.Mapped.{mapped_flush}
use Rattle.quota.specs.Limited.{limited, raised_cell, raised_content}

-- after a flush below
pub limited_flushed : (n : ℕ) (m : Meaning) → limited n (flushed m) ≡ flushed (limited n m)
limited_flushed n m = ap with_cells (ap (map raised_cell) (take-map flushed_cell n m.cells) ∙ mapped_flush raised_content (take n m.cells))
  where
    with_cells : List Cell → Meaning
    with_cells cs = record { width = m.width; cells = cs; left = m.left; left_mark = raised m.left_mark }

-- after a write below
take_set : {X : Type 0} (n : ℕ) (xs : List X) (i : ℕ) (x : X) → take n (set xs i x) ≡ set (take n xs) i x
take_set zero [] i x = refl
take_set zero (y ∷ ys) i x = refl
take_set (suc n) [] i x = refl
take_set (suc n) (y ∷ ys) zero x = refl
take_set (suc n) (y ∷ ys) (suc i) x = ap (λ t. y ∷ t) (take_set n ys i x)

-- at a block within the limit
module _ (n : ℕ) (m : Meaning) (few : n ≤ blocks_of m) (b : ℕ) (h : b < n) where
  pub cell_limited : cell_at (limited n m) b ≡ raised_cell (cell_at m b)
  cell_limited =
      get_or-map raised_cell (take n m.cells) b no_cell no_cell (omega (arith, length-take-le n m.cells few))
      ∙ ap raised_cell (get_or-take n m.cells b no_cell h)

  pub limited_written : (ws : List ℕ) → limited n (written m b ws) ≡ written (limited n m) b ws
  limited_written ws =
      ap with_cells
      (ap (map raised_cell) (take_set n m.cells b (written_cell ws (cell_at m b)))
      ∙ map-set raised_cell (take n m.cells) b (written_cell ws (cell_at m b))
      ∙ ap (set (map raised_cell (take n m.cells)) b) (sym (ap (written_cell ws) cell_limited)))
    where
      with_cells : List Cell → Meaning
      with_cells cs = record { width = m.width; cells = cs; left = spent m.left; left_mark = raised m.left_mark }

  pub limited_after : (r : Result Unit DeviceFault) (ws : List ℕ) → limited n (after_write r m b ws) ≡ after_write (passed r) (limited n m) b ws
  limited_after (Ok u) ws = limited_written ws
  limited_after (Err e) ws = refl

pub passed_ops : (r : Result Unit DeviceFault) (b : ℕ) (ws : List ℕ) → written_ops (passed r) b ws ≡ written_ops r b ws
passed_ops (Ok u) b ws = refl
passed_ops (Err e) b ws = refl
