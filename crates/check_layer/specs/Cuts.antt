-- What cuts of the power leave of a check layer.
use Rattle.std.specs.Prelude.{◌≡◌, ℕ, ◌+◌, ◌<◌, List, length}
use Rattle.device.specs.Meaning.{Meaning, Cut, Lawful, written, flushed, blocks_of}
use Rattle.check_layer.specs.Checked.{checked, with_check}

-- A cut left p below, and the layer that is built anew over it shows v. Before, m lay below.
pub record CutsKept (p v : Meaning) : Type 0 where
  -- between two calls, v is a cut of what the layer showed
  pub between : (m : Meaning) → Cut m p → Cut (checked m) v
  -- inside a write, with the block below written, of what it would have shown after the write
  pub in_write : (m : Meaning) (b : ℕ) (ws : List ℕ) → b < blocks_of m → length ws + 1 ≡ m.width
      → Cut (written m b (with_check ws)) p → Cut (written (checked m) b ws) v
  -- inside a flush, with the device below flushed, of what it showed before the flush
  pub in_flush : (m : Meaning) → Lawful m → Cut (flushed m) p → Cut (checked m) v
