-- What cuts of the power leave of a quota.
use Rattle.std.specs.Prelude.{ℕ, ◌<◌, List}
use Rattle.device.specs.Meaning.{Meaning, Cut, Lawful, written, flushed}
use Rattle.quota.specs.Limited.{limited}

-- A cut left p below, and the quota of n that is built anew over it shows v. Before, m lay below.
pub record CutsKept (n : ℕ) (p v : Meaning) : Type 0 where
  -- between two calls, v is a cut of what the layer showed
  pub between : (m : Meaning) → Cut m p → Cut (limited n m) v
  -- inside a write, with the block below written, of what it would have shown after the write
  pub in_write : (m : Meaning) (b : ℕ) (ws : List ℕ) → b < n → Cut (written m b ws) p → Cut (written (limited n m) b ws) v
  -- inside a flush, with the device below flushed, of what it showed before the flush
  pub in_flush : (m : Meaning) → Lawful m → Cut (flushed m) p → Cut (limited n m) v
