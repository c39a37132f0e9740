-- What cuts of the power leave of a mirror.
use Rattle.std.specs.Prelude.{ℕ, ◌<◌, List}
use Rattle.device.specs.Meaning.{Meaning, Cut, Lawful, written, flushed, blocks_of}
use Rattle.mirror.specs.Mirrored.{mirrored, Alike}

-- A cut left the sides p and q, and the mirror that is built anew over them shows v. Before, the sides were m and n.
-- Inside a write or a flush of the mirror the first side has had it and the second has not.
pub record CutsKept (p q v : Meaning) : Type 0 where
  -- between two calls, v is a cut of what the mirror showed
  pub between : (m n : Meaning) → Alike m n → Cut m p → Cut n q → Cut (mirrored m n) v
  -- inside a write, of what it would have shown after the write
  pub in_write : (m n : Meaning) (b : ℕ) (ws : List ℕ) → Alike m n → Lawful m → Lawful n → b < blocks_of m
      → Cut (written m b ws) p → Cut n q → Cut (written (mirrored m n) b ws) v
  -- inside a flush, of what it showed before the flush
  pub in_flush : (m n : Meaning) → Alike m n → Lawful m → Lawful n → Cut (flushed m) p → Cut n q → Cut (mirrored m n) v
  -- inside the building that followed an earlier cut, with the first side flushed: the sides are cuts of what the earlier cut found, so the above holds of them
  pub in_build : (m n p' q' : Meaning) → Cut m p' → Cut n q' → Cut (flushed p') p → Cut q' q → Cut m p × Cut n q
