-- The tree that a root has on a device.
use Rattle.std.specs.Prelude.{ℕ, List, ℤ}
use Rattle.device.specs.Meaning.{Meaning}
use Rattle.page.specs.Slot.{Root}
use Rattle.model.specs.TreeBlocks.{rows_of, tree_on}

-- its rows: speeds and angles, ascending
abbrev pub rows_on : Meaning → Root → List (ℕ × ℤ)
rows_on m r = rows_of (tree_on m r)
