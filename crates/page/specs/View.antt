-- What pages and slots in memory stand for.
use Rattle.std.specs.Prelude.{ℕ, List, map, Some, None, Option}
use Rattle.page.specs.InUse.{in_use}
use Rattle.page.specs.Block.{Block}
use Rattle.page.specs.Slot.{Table}
use Rattle.page.specs.Slot as slots
use Rattle.page.specs.declared.page.Entry.{Entry}
use Rattle.page.specs.declared.page.Page.{Page}
use Rattle.page.specs.declared.roots.Root.{Root}
use Rattle.page.specs.declared.roots.Slot.{Slot}

-- an entry as a pair of speed and payload
abbrev pub pair : Entry → ℕ × ℕ
pair e = (e.speed, e.value)

-- the entries of a page
abbrev pub entries : Page → List (ℕ × ℕ)
entries p = map pair (in_use p.entries)

-- the tree block that a page stands for
abbrev pub view : Page → Block
view p = record { level = p.level; entries = entries p }

-- a root as a pair of height and block
abbrev pub root_pair : Root → slots.Root
root_pair r = (r.height, r.block)

-- the clone that a place of a slot stands for
abbrev pub root_of : Option Root → Option slots.Root
root_of None = None
root_of (Some r) = Some (root_pair r)

-- the generation and table that a slot stands for
abbrev pub slot_of : Slot → ℕ × Table
slot_of s = (s.generation, map root_of s.places)
