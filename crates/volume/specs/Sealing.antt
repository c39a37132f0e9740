-- Sealing, and the next generation.
use Rattle.std.specs.Prelude.{ℕ, ◌<◌, ◌≤◌, List, [], ◌∷◌, Some, None, Option}
use Rattle.device.specs.Meaning.{Meaning}
use Rattle.page.specs.Slot.{Root, Table}
use Rattle.model.specs.World.{Tables}

-- the block of a place's root, if it has one
abbrev pub root_in : Option Root → List ℕ
root_in None = []
root_in (Some r) = r.1 ∷ []

-- what seal asks: a write is left, and a generation follows
abbrev pub Sealable : Tables × Meaning → Type 0
Sealable v = (1 ≤ v.1.left) × (v.0.generation < 268435455)

-- the tables with other committed places
abbrev pub with_committed : Tables → Table → Tables
with_committed t x = record { working = t.working; committed = x; generation = t.generation }
