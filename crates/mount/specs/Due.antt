-- What the walk expects at a block, and what it answers there.
use Rattle.std.specs.Prelude.{◌≡◌, ℕ, ◌≤◌, Some, None, Ok, Err, Option, Result}
use Rattle.device.specs.Numbers.{fault_mark}
use Rattle.device.specs.Meaning.{Meaning, blocks_of, current_at}
use Rattle.page.specs.Block.{Block, block_at}
use Rattle.page.specs.Io.{Wide}
use Rattle.model.specs.declared.refusal.Refusal.{Refusal}
use Rattle.model.specs.declared.refusal.Refusal.TheVariants.{Damaged}
use Rattle.model.specs.Walk.{Fault, in_content, fault_at}
use Rattle.model.specs.World.{faulty}
use Rattle.mount.specs.declared.walk.Due.{Due}
use Rattle.mount.specs.declared.walk.Met.{Met}

-- a device that a volume fits on
pub record Usable (m : Meaning) : Type 0 where
  pub many : 16 ≤ blocks_of m
  pub few : blocks_of m ≤ 4096
  pub wide : Wide m

-- the fault of the block itself
abbrev pub own_fault : Meaning → Due → Option Fault
own_fault m d = in_content (blocks_of m) d.least d.level d.low d.high d.block (λ es. None) (current_at m d.block)

-- the first fault at the block or below
abbrev pub first_fault : Meaning → Due → Option Fault
first_fault m d = fault_at (blocks_of m) (current_at m) d.least d.level d.low d.high d.block

-- no fault, or the refusal that a fault of this clone is
abbrev pub passes : ℕ → Option Fault → Result Unit Refusal
passes k None = Ok tt
passes k (Some f) = Err (faulty (k, f))

-- the refusal that a device's fault is, with its block and clone
abbrev pub refusal_of : Met → Refusal
refusal_of f = Damaged f.block f.clone (fault_mark f.fault)

-- the tree block that was read where it is due
pub record Loaded (m : Meaning) (d : Due) (b : Block) : Type 0 where
  pub fine : own_fault m d ≡ None
  pub here : block_at m d.block ≡ Some b
