-- The counts that mount makes, clone by clone.
use Rattle.std.specs.Prelude.{◌≡◌, ℕ, ◌+◌, ◌<◌, ◌≤◌, List, length, Some, None, Ok, Err, Option, Result, slice_index}
use Rattle.device.specs.Meaning.{Meaning, blocks_of, current_at}
use Rattle.page.specs.Block.{block_at}
use Rattle.page.specs.Slot.{Root, Table}
use Rattle.counts.specs.Counts.{occ}
use Rattle.counts.specs.Keeping.{retained}
use Rattle.counts.specs.Moves.{State}
use Rattle.model.specs.declared.refusal.Refusal.{Refusal}
use Rattle.model.specs.TreeBlocks.{top_level}
use Rattle.model.specs.Walk.{Fault, least, fault_of, walk}
use Rattle.model.specs.World.{faulty}
use Rattle.mount.specs.declared.walk.Due.{Due}
use Rattle.mount.specs.Due.{passes}
use Rattle.mount.specs.Tally.{Owing, Fine, tallied}

-- what is due at a root of clone k
abbrev pub root_due : ℕ → Root → Due
root_due k r = record { clone = k; block = r.1; level = top_level r.0; low = 0; high = 10000; least = least (top_level r.0) }

-- the walk of one clone
abbrev pub place_walk : Meaning → ℕ → Option Root → Result Unit Refusal
place_walk m k None = Ok tt
place_walk m k (Some r) = passes k (fault_of (blocks_of m) (current_at m) r)

-- no fault, or the refusal that a clone's fault is
abbrev pub verdict : Option (ℕ × Fault) → Result Unit Refusal
verdict None = Ok tt
verdict (Some f) = Err (faulty f)

-- the walk of the clones from number k on
abbrev pub table_walk : Meaning → ℕ → Table → Result Unit Refusal
table_walk m k t = verdict (walk (blocks_of m) (current_at m) k t)

-- a root is counted twice: for the working and for the committed place
abbrev pub count_at : Meaning → Option Root → List ℕ → List ℕ
count_at m None cs = cs
count_at m (Some r) cs = retained r.1 (tallied m (top_level r.0) r.1 cs)

-- each block has a count, and the counts are right for these roots, each twice
pub record Counting (q : State) (roots : List ℕ) : Type 0 where
  pub long : length q.1 ≡ blocks_of q.0
  pub owing : Owing (block_at q.0) q.1 (λ b. occ b roots + occ b roots) (λ b. 0)
  pub fine : (x : ℕ) → 0 < slice_index q.1 x → Fine (block_at q.0) x

-- .. and there is room for one more
pub record Ready (q : State) : Type 0 where
  pub roots : List ℕ
  pub counting : Counting q roots
  pub few : length roots ≤ 23
