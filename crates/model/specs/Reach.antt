-- What the places reach, block by block; and the free blocks by the counts.
use Rattle.std.specs.Prelude.{◌≡◌, ℕ, T, List, [], ◌∷◌, ◌++◌, length, Some, None}
use Rattle.device.specs.Meaning.{Meaning, blocks_of}
use Rattle.page.specs.Block.{block_at}
use Rattle.page.specs.Slot.{Table}
use Rattle.counts.specs.Counts.{occ, Counted, Reached, free_blocks}
use Rattle.model.specs.TreeBlocks.{elem, GoodOn, AllGood}
use Rattle.model.specs.Model.{used, free}
use Rattle.model.specs.World.{Tables, shape}

abbrev pub roots_of : Table → List ℕ
roots_of [] = []
roots_of (None ∷ t) = roots_of t
roots_of (Some r ∷ t) = r.1 ∷ roots_of t

-- how many working and committed places have b as root
abbrev pub rootings : Tables → ℕ → ℕ
rootings t b = occ b (roots_of t.working ++ roots_of t.committed)

-- both tables stand on the device
abbrev pub Standing : Tables → Meaning → Type 0
Standing t m = AllGood (GoodOn m) t.working × AllGood (GoodOn m) t.committed

-- the blocks in use are those that the places reach
abbrev pub UseIsReach : Type 0
UseIsReach = (t : Tables) (m : Meaning) → Standing t m → (b : ℕ) →
    (Reached (block_at m) (rootings t) b → T (elem b (used (shape t m)))) × (T (elem b (used (shape t m))) → Reached (block_at m) (rootings t) b)

-- where each block's count is the number of its parents, the free blocks are those of count 0
abbrev pub FreeByCounts : Type 0
FreeByCounts = (t : Tables) (m : Meaning) (cs : List ℕ) → Standing t m → Counted (block_at m) cs (rootings t) → length cs ≡ blocks_of m → free (shape t m) ≡ free_blocks cs
