-- The blocks of a grant, and when there is one.
use Rattle.std.specs.Prelude.{ℕ, cond, List, length, take, Some, None, Option, nat_le}
use Rattle.counts.specs.Counts.{free_blocks}

-- the n lowest free blocks, if there are so many
abbrev pub lowest_free : ℕ → List ℕ → Option (List ℕ)
lowest_free n cs = cond (nat_le n (length (free_blocks cs))) (Some (take n (free_blocks cs))) None
