-- The moves keep the counts' equation, and the counts fit their type.
use Rattle.std.specs.Prelude.{◌≡◌, ℕ, ◌+◌, ◌<◌, ◌≤◌, List, length, Some, slice_index, slice_set}
use Rattle.device.specs.Meaning.{Meaning, blocks_of, written}
use Rattle.page.specs.Block.{Block, block_at, kids_of, level_of, encode, Layout}
use Rattle.counts.specs.Counts.{one, occ, Counted, opened}

-- the counts with one reference more to x
abbrev pub retained : ℕ → List ℕ → List ℕ
retained x cs = slice_set cs x (slice_index cs x + 1)

abbrev pub RetainKeeps : Type 0
RetainKeeps = (m : Meaning) (cs : List ℕ) (h : ℕ → ℕ) (x : ℕ) → 0 < slice_index cs x → Counted (block_at m) cs h → Counted (block_at m) (retained x cs) (λ b. one x b + h b)

-- a reference to x goes, references to its children come
abbrev pub OpenKeeps : Type 0
OpenKeeps = (m : Meaning) (cs : List ℕ) (h : ℕ → ℕ) (x : ℕ) → Counted (block_at m) cs (λ b. one x b + h b)
    → Counted (block_at m) (opened (kids_of (block_at m x)) x cs) (λ b. occ b (kids_of (block_at m x)) + h b)

-- n is written to the free block x: references to its children go, one to x comes
abbrev pub LinkKeeps : Type 0
LinkKeeps = (m : Meaning) (cs : List ℕ) (h : ℕ → ℕ) (x : ℕ) (n : Block) → Layout m.width n → x < blocks_of m → x < length cs → slice_index cs x ≡ 0
    → ((y : ℕ) → 0 < occ y (kids_of (Some n)) → level_of (block_at m y) + 1 ≡ n.level)
    → Counted (block_at m) cs (λ b. occ b (kids_of (Some n)) + h b) → Counted (block_at (written m x (encode m.width n))) (slice_set cs x 1) (λ b. one x b + h b)

-- on a device of at most 4,096 blocks, with at most 2,001 references to a block from outside, a count has 16 bits
abbrev pub CountsFit : Type 0
CountsFit = (m : Meaning) (cs : List ℕ) (h : ℕ → ℕ) (b : ℕ) → Counted (block_at m) cs h → h b ≤ 2001 → length cs ≤ 4096 → slice_index cs b ≤ 65000
