-- Words that are read as a tree block.
use Rattle.std.specs.Prelude.{◌≡◌, ℕ, ◌≤◌, ◌/◌, ◌%◌, List, length, slice_index}
use Rattle.word.specs.Words.{payload_of}

-- forty words, the first of which says few entries and a low level
pub record Readable (ws : List ℕ) : Type 0 where
  pub wide : length ws ≡ 40
  pub few : slice_index ws 0 % 256 ≤ 15
  pub low : payload_of (slice_index ws 0) / 256 ≤ 4
