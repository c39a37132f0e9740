-- What the device in memory means, what it keeps, and what a cut of the power may leave of it.
use Rattle.std.specs.Prelude.{◌≡◌, ℕ, ◌*◌, ◌^◌, ◌<◌, ◌≤◌, List, map, length, take, drop, replicate, slice_index}
use Rattle.std.specs.List.{range_with_len, AllByRecursion}
use Rattle.device.specs.Meaning.{Meaning, Cell, Limits, words, own, endless, Cut, CutTo}
use Rattle.device.specs.declared.Layer.TheVariants.{Memory}
use Rattle.memory.specs.declared.Slices.{Slices}

-- the words and marks of a memory, and the width of its blocks
pub record Parts : Type 0 where
  pub current : List ℕ
  pub persisted : List ℕ
  pub marks : List ℕ
  pub width : ℕ

abbrev pub parts : List ℕ → List ℕ → List ℕ → ℕ → Parts
parts cur per marks w = record { current = cur; persisted = per; marks = marks; width = w }

-- what lent slices hold, for blocks of w words
abbrev pub parts_of : Slices → ℕ → Parts
parts_of s w = parts s.current.now s.persisted.now s.marks.now w

-- block b of a slice of blocks of w words
abbrev pub block_of : ℕ → List ℕ → ℕ → List ℕ
block_of w xs b = take w (drop (b * w) xs)

-- block b of the current words, the persisted words and the marks
abbrev pub cell_of : Parts → ℕ → Cell
cell_of p b = record { persisted = words (block_of p.width p.persisted b); current = words (block_of p.width p.current b); mark = slice_index p.marks b }

-- a block for each mark, and writes without end
abbrev pub memory : Parts → Meaning
memory p = record { width = p.width; cells = map (cell_of p) (range_with_len 0 (length p.marks)); left = endless; left_mark = own Memory }

-- as many blocks as marks, the width of a block, and words for each of them
pub record Shaped (p : Parts) : Type 0 where
  pub limits : Limits (length p.marks) p.width
  pub cur_len : length p.current ≡ length p.marks * p.width
  pub per_len : length p.persisted ≡ length p.marks * p.width

-- what opening establishes and each call keeps
pub record Sound (p : Parts) : Type 0 where
  pub shaped : Shaped p
  pub counts : (b : ℕ) → b < length p.marks → slice_index p.marks b ≤ 2
  pub clean : (b : ℕ) → b < length p.marks → slice_index p.marks b ≡ 0 → block_of p.width p.persisted b ≡ block_of p.width p.current b
  pub cur_fit : AllByRecursion (λ x. x < 2 ^ 32) p.current
  pub per_fit : AllByRecursion (λ x. x < 2 ^ 32) p.persisted

-- as opened: both contents are the persisted words, and no block is marked
abbrev pub cleared : List ℕ → ℕ → ℕ → Meaning
cleared per n w = memory (parts per per (replicate n 0) w)

-- what a cut may leave in the persisted slice of a memory: as many words, and in each block what the rule leaves of it
pub record Leaves (p : Parts) (left : List ℕ) : Type 0 where
  pub same_length : length left ≡ length p.persisted
  pub fits : AllByRecursion (λ x. x < 2 ^ 32) left
  pub blocks : (b : ℕ) → b < length p.marks → CutTo p.width (slice_index p.marks b) (cell_of p b) (words (block_of p.width left b))

-- m is a cut of what every memory of n blocks of w words showed of which a cut may have left these persisted words
abbrev pub Outlasts : List ℕ → ℕ → ℕ → Meaning → Type 0
Outlasts left n w m = (p : Parts) → length p.marks ≡ n → p.width ≡ w → Sound p → Leaves p left → Cut (memory p) m
