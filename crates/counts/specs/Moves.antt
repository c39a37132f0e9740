-- What a call does to the device and the counts, move by move.
use Rattle.std.specs.Prelude.{◌≡◌, ℕ, suc, ◌+◌, ◌≤◌, List, [], ◌∷◌, length, slice_set}
use Rattle.device.specs.Meaning.{Meaning, Lawful, blocks_of, written}
use Rattle.page.specs.Block.{Block, block_at, kids_of, level_of, encode, Layout}
use Rattle.page.specs.Io.{Wide}
use Rattle.counts.specs.Counts.{one, occ, Counted, opened}

-- opening: a reference to the block is given up for references to its children.
-- linking: the block, to which nothing refers, is written; references to its children are given up for one to it.
pub data Move : Type 0 where
  opening : ℕ → Move
  linking : ℕ → Block → Move

-- the device and the counts
abbrev pub State : Type 0
State = Meaning × List ℕ

-- what every store keeps: a device's rules, a width that a volume uses, a count for each block
pub record Shaped (q : State) : Type 0 where
  pub lawful : Lawful q.0
  pub wide : Wide q.0
  pub sized : length q.1 ≡ blocks_of q.0

abbrev pub step : Move → State → State
step (opening x) q = (q.0, opened (kids_of (block_at q.0 x)) x q.1)
step (linking x n) q = (written q.0 x (encode q.0.width n), slice_set q.1 x 1)

abbrev pub run : List Move → State → State
run [] q = q
run (v ∷ vs) q = run vs (step v q)

-- how many blocks are written
abbrev pub writes : List Move → ℕ
writes [] = 0
writes (opening x ∷ vs) = writes vs
writes (linking x n ∷ vs) = suc (writes vs)

-- each linked block has words
abbrev pub LaidMove : ℕ → Move → Type 0
LaidMove w (opening x) = Unit {0}
LaidMove w (linking x n) = Layout w n

abbrev pub Laid : ℕ → List Move → Type 0
Laid w [] = Unit {0}
Laid w (v ∷ vs) = LaidMove w v × Laid w vs

-- someone holds a reference to block x; few references are from outside
pub record Owned (q : State) (x : ℕ) : Type 0 where
  pub others : ℕ → ℕ
  pub counted : Counted (block_at q.0) q.1 (λ b. one x b + others b)
  pub modest : (b : ℕ) → others b ≤ 2000

-- someone holds a reference to block x, of this level
pub record Held (q : State) (x level : ℕ) : Type 0 where
  pub others : ℕ → ℕ
  pub counted : Counted (block_at q.0) q.1 (λ b. one x b + others b)
  pub height : level_of (block_at q.0 x) ≡ level

-- from the counts of q to cs' the references xs from outside are dropped
abbrev pub Dropped : List ℕ → State → List ℕ → Type 0
Dropped xs q cs' = (h : ℕ → ℕ) → Counted (block_at q.0) q.1 (λ b. occ b xs + h b) → Counted (block_at q.0) cs' h
