-- What put needs of a page in memory and of its grant, and what it makes.
use Rattle.std.specs.Prelude.{◌≡◌, ℕ, zero, suc, ◌+◌, ◌*◌, ◌<◌, ◌≤◌, List, length, slice_index, ◌≢◌}
use Rattle.device.specs.Meaning.{blocks_of}
use Rattle.tree.specs.Node.{Seg, Every}
use Rattle.tree.specs.Tree.{Pay, Gap, Span, Enough}
use Rattle.page.specs.Block.{Block, block_at}
use Rattle.counts.specs.Counts.{occ, Counted}
use Rattle.counts.specs.Moves.{State, run, Laid}
use Rattle.edit.specs.Plan.{node_of, kids, Stored, moves, put_n}
use Rattle.edit.specs.Kept.{Free}

-- A child that may be a root: fewer than 7 entries will do.
abbrev pub Loose : (l : ℕ) → ℕ → ℕ → Pay ℕ ℕ l → Type 0
Loose zero k m p = m ≡ suc k
Loose (suc l) k m t = Span ℕ ℕ l k m t.1 × Enough l (length t.1) × (length t.1 ≤ 15)

-- The page n holds entries es of level l, whose children are in the store and referred to, with room for a row of speed s.
pub record Ready (q : State) (gs : List ℕ) (n : Block) (s l : ℕ) (es : List (ℕ × Pay ℕ ℕ l)) : Type 0 where
  pub is : n ≡ node_of l es
  pub stored : Every (Stored (block_at q.0) l) es
  pub lo : ℕ
  pub hi : ℕ
  pub span : Seg (Gap l) (Loose l) lo hi es
  pub low : lo ≤ s
  pub high : s < hi
  pub room : length es ≤ 14
  pub enough : 0 < l → 0 < length es
  pub others : ℕ → ℕ
  pub counted : Counted (block_at q.0) q.1 (λ b. occ b (kids l es) + others b)
  pub modest : (b : ℕ) → others b + 32 * l ≤ 2000
  pub left : 2 * l ≤ q.0.left
  pub free : Free q gs (2 * l)

-- the page holds entries of some level
pub record Able (q : State) (gs : List ℕ) (n : Block) (s : ℕ) : Type 0 where
  pub l : ℕ
  pub es : List (ℕ × Pay ℕ ℕ l)
  pub ready : Ready q gs n s l es

-- The page r holds the entries with a row of speed s set to a; the device and the counts came by put's moves, each of which writes a page that has words.
pub record Made (q q' : State) (gs : List ℕ) (s a l : ℕ) (es : List (ℕ × Pay ℕ ℕ l)) (r : Block) : Type 0 where
  pub is : r ≡ node_of l (put_n gs s a l es)
  pub state : q' ≡ run (moves gs s a l es) q
  pub laid : Laid q.0.width (moves gs s a l es)

-- the next two places of the grant are free blocks on the device, which has few
pub record Open (q : State) (gs : List ℕ) : Type 0 where
  pub left_on : slice_index gs 0 < blocks_of q.0
  pub left_in : slice_index gs 0 < length q.1
  pub left_free : slice_index q.1 (slice_index gs 0) ≡ 0
  pub right_on : slice_index gs 1 < blocks_of q.0
  pub right_in : slice_index gs 1 < length q.1
  pub right_free : slice_index q.1 (slice_index gs 1) ≡ 0
  pub apart : slice_index gs 0 ≢ slice_index gs 1
  pub few : length q.1 ≤ 4096
