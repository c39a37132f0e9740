-- What a removal needs of a page in memory, and what it makes.
use Rattle.std.specs.Prelude.{◌≡◌, ℕ, suc, ◌+◌, ◌*◌, ◌<◌, ◌≤◌, List, length, slice_index_or}
use Rattle.tree.specs.Node.{Every}
use Rattle.tree.specs.Tree.{Pay, Tree, Span}
use Rattle.page.specs.Block.{Block, block_at}
use Rattle.page.specs.View.{view, entries}
use Rattle.page.specs.declared.page.Page.{Page}
use Rattle.counts.specs.Counts.{occ, Counted}
use Rattle.counts.specs.Moves.{State, run, Laid}
use Rattle.edit.specs.Plan.{shallow, node_of, kids, Stored}
use Rattle.edit.specs.Kept.{Free}
use Rattle.edit.specs.Kids.{with_rest, Beside}
use Rattle.edit.specs.Fill.{opens}
use Rattle.edit.specs.Remove.{rem_n, rem_moves}
use Rattle.removal.specs.declared.filled.Filled.{Filled}
use Rattle.removal.specs.Split.{past, parts, over_side, Split}

-- The page n holds the entries es of level l, which cover speed s; their children are in the store and referred to.
pub record Ready (q : State) (n : Block) (s l : ℕ) (es : List (ℕ × Pay ℕ ℕ l)) : Type 0 where
  pub is : n ≡ node_of l es
  pub stored : Every (Stored (block_at q.0) l) es
  pub lo : ℕ
  pub hi : ℕ
  pub span : Span ℕ ℕ l lo hi es
  pub low : lo ≤ s
  pub high : s < hi
  pub few : length es ≤ 15
  pub enough : 0 < l → 2 ≤ length es
  pub others : ℕ → ℕ
  pub counted : Counted (block_at q.0) q.1 (λ b. occ b (kids l es) + others b)
  pub modest : (b : ℕ) → others b + 32 * l ≤ 2000

-- the page holds entries of some level
pub record Able (q : State) (n : Block) (s : ℕ) : Type 0 where
  pub l : ℕ
  pub es : List (ℕ × Pay ℕ ℕ l)
  pub ready : Ready q n s l es

-- the same of an index block
pub record AbleIndex (q : State) (n : Block) (s : ℕ) : Type 0 where
  pub l : ℕ
  pub es : List (ℕ × Tree ℕ ℕ l)
  pub ready : Ready q n s (suc l) es

-- the first 2l places of the grant gs are free, and so many writes are left
pub record Room (q : State) (gs : List ℕ) (l : ℕ) : Type 0 where
  pub left : 2 * l ≤ q.0.left
  pub free : Free q gs (2 * l)

-- i is the place of the entry that covers s
pub record At (n : Block) (s i : ℕ) : Type 0 where
  pub within : i < length n.entries
  pub low : (k : ℕ) → k < i → (slice_index_or n.entries (suc k) (0, 0)).0 ≤ s
  pub high : suc i < length n.entries → s < (slice_index_or n.entries (suc i) (0, 0)).0

-- the parts that stand for a filled child, once made is the part's page
abbrev pub parts_of : Page → Filled → Page → List (ℕ × List (ℕ × ℕ))
parts_of p f made = with_rest (slice_index_or (entries p) f.at (0, 0)).0 f.rest (entries made)

-- f replaces one child or more, and no fewer than its parts
abbrev pub Fits : Filled → Type 0
Fits f = (f.at < f.end) × ((k : ℕ) (made : List (ℕ × ℕ)) → f.at + length (with_rest k f.rest made) ≤ f.end)

-- f is the split of the children es, which are opened.
pub record Filling (q q' : State) (s l : ℕ) (es : List (ℕ × Tree ℕ ℕ l)) (f : Filled) : Type 0 where
  pub split : Split s l es
  pub at : f.at ≡ split.at
  pub end : f.end ≡ past split.at split.side
  pub part : view f.part ≡ node_of l split.work
  pub rest : (k : ℕ) (made : List (ℕ × ℕ)) → with_rest k f.rest made ≡ parts k (over_side (shallow l) split.side) (shallow l split.work) made
  pub beside : Beside l f.rest
  pub state : q' ≡ run (opens split.mid) q

-- r is the page with speed s removed below it: its altered children are written and linked.
pub record Made (q q' : State) (gs : List ℕ) (s l : ℕ) (es : List (ℕ × Pay ℕ ℕ l)) (r : Block) : Type 0 where
  pub is : r ≡ node_of l (rem_n gs s l es)
  pub state : q' ≡ run (rem_moves gs s l es) q
  pub laid : Laid q.0.width (rem_moves gs s l es)
