-- One level of a removal: which children are opened, in which part of what they hold it goes on, and what stands for them afterwards.
use Rattle.std.specs.Prelude.{◌≡◌, ℕ, suc, ◌+◌, ◌<◌, ◌≤◌, List, [], ◌∷◌, ◌++◌, length, take, drop, Some, None, Option, slice_index_or}
use Rattle.tree.specs.Node.{first, shrink, Every, map_e}
use Rattle.tree.specs.Tree.{Pay, Tree, Span, over}
use Rattle.tree.specs.Stored.{same}
use Rattle.page.specs.Block.{Block}
use Rattle.counts.specs.Counts.{occ}
use Rattle.counts.specs.Moves.{Move}
use Rattle.edit.specs.Plan.{kids, Stored}
use Rattle.edit.specs.Fill.{below}
use Rattle.edit.specs.Remove.{put2, edit_moves, shrink_n, shrink_m}

-- What becomes of a child's neighbour: it stays as it is; it is merged with the child; or it gives up one entry, and stands after or before the child with the rest.
pub data Side (X : Type 0) : Type 0 where
  apart : Side X
  merged : Side X
  after : List (ℕ × X) → Side X
  before : List (ℕ × X) → Side X

module _ {X : Type 0} where
  -- the place after the children that are replaced, of which the first stands at i
  abbrev pub past : ℕ → Side X → ℕ
  past i apart = suc i
  past i merged = suc (suc i)
  past i (after rest) = suc (suc i)
  past i (before rest) = suc (suc i)

  -- what the neighbour keeps
  abbrev pub rest_of : Side X → List (ℕ × X)
  rest_of apart = []
  rest_of merged = []
  rest_of (after rest) = rest
  rest_of (before rest) = rest

  -- the parts that replace these children, under the first one's separator k, once `made` stands for `work`
  abbrev pub parts : ℕ → Side X → List (ℕ × X) → List (ℕ × X) → List (ℕ × List (ℕ × X))
  parts k apart work made = (k, made) ∷ []
  parts k merged work made = (k, made) ∷ []
  parts k (after rest) work made = (k, made) ∷ (first rest, rest) ∷ []
  parts k (before rest) work made = (k, rest) ∷ (first work, made) ∷ []

abbrev pub over_side : {X Y : Type 0} → (List (ℕ × X) → List (ℕ × Y)) → Side X → Side Y
over_side f apart = apart
over_side f merged = merged
over_side f (after rest) = after (f rest)
over_side f (before rest) = before (f rest)

-- old blocks, with their numbers
abbrev pub olds : (l : ℕ) → List (ℕ × Pay ℕ ℕ l) → List (ℕ × Pay (Option ℕ) ℕ l)
olds l es = map_e (over Some same l) es

-- new blocks, not yet numbered
abbrev pub news : {X : Type 0} → List (ℕ × List (ℕ × X)) → List (ℕ × (Option ℕ × List (ℕ × X)))
news ps = map_e (λ es. (None, es)) ps

-- the separator of the child at i
abbrev pub key_at : (l : ℕ) → List (ℕ × Tree ℕ ℕ l) → ℕ → ℕ
key_at l es i = (slice_index_or es i (0, (0, []))).0

-- How speed s is removed among the children es of a block: those from `at` on are opened, the removal goes on in `work`, whatever it makes of that.
pub record Split (s l : ℕ) (es : List (ℕ × Tree ℕ ℕ l)) : Type 0 where
  pub at : ℕ
  pub mid : List (ℕ × Tree ℕ ℕ l)
  pub work : List (ℕ × Pay ℕ ℕ l)
  pub side : Side (Pay ℕ ℕ l)
  pub within : past at side ≤ length es
  pub around : es ≡ take at es ++ (mid ++ drop (past at side) es)
  pub held : (b : ℕ) → below l mid b ≡ occ b (kids l work) + occ b (kids l (rest_of side))
  pub stored : (g : ℕ → Option Block) → Every (Stored g (suc l)) mid → Every (Stored g l) work
  pub lo : ℕ
  pub hi : ℕ
  pub span : Span ℕ ℕ l lo hi work
  pub low : lo ≤ s
  pub high : s < hi
  pub enough : 8 ≤ length work
  pub few : length work ≤ 15
  pub rest_few : length (rest_of side) ≤ 15
  pub shrinks : (gs : List ℕ) (g : List (ℕ × Pay ℕ ℕ l) → List (ℕ × Pay ℕ ℕ l))
      → shrink_n gs s l g es ≡ take at es ++ (put2 gs s l g (parts (key_at l es at) side work (g work)) ++ drop (past at side) es)
  pub moves : (gs : List ℕ) (g : List (ℕ × Pay ℕ ℕ l) → List (ℕ × Pay ℕ ℕ l)) (ms : List (ℕ × Pay ℕ ℕ l) → List Move)
      → shrink_m gs s l g ms es ≡ edit_moves gs s l g ms mid work (parts (key_at l es at) side work (g work))
  pub plain : (g : List (ℕ × Pay (Option ℕ) ℕ l) → List (ℕ × Pay (Option ℕ) ℕ l))
      → shrink None s g (olds (suc l) es)
      ≡ olds (suc l) (take at es) ++ (news (parts (key_at l es at) (over_side (olds l) side) (olds l work) (g (olds l work))) ++ olds (suc l) (drop (past at side) es))
