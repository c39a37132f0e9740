-- Counts that a walk adds up: a block's children are counted when the block is first met.
use Rattle.std.specs.Prelude.{◌≡◌, ℕ, zero, suc, ◌+◌, ◌<◌, ◌≤◌, true, cond, List, [], ◌∷◌, map, is_some, Option, ◌==◌, slice_index}
use Rattle.device.specs.Meaning.{Meaning}
use Rattle.page.specs.Block.{Block, block_at, kids_of, level_of}
use Rattle.counts.specs.Counts.{occ, parents}
use Rattle.counts.specs.Keeping.{retained}
use Rattle.counts.specs.Moves.{State}
use Rattle.model.specs.TreeBlocks.{entries_in}

-- the count equation, where the references `owed` are known and not counted yet
abbrev pub Owing : (ℕ → Option Block) → List ℕ → (ℕ → ℕ) → (ℕ → ℕ) → Type 0
Owing g cs h owed = (b : ℕ) → slice_index cs b + owed b ≡ parents (λ x. kids_of (g x)) cs b + h b

-- f for each child, in order
abbrev pub along : (ℕ → List ℕ → List ℕ) → List (ℕ × ℕ) → List ℕ → List ℕ
along f [] cs = cs
along f (e ∷ r) cs = along f r (f e.1 cs)

-- one reference more to b, a block of this level; where it is the first, one more to each of its children
abbrev pub tallied : Meaning → ℕ → ℕ → List ℕ → List ℕ
tallied m zero b cs = retained b cs
tallied m (suc l) b cs = cond (slice_index cs b == 0) (along (tallied m l) (entries_in (block_at m b)) (retained b cs)) (retained b cs)

-- the children among entries
abbrev pub kids : List (ℕ × ℕ) → List ℕ
kids es = map (λ e. e.1) es

-- references to the blocks `due`, and some others, are known and not counted yet; few are from outside
pub record Room (q : State) (due : List ℕ) : Type 0 where
  pub outside : ℕ → ℕ
  pub others : ℕ → ℕ
  pub owing : Owing (block_at q.0) q.1 outside (λ b. occ b due + others b)
  pub modest : (b : ℕ) → outside b ≤ 48

-- a tree block, whose children are one level below
pub record Fine (g : ℕ → Option Block) (x : ℕ) : Type 0 where
  pub some : is_some (g x) ≡ true
  pub low : level_of (g x) < 5
  pub below : (y : ℕ) → 0 < occ y (kids_of (g x)) → level_of (g y) + 1 ≡ level_of (g x)
