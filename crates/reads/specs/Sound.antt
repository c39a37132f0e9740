-- The blocks of a sound tree, and the rows of each with all below it.
use Rattle.std.specs.Prelude.{◌≡◌, ℕ, ◌<◌, ◌≤◌, List, [], length, Some, None, Option}
use Rattle.device.specs.Meaning.{Content}
use Rattle.page.specs.Block.{Block, block_in}
use Rattle.tree.specs.Node.{Every, map_e, flat}
use Rattle.tree.specs.Tree.{Pay, Rows, All, Enough, Span}
use Rattle.model.specs.TreeBlocks.{pay_at, block_of, Each}

-- a row's speed and payload are in range
abbrev pub Valid : ℕ × ℕ → Type 0
Valid r = (r.0 < 10000) × (r.1 ≤ 18000)

module _ (c : ℕ → Content) where
  -- what the entries of a block of level l hold, with all below
  abbrev pub held : (l : ℕ) → List (ℕ × ℕ) → List (ℕ × Pay ℕ ℕ l)
  held l es = map_e (pay_at c l) es

  -- the rows of a block of level l with these entries
  abbrev pub rows_in : ℕ → List (ℕ × ℕ) → List (ℕ × ℕ)
  rows_in l es = flat (Rows ℕ ℕ l) (held l es)

  abbrev pub rows_of_block : Option Block → List (ℕ × ℕ)
  rows_of_block None = []
  rows_of_block (Some b) = rows_in b.level b.entries

  -- the rows of block x
  abbrev pub rows_at : ℕ → List (ℕ × ℕ)
  rows_at x = rows_of_block (block_in (c x))

  -- the entries of a block of level l in a sound tree
  pub record Sound (l : ℕ) (es : List (ℕ × ℕ)) : Type 0 where
    pub low : ℕ
    pub high : ℕ
    pub below : Every (All ℕ ℕ (λ i u. block_in (c u.0) ≡ Some (block_of i u)) l) (held l es)
    pub span : Span ℕ ℕ l low high (held l es)
    pub enough : Enough l (length es)
    pub valid : Each Valid (rows_in l es)

  -- block x is in a sound tree
  pub record SoundAt (x : ℕ) : Type 0 where
    pub block : Block
    pub stands : block_in (c x) ≡ Some block
    pub sound : Sound block.level block.entries

  -- block x is in a sound tree and has entries
  pub record FullAt (x : ℕ) : Type 0 where
    pub sound : SoundAt x
    pub some : 1 ≤ length sound.block.entries
