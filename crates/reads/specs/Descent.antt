-- Where a descent to a speed comes to: a leaf, and the blocks on either side of the way down.
use Rattle.std.specs.Prelude.{◌≡◌, ℕ, zero, suc, ◌<◌, ◌≤◌, ◌⊎◌, List, [], ◌++◌, length, Some, None, Option, slice_get}
use Rattle.std.specs.Option.{option_map}
use Rattle.device.specs.Meaning.{Content}
use Rattle.page.specs.Block.{block_in}
use Rattle.model.specs.TreeBlocks.{entries_in, Each}
use Rattle.reads.specs.Sound.{Valid, rows_at, FullAt}

-- the child of the entry at a place, if there is one
abbrev pub child : List (ℕ × ℕ) → ℕ → Option ℕ
child es i = option_map (λ (e : ℕ × ℕ). e.1) (slice_get es i)

-- the child of the entry before a place
abbrev pub child_before : List (ℕ × ℕ) → ℕ → Option ℕ
child_before es zero = None
child_before es (suc i) = child es i

module _ (c : ℕ → Content) where
  -- the rows end with those of this block, or there is none
  abbrev pub Ends : Option ℕ → List (ℕ × ℕ) → Type 0
  Ends None rows = rows ≡ []
  Ends (Some x) rows = FullAt c x × ((others : List (ℕ × ℕ)) × (rows ≡ others ++ rows_at c x))

  -- the rows begin with those of this block, or there is none
  abbrev pub Begins : Option ℕ → List (ℕ × ℕ) → Type 0
  Begins None rows = rows ≡ []
  Begins (Some x) rows = FullAt c x × ((others : List (ℕ × ℕ)) × (rows ≡ rows_at c x ++ others))

  -- From block x down to speed s: the rows of the leaf stand between rows below s, which end with those of the block on the left,
  -- and rows above s, which begin with those of the block on the right.
  pub record Found (x s : ℕ) (leaf : List (ℕ × ℕ)) (left right : Option ℕ) : Type 0 where
    pub before : List (ℕ × ℕ)
    pub after : List (ℕ × ℕ)
    pub cut : rows_at c x ≡ before ++ (leaf ++ after)
    pub low : Each (λ (r : ℕ × ℕ). r.0 < s) before
    pub high : Each (λ (r : ℕ × ℕ). s < r.0) after
    pub ends : Ends left before
    pub begins : Begins right after
    pub valid : Each Valid leaf
    pub some : 1 ≤ length (entries_in (block_in (c x))) → 1 ≤ length leaf

  -- block x, if there is one, has rows, and these are all below s or all above it
  abbrev pub Beside : ℕ → Option ℕ → Type 0
  Beside s None = Unit {0}
  Beside s (Some x) = FullAt c x × (Each (λ (r : ℕ × ℕ). r.0 < s) (rows_at c x) ⊎ Each (λ (r : ℕ × ℕ). s < r.0) (rows_at c x))

  -- the rows of block x, if there is one
  abbrev pub rows_beside : Option ℕ → List (ℕ × ℕ)
  rows_beside None = []
  rows_beside (Some x) = rows_at c x
