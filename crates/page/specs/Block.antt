-- What a tree block holds, and the words that hold it.
-- A tree block's words are, in this order:
-- a header (kind 1 for a leaf: how many entries; kind 2 for an index block: level * 256 + how many entries); 0;
-- two words for each entry, a speed (kind 3) and then an angle (kind 4) or a child (kind 5); and 0 up to the width.
use Rattle.std.specs.Prelude.{◌≡◌, ℕ, zero, suc, ◌+◌, ◌-◌, ◌*◌, ◌/◌, ◌%◌, ◌<◌, ◌≤◌, Bool, cond, ◌&&◌, List, [], ◌∷◌, ◌++◌, map, length, drop, replicate, Some, None, Option, ◌==◌, nat_le, nat_lt, slice_index, slice_index_or}
use Rattle.std.specs.Str.{bytes_eq}
use Rattle.word.specs.Words.{payload_of, word_of}
use Rattle.device.specs.Meaning.{Meaning, Shown, Content, words, damaged, current_at, content_at}

-- A leaf has level 0. An entry is a speed or separator, and a payload: the angle + 9,000 in a leaf, a child's block in an index block.
pub record Block : Type 0 where
  pub level : ℕ
  pub entries : List (ℕ × ℕ)

-- the header of a block of this level with so many entries
abbrev pub header_of : ℕ → ℕ → ℕ
header_of level len = cond (level == 0) (word_of 1 len) (word_of 2 (level * 256 + len))

-- the kind of an entry's second word, at this level
abbrev pub value_kind : ℕ → ℕ
value_kind level = cond (level == 0) 4 5

-- the words of entries, whose second words have this kind
abbrev pub flat : ℕ → List (ℕ × ℕ) → List ℕ
flat kind [] = []
flat kind (e ∷ es) = word_of 3 e.0 ∷ word_of kind e.1 ∷ flat kind es

-- the words of a block, w of them
abbrev pub encode : ℕ → Block → List ℕ
encode w n = header_of n.level (length n.entries) ∷ 0 ∷ (flat (value_kind n.level) n.entries ++ replicate (w - 2 - 2 * length n.entries) 0)

-- the payloads of n pairs of words
abbrev pub pairs : ℕ → List ℕ → List (ℕ × ℕ)
pairs zero ws = []
pairs (suc n) ws = (payload_of (slice_index ws 0), payload_of (slice_index ws 1)) ∷ pairs n (drop 2 ws)

-- the block that words would hold, if they hold one: kinds and zeros are not looked at
abbrev pub read : List ℕ → Block
read ws = record { level = payload_of (slice_index ws 0) / 256; entries = pairs (slice_index ws 0 % 256) (drop 2 ws) }

-- whether two lists of words are the same
abbrev pub same : List ℕ → List ℕ → Bool
same = bytes_eq

-- at most 15 entries, and a level below 5
abbrev pub fits : Block → Bool
fits n = nat_le (length n.entries) 15 && nat_lt n.level 5

-- the block that words hold: what they read as, if that has just these words
abbrev pub decode : List ℕ → Option Block
decode ws = cond (fits (read ws) && same ws (encode (length ws) (read ws))) (Some (read ws)) None

-- the tree block in a block's content
abbrev pub block_in : Content → Option Block
block_in (words ws) = decode ws
block_in (damaged k) = None

-- the tree block that a reader shows in block b
abbrev pub shown_block : Shown → ℕ → Option Block
shown_block s b = block_in (content_at s b)

-- the tree block that stands in block b of a device
unfoldable pub block_at : Meaning → ℕ → Option Block
block_at m b = block_in (current_at m b)

-- the children among entries of a block of this level
abbrev pub children : ℕ → List (ℕ × ℕ) → List ℕ
children zero es = []
children (suc l) es = map (λ e. e.1) es

-- the children of what may be a block
abbrev pub kids_of : Option Block → List ℕ
kids_of None = []
kids_of (Some n) = children n.level n.entries

-- the level of what may be a block
abbrev pub level_of : Option Block → ℕ
level_of None = 0
level_of (Some n) = n.level

-- a block that has words
pub record Layout (w : ℕ) (n : Block) : Type 0 where
  pub wide : 32 ≤ w
  pub few : length n.entries ≤ 15
  pub low : n.level < 5
  pub small : (i : ℕ) → i < length n.entries → ((slice_index_or n.entries i (0, 0)).0 < 268435456) × ((slice_index_or n.entries i (0, 0)).1 < 268435456)

-- Decoding is exact: it answers a block exactly when the words are that block's.
abbrev pub DecodesExactly : Type 0
DecodesExactly =
    ((ws : List ℕ) (n : Block) → decode ws ≡ Some n → ws ≡ encode (length ws) n)
    × ((w : ℕ) (n : Block) → Layout w n → decode (encode w n) ≡ Some n)
