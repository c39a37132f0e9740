-- A slot: a generation and the root of each clone, and the words that hold them.
-- A slot's words are: a header (kind 6, the generation); 24 words, each 0 for a clone that is not there
-- or kind 7 with height * 65,536 + the root's block; and 0 up to the width.
-- Two slots stand in blocks 0 and 1; a slot's generation is even in block 0 and odd in block 1.
use Rattle.std.specs.Prelude.{◌≡◌, ℕ, ◌+◌, ◌-◌, ◌*◌, ◌/◌, ◌%◌, ◌<◌, ◌≤◌, Bool, true, cond, ◌&&◌, List, ◌∷◌, ◌++◌, map, length, take, drop, replicate, Some, None, Option, ◌==◌, nat_le, nat_lt, slice_index, slice_index_or}
use Rattle.std.specs.List.{list_all}
use Rattle.word.specs.Words.{payload_of, word_of}
use Rattle.page.specs.Block.{same}

-- the height of a tree, and its root's block
abbrev pub Root : Type 0
Root = ℕ × ℕ

-- the root of each clone, or none for a clone that is not there
abbrev pub Table : Type 0
Table = List (Option Root)

-- the word of a clone
abbrev pub clone_word : Option Root → ℕ
clone_word None = 0
clone_word (Some r) = word_of 7 (r.0 * 65536 + r.1)

-- the clone that a word would hold, if it holds one: its kind is not looked at
abbrev pub clone_read : ℕ → Option Root
clone_read x = cond (x == 0) None (Some (payload_of x / 65536, x % 65536))

-- the words of generation g with table t, at width w
abbrev pub slot_words : ℕ → ℕ → Table → List ℕ
slot_words w g t = word_of 6 g ∷ (map clone_word t ++ replicate (w - 25) 0)

-- over n blocks: a height from 1 to 5, a root from 2 to n - 1
abbrev pub rooted : ℕ → Option Root → Bool
rooted n None = true
rooted n (Some r) = (nat_le 1 r.0 && nat_le r.0 5) && (nat_le 2 r.1 && nat_lt r.1 n)

abbrev pub every : {A : Type 0} → (A → Bool) → List A → Bool
every = list_all

-- the generation and table that words would hold, if they hold a slot
abbrev pub slot_loose : List ℕ → ℕ × Table
slot_loose ws = (payload_of (slice_index ws 0), map clone_read (take 24 (drop 1 ws)))

-- the form of a slot: what the words read as, if that has just these words
abbrev pub decode_slot : List ℕ → Option (ℕ × Table)
decode_slot ws = cond (same ws (slot_words (length ws) (slot_loose ws).0 (slot_loose ws).1)) (Some (slot_loose ws)) None

-- over n blocks, in block b: the parity is right, and each root is one
abbrev pub slot_stands : ℕ → ℕ → ℕ × Table → Bool
slot_stands n b x = x.0 % 2 == b && every (rooted n) x.1

abbrev pub if_stands : ℕ → ℕ → Option (ℕ × Table) → Option (ℕ × Table)
if_stands n b None = None
if_stands n b (Some x) = cond (slot_stands n b x) (Some x) None

-- over n blocks, the slot in block b
abbrev pub slot_read : ℕ → ℕ → List ℕ → Option (ℕ × Table)
slot_read n b ws = if_stands n b (decode_slot ws)

-- a clone that fits its word
abbrev pub CloneFits : Option Root → Type 0
CloneFits None = Unit {0}
CloneFits (Some r) = (r.0 < 4096) × (r.1 < 65536)

-- a slot that has words, at width w
pub record FormFits (w g : ℕ) (t : Table) : Type 0 where
  pub wide : 32 ≤ w
  pub generation : g ≤ 268435455
  pub places : length t ≡ 24
  pub clones : (i : ℕ) → i < 24 → CloneFits (slice_index_or t i None)

-- The form is exact: words have that of generation g and table t exactly when they are their words.
abbrev pub FormsExact : Type 0
FormsExact =
    ((ws : List ℕ) (g : ℕ) (t : Table) → decode_slot ws ≡ Some (g, t) → ws ≡ slot_words (length ws) g t)
    × ((w g : ℕ) (t : Table) → FormFits w g t → decode_slot (slot_words w g t) ≡ Some (g, t))

-- a slot that stands, over n blocks of width w
pub record SlotFits (n w g : ℕ) (t : Table) : Type 0 where
  pub blocks : n ≤ 4096
  pub wide : 32 ≤ w
  pub generation : g ≤ 268435455
  pub places : length t ≡ 24
  pub roots : every (rooted n) t ≡ true

-- Reading a slot is exact: what reads as generation g and table t is their words, and their words read so.
abbrev pub SlotsExact : Type 0
SlotsExact =
    ((n b : ℕ) (ws : List ℕ) (g : ℕ) (t : Table) → slot_read n b ws ≡ Some (g, t) → (ws ≡ slot_words (length ws) g t) × (g % 2 ≡ b) × (every (rooted n) t ≡ true))
    × ((n w g : ℕ) (t : Table) → SlotFits n w g t → slot_read n (g % 2) (slot_words w g t) ≡ Some (g, t))
