-- What the log device means, what it keeps, and what a cut of the power may leave of it.
use Rattle.std.specs.Prelude.{◌≡◌, ℕ, ◌+◌, ◌-◌, ◌*◌, ◌/◌, ◌^◌, ◌<◌, ◌≤◌, min, cond, ◌⊎◌, List, [], ◌∷◌, ◌++◌, map, length, take, drop, replicate, ◌==◌, slice_index, slice_index_or, slice_set, Option, None, Some}
use Rattle.std.specs.List.{range_with_len, AllByRecursion}
use Rattle.device.specs.Meaning.{Meaning, Cell, Limits, words, own, Cut}
use Rattle.device.specs.Cuts.{Op, Op.write, Op.flush}
use Rattle.device.specs.declared.Layer.TheVariants.{Log}
use Rattle.word.specs.Words.{kind_of, payload_of, word_of}

-- a record: its block and its words
abbrev pub Record : Type 0
Record = ℕ × List ℕ

-- the words of the last record of block b, or d
abbrev pub last_of : List Record → ℕ → List ℕ → List ℕ
last_of [] b d = d
last_of (r ∷ rs) b d = last_of rs b (cond (r.0 == b) r.1 d)

-- how many records block b has
abbrev pub count_of : List Record → ℕ → ℕ
count_of [] b = 0
count_of (r ∷ rs) b = cond (r.0 == b) 1 0 + count_of rs b

-- block b: its last flushed record, its last record, and how many are not flushed, at most 2
abbrev pub log_cell : ℕ → List Record → ℕ → ℕ → Cell
log_cell w rs f b = record {
  persisted = words (last_of (take f rs) b (replicate w 0));
  current = words (last_of rs b (replicate w 0));
  mark = min (count_of (drop f rs) b) 2;
}

-- n blocks of w words, the records, of which f are flushed, and the capacity
abbrev pub logged : ℕ → ℕ → List Record → ℕ → ℕ → Meaning
logged n w rs f cap = record { width = w; cells = map (log_cell w rs f) (range_with_len 0 n); left = cap - length rs; left_mark = own Log }

-- the layout of the image: the head, and then records of a word and w words of content
abbrev pub place_of : ℕ → ℕ → ℕ
place_of w i = 1 + i * (w + 1)

abbrev pub record_at : ℕ → List ℕ → ℕ → Record
record_at w img i = (payload_of (slice_index img (place_of w i)), take w (drop (place_of w i + 1) img))

abbrev pub records : ℕ → List ℕ → ℕ → List Record
records w img k = map (record_at w img) (range_with_len 0 k)

abbrev pub flushed_in : List ℕ → ℕ
flushed_in img = payload_of (slice_index img 0)

abbrev pub capacity : ℕ → ℕ → ℕ
capacity len w = min ((len - 1) / (w + 1)) 268435455

-- a log of n blocks with k records in its image
abbrev pub log_of : List ℕ → ℕ → ℕ → ℕ → Meaning
log_of img n w k = logged n w (records w img k) (flushed_in img) (capacity (length img) w)

-- as opened: the flushed records only
abbrev pub opened_log : List ℕ → ℕ → ℕ → Meaning
opened_log img n w = log_of img n w (flushed_in img)

-- What a log is: the width of its blocks, the words of its image, and how many records stand in it.
pub record Image : Type 0 where
  pub width : ℕ
  pub image : List ℕ
  pub count : ℕ

abbrev pub image_of : ℕ → List ℕ → ℕ → Image
image_of w img k = record { width = w; image = img; count = k }

-- the image with a record more in its place: the word of its block, and its content
abbrev pub with_record : ℕ → List ℕ → ℕ → ℕ → List ℕ → List ℕ
with_record w img k b ws = take (place_of w k) img ++ ((word_of 9 b ∷ ws) ++ drop (place_of w (k + 1)) img)

-- What a device call makes of a log: a write puts the next record into its place, and a flush sets the head.
abbrev pub imaged : Op → Image → Image
imaged (write b ws) i = image_of i.width (with_record i.width i.image i.count b ws) (i.count + 1)
imaged flush i = image_of i.width (slice_set i.image 0 (word_of 8 i.count)) i.count

abbrev pub replay_image : List Op → Image → Image
replay_image [] i = i
replay_image (o ∷ os) i = replay_image os (imaged o i)

-- the word of a record of one of n blocks
abbrev pub IsRecord : ℕ → ℕ → Type 0
IsRecord n x = (kind_of x ≡ 9) × (payload_of x < n)

abbrev pub AreRecords : List ℕ → ℕ → ℕ → ℕ → Type 0
AreRecords img n w k = (i : ℕ) → i < k → IsRecord n (slice_index img (place_of w i))

-- the length of the image, the number of blocks and their width
pub record Shaped (len n w : ℕ) : Type 0 where
  pub long : 1 ≤ len
  pub limits : Limits n w

-- the head and the words of the flushed records
pub record Formed (img : List ℕ) (n w : ℕ) : Type 0 where
  pub head : kind_of (slice_index img 0) ≡ 8
  pub within : flushed_in img ≤ capacity (length img) w
  pub kinds : AreRecords img n w (flushed_in img)

-- what opening establishes of the image, and each call keeps
pub record Sound (img : List ℕ) (n w k : ℕ) : Type 0 where
  pub limits : Limits n w
  pub room : place_of w k ≤ length img
  pub small : k ≤ 268435455
  pub head : kind_of (slice_index img 0) ≡ 8
  pub flushed : flushed_in img ≤ k
  pub kinds : AreRecords img n w k
  pub fits : AllByRecursion (λ x. x < 2 ^ 32) img

-- the words of the record of that number, or zeros for none
abbrev pub numbered : ℕ → List ℕ → Option ℕ → List ℕ
numbered w img None = replicate w 0
numbered w img (Some j) = (record_at w img j).1

-- the index has for each block the number of its last record
pub record Indexed (img : List ℕ) (n w k : ℕ) (index : List (Option ℕ)) : Type 0 where
  pub long : length index ≡ n
  pub within : (b j : ℕ) → b < n → slice_index_or index b None ≡ Some j → j < k
  pub last : (b : ℕ) → b < n → last_of (records w img k) b (replicate w 0) ≡ numbered w img (slice_index_or index b None)

-- what a cut may leave of the image of a log with k records: a head, whole, and the records that it counts. The head is
-- the one that was flushed last or, inside a flush, the one that flush sets. After those records stand any words
pub record Leaves (w k : ℕ) (img left : List ℕ) : Type 0 where
  pub same_length : length left ≡ length img
  pub head : (slice_index left 0 ≡ slice_index img 0) ⊎ (slice_index left 0 ≡ word_of 8 k)
  pub kept : take (flushed_in left * (w + 1)) (drop 1 left) ≡ take (flushed_in left * (w + 1)) (drop 1 img)

-- if a cut left this image of a log of n blocks of w words, then it is well formed, and as opened it is a cut of that log
abbrev pub Outlasts : List ℕ → ℕ → ℕ → Type 0
Outlasts left n w = (img : List ℕ) (k : ℕ) → Sound img n w k → Leaves w k img left → Shaped (length left) n w × Formed left n w × Cut (log_of img n w k) (opened_log left n w)
