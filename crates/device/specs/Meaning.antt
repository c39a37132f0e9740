-- What a block device means: its blocks with their contents and marks, and the writes that are left.
use Rattle.std.specs.Prelude.{◌≡◌, ℕ, zero, suc, ◌+◌, ◌-◌, ◌^◌, ◌<◌, ◌≤◌, min, cond, ◌⊎◌, List, [], map, length, Ok, Err, Result, ◌==◌, nat_lt, slice_index_or, slice_set}
use Rattle.std.specs.List.{AllByRecursion}
use Rattle.device.specs.declared.Layer.{Layer}
use Rattle.device.specs.declared.LayerMark.{LayerMark}
use Rattle.device.specs.declared.DeviceFault.{DeviceFault}
use Rattle.device.specs.declared.DeviceFault.TheVariants.{Length, Range, Worn, Damaged}

-- What a block holds: its words, or damage that a layer found.
pub data Content : Type 0 where
  words : List ℕ → Content
  damaged : LayerMark → Content

-- One block: what is persisted, what is current, and how often it was written since the last flush, at most 2.
pub record Cell : Type 0 where
  pub persisted : Content
  pub current : Content
  pub mark : ℕ

-- A device: the words of a block, its blocks, the writes that are left, and the layer that sets that limit.
pub record Meaning : Type 0 where
  pub width : ℕ
  pub cells : List Cell
  pub left : ℕ
  pub left_mark : LayerMark

abbrev pub blocks_of : Meaning → ℕ
blocks_of m = length m.cells

-- the cell past the end
abbrev pub no_cell : Cell
no_cell = record { persisted = words []; current = words []; mark = 0 }

-- block b, and its current content
abbrev pub cell_at : Meaning → ℕ → Cell
cell_at m b = slice_index_or m.cells b no_cell

abbrev pub current_at : Meaning → ℕ → Content
current_at m b = (cell_at m b).current

-- What a reader shows: the words of a block, and what each block holds.
pub record Shown : Type 0 where
  pub width : ℕ
  pub contents : List Content

abbrev pub count_of : Shown → ℕ
count_of s = length s.contents

abbrev pub content_at : Shown → ℕ → Content
content_at s b = slice_index_or s.contents b (words [])

-- what a device shows to a reader: its current contents
abbrev pub current_of : Cell → Content
current_of c = c.current

abbrev pub shown_of : Meaning → Shown
shown_of m = record { width = m.width; contents = map current_of m.cells }

-- The mark of a fault: where it is found, and one layer further up.
abbrev pub own : Layer → LayerMark
own l = record { layer = l; depth = 0 }

abbrev pub raised : LayerMark → LayerMark
raised k = record { layer = k.layer; depth = min (k.depth + 1) 255 }

abbrev pub raised_fault : DeviceFault → DeviceFault
raised_fault (Length k) = Length (raised k)
raised_fault (Range k) = Range (raised k)
raised_fault (Worn k) = Worn (raised k)
raised_fault (Damaged k) = Damaged (raised k)

-- What is looked at first in reading and writing n words of block b: the length, and then the block. Where both are right, x.
abbrev pub gate : {X : Type 0} → Layer → Shown → ℕ → ℕ → Result X DeviceFault → Result X DeviceFault
gate l s b n x = cond (n == s.width) (cond (nat_lt b (count_of s)) x (Err (Range (own l)))) (Err (Length (own l)))

abbrev pub admitted : Layer → Shown → ℕ → ℕ → Result Unit DeviceFault
admitted l s b n = gate l s b n (Ok tt)

-- what a content gives to a reader
abbrev pub held : Content → Result (List ℕ) DeviceFault
held (words ws) = Ok ws
held (damaged k) = Err (Damaged k)

-- Reading n words of block b: the words, or the refusal. The content is looked at last.
abbrev pub reading : Layer → Shown → ℕ → ℕ → Result (List ℕ) DeviceFault
reading l s b n = gate l s b n (held (content_at s b))

abbrev pub answered : Result (List ℕ) DeviceFault → Result Unit DeviceFault
answered (Ok ws) = Ok tt
answered (Err e) = Err e

abbrev pub filled : Result (List ℕ) DeviceFault → List ℕ → List ℕ
filled (Ok ws) buf = ws
filled (Err e) buf = buf

-- is a write left?
abbrev pub spending : Meaning → Result Unit DeviceFault
spending m = cond (nat_lt 0 m.left) (Ok tt) (Err (Worn m.left_mark))

-- Writing n words to block b: the writes that are left are looked at last.
abbrev pub writing : Layer → Meaning → ℕ → ℕ → Result Unit DeviceFault
writing l m b n = gate l (shown_of m) b n (spending m)

-- an answer from below, one layer up
abbrev pub passed : Result Unit DeviceFault → Result Unit DeviceFault
passed (Ok u) = Ok tt
passed (Err e) = Err (raised_fault e)

-- without end
abbrev pub endless : ℕ
endless = 4294967295

-- the writes that are left after one
abbrev pub spent : ℕ → ℕ
spent n = cond (n == endless) n (n - 1)

abbrev pub written_cell : List ℕ → Cell → Cell
written_cell ws c = record { persisted = c.persisted; current = words ws; mark = min (c.mark + 1) 2 }

abbrev pub written : Meaning → ℕ → List ℕ → Meaning
written m b ws = record { width = m.width; cells = slice_set m.cells b (written_cell ws (cell_at m b)); left = spent m.left; left_mark = m.left_mark }

abbrev pub after_write : Result Unit DeviceFault → Meaning → ℕ → List ℕ → Meaning
after_write (Ok u) m b ws = written m b ws
after_write (Err e) m b ws = m

-- Flushing: every current content is persisted, and no block is marked.
abbrev pub flushed_cell : Cell → Cell
flushed_cell c = record { persisted = c.current; current = c.current; mark = 0 }

abbrev pub flushed : Meaning → Meaning
flushed m = record { width = m.width; cells = map flushed_cell m.cells; left = m.left; left_mark = m.left_mark }

-- What every device's meaning keeps: the numbers of blocks and of words in one, and what its contents are.
pub record Limits (n w : ℕ) : Type 0 where
  pub some : 1 ≤ n
  pub few : n ≤ 4096
  pub broad : 1 ≤ w
  pub narrow : w ≤ 64

abbrev pub Words : ℕ → List ℕ → Type 0
Words w ws = (length ws ≡ w) × AllByRecursion (λ x. x < 2 ^ 32) ws

abbrev pub Held : ℕ → Content → Type 0
Held w (words ws) = Words w ws
Held w (damaged k) = k.depth ≤ 255

pub record LawfulCell (w : ℕ) (c : Cell) : Type 0 where
  pub persisted : Held w c.persisted
  pub current : Held w c.current
  pub mark : c.mark ≤ 2
  pub clean : c.mark ≡ 0 → c.persisted ≡ c.current

pub record Lawful (m : Meaning) : Type 0 where
  pub limits : Limits (blocks_of m) m.width
  pub cells : AllByRecursion (LawfulCell m.width) m.cells
  pub left : m.left ≤ endless
  pub left_mark : m.left_mark.depth ≤ 255

-- What every reader keeps.
pub record Readable (s : Shown) : Type 0 where
  pub limits : Limits (count_of s) s.width
  pub contents : AllByRecursion (Held s.width) s.contents

-- A cut of the power leaves x of a block, by its mark: its content at 0; its persisted or its current content, whole, at 1;
-- any words or damage at 2.
abbrev pub CutTo : ℕ → ℕ → Cell → Content → Type 0
CutTo w zero c x = x ≡ c.current
CutTo w (suc zero) c x = (x ≡ c.persisted) ⊎ (x ≡ c.current)
CutTo w (suc (suc n)) c x = Held w x

-- Then no block is marked, and the writes left may be any number.
pub record CutCell (w : ℕ) (c d : Cell) : Type 0 where
  pub mark : d.mark ≡ 0
  pub equal : d.persisted ≡ d.current
  pub from : CutTo w c.mark c d.current

pub record Cut (m n : Meaning) : Type 0 where
  pub width : n.width ≡ m.width
  pub blocks : blocks_of n ≡ blocks_of m
  pub cells : (b : ℕ) → b < blocks_of m → CutCell m.width (cell_at m b) (cell_at n b)
  pub left : n.left ≤ endless
  pub left_mark : n.left_mark.depth ≤ 255
