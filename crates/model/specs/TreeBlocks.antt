-- Trees on the blocks of a device; what a call makes of one; what a sound tree keeps.
use Rattle.std.specs.Prelude.{◌≡◌, ℕ, zero, suc, ◌<◌, ◌≤◌, Bool, false, ◌||◌, List, [], ◌∷◌, map, ℤ, Some, None, Option, ◌==◌, slice_index}
pub use Rattle.std.specs.List.{AllByRecursion as Each}
use Rattle.device.specs.Meaning.{Content, Meaning, blocks_of, current_at}
use Rattle.table.specs.Rows.{angle_of}
use Rattle.page.specs.Block.{Block, block_in}
use Rattle.page.specs.Slot.{Root}
use Rattle.tree.specs.Node.{map_e}
use Rattle.tree.specs.Tree as tree
use Rattle.tree.specs.Tree.{Pay, rows, blocks, All, over_root, put_root, rem_root}
use Rattle.tree.specs.Stored.{same}
use Rattle.tree.specs.Layout.{Laid}
use Rattle.tree.specs.Numbered.{numbered, news, bare}
use Rattle.tree.specs.Apart.{places}

-- a tree with its level: each block's number, each row's angle + 9000
abbrev pub Tree : Type 0
Tree = tree.Root ℕ ℕ

-- a tree without its angles
abbrev pub Form : Type 0
Form = tree.Root ℕ (Unit {0})

abbrev pub form : Tree → Form
form t = over_root same bare t

-- where no clone is
abbrev pub bare_tree : Tree
bare_tree = (0, (0, []))

-- speeds and angles, ascending
abbrev pub rows_of : Tree → List (ℕ × ℤ)
rows_of t = map_e angle_of (rows ℕ ℕ t.0 t.1)

abbrev pub keys : {X : Type 0} → List (ℕ × X) → List ℕ
keys [] = []
keys (e ∷ r) = e.0 ∷ keys r

abbrev pub keys_of : Form → List ℕ
keys_of f = keys (rows ℕ (Unit {0}) f.0 f.1)

-- its blocks
abbrev pub reach : {P : Type 0} → tree.Root ℕ P → List ℕ
reach {P} t = blocks ℕ P t.0 t.1

abbrev pub elem : ℕ → List ℕ → Bool
elem b [] = false
elem b (x ∷ xs) = b == x || elem b xs

-- height and block
abbrev pub root_of : {P : Type 0} → tree.Root ℕ P → Root
root_of t = (suc t.0, t.1.0)

-- What makes a new tree: of create, put and remove.
pub data Change (P : Type 0) : Type 0 where
  begin : Change P
  puts : ℕ → P → Change P
  takes : ℕ → Change P

-- without the angle
abbrev pub without_angle : Change ℕ → Change (Unit {0})
without_angle begin = begin
without_angle (puts s a) = puts s tt
without_angle (takes s) = takes s

-- the tree that comes of it, its new blocks not yet numbered
abbrev pub changed : (P : Type 0) → Change P → tree.Root ℕ P → tree.Root (Option ℕ) P
changed P begin t = (0, (None, []))
changed P (puts s a) t = put_root (Option ℕ) P None s a (over_root Some same t)
changed P (takes s) t = rem_root (Option ℕ) P None s (over_root Some same t)

-- on these free blocks, ascending
unfoldable pub changed_on : (P : Type 0) → Change P → List ℕ → tree.Root ℕ P → tree.Root ℕ P
changed_on P d free t = numbered P (λ i. slice_index free i) (changed P d t)

-- how many blocks it writes
unfoldable pub writes : Change (Unit {0}) → Form → ℕ
writes d f = news (Unit {0}) (changed (Unit {0}) d f)

-- the free blocks that its new blocks take
abbrev pub new_blocks : Change ℕ → List ℕ → Tree → List ℕ
new_blocks d free t = map (λ i. slice_index free i) (places ℕ (changed ℕ d t))

-- Blocks on the device.
abbrev pub entries_in : Option Block → List (ℕ × ℕ)
entries_in None = []
entries_in (Some b) = b.entries

-- what a payload of a block of level l stands for
abbrev pub pay_at : (ℕ → Content) → (l : ℕ) → ℕ → Pay ℕ ℕ l
pay_at c zero p = p
pay_at c (suc l) b = (b, map_e (pay_at c l) (entries_in (block_in (c b))))

-- the level of a root of this height
abbrev pub top_level : ℕ → ℕ
top_level zero = zero
top_level (suc l) = l

-- the tree that a root has on these contents, whatever they are
unfoldable pub tree_at : (ℕ → Content) → Root → Tree
tree_at c r = (top_level r.0, pay_at c (suc (top_level r.0)) r.1)

abbrev pub payload : (l : ℕ) → Pay ℕ ℕ l → ℕ
payload zero p = p
payload (suc l) t = t.0

-- what a tree's block of level l holds
abbrev pub block_of : (l : ℕ) → tree.Tree ℕ ℕ l → Block
block_of l t = record { level = l; entries = map_e (payload l) t.1 }

-- each block of the tree stands on the device
abbrev pub Stored : (ℕ → Content) → Tree → Type 0
Stored c t = All ℕ ℕ (λ l u. block_in (c u.0) ≡ Some (block_of l u)) (suc t.0) t.1

-- in the layout, on tree blocks of a device of n blocks, its angles in range
pub record Fit (n : ℕ) (t : Tree) : Type 0 where
  pub laid : Laid ℕ ℕ t.0 t.1
  pub inside : All ℕ ℕ (λ l u. (2 ≤ u.0) × (u.0 < n)) (suc t.0) t.1
  pub angles : Each (λ (r : ℕ × ℕ). r.1 ≤ 18000) (rows ℕ ℕ t.0 t.1)

-- a root whose tree stands on the device and is sound
pub record Good (n : ℕ) (c : ℕ → Content) (r : Root) : Type 0 where
  pub height : 1 ≤ r.0
  pub stored : Stored c (tree_at c r)
  pub fit : Fit n (tree_at c r)

-- the tree that a root has on a device, and whether it stands there and is sound
abbrev pub tree_on : Meaning → Root → Tree
tree_on m r = tree_at (current_at m) r

abbrev pub GoodOn : Meaning → Root → Type 0
GoodOn m r = Good (blocks_of m) (current_at m) r

abbrev pub AllGood : {A : Type 0} → (A → Type 0) → List (Option A) → Type 0
AllGood P [] = Unit
AllGood P (None ∷ t) = AllGood P t
AllGood P (Some r ∷ t) = P r × AllGood P t
