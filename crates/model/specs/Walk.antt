-- Mount's walk: the first fault in order, clones ascending, each block before its children, left to right.
use Rattle.std.specs.Prelude.{◌≡◌, ℕ, zero, suc, Bool, true, false, ◌&&◌, List, [], ◌∷◌, length, Some, None, Option, ◌==◌, nat_le, nat_lt}
use Rattle.std.specs.Option.{option_or}
use Rattle.device.specs.declared.LayerMark.{LayerMark}
use Rattle.device.specs.Meaning.{Content, Content.words, Content.damaged}
use Rattle.page.specs.Block.{Block, decode}
use Rattle.page.specs.Slot.{Root, Table, every, rooted}
use Rattle.tree.specs.Layout.{next}
use Rattle.model.specs.TreeBlocks.{Good, AllGood, top_level}

pub data Fault : Type 0 where
  Damage : ℕ → LayerMark → Fault
  Malform : ℕ → Fault

-- keys ascend strictly and stay below hi
abbrev pub ascending : ℕ → List (ℕ × ℕ) → Bool
ascending hi [] = true
ascending hi (e ∷ r) = nat_lt e.0 (next hi r) && ascending hi r

-- a leaf's first speed is not below its bound; an index block has an entry, and its first separator is its bound
abbrev pub starts : ℕ → ℕ → List (ℕ × ℕ) → Bool
starts zero lo [] = true
starts zero lo (e ∷ r) = nat_le lo e.0
starts (suc l) lo [] = false
starts (suc l) lo (e ∷ r) = lo == e.0

-- angles in range, children on tree blocks
abbrev pub payable : ℕ → ℕ → ℕ × ℕ → Bool
payable n zero e = nat_le e.1 18000
payable n (suc l) e = nat_le 2 e.1 && nat_lt e.1 n

-- how few entries a root may have
abbrev pub least : ℕ → ℕ
least zero = 0
least (suc l) = 2

-- the block is one of level l, with at least k entries, for the speeds from lo to below hi
abbrev pub well_made : ℕ → ℕ → ℕ → ℕ → ℕ → Block → Bool
well_made n k l lo hi b =
    (b.level == l && (starts l lo b.entries && ascending hi b.entries))
    && ((nat_le k (length b.entries) && nat_le (length b.entries) 15) && every (payable n l) b.entries)

-- the first fault below
abbrev pub among : (ℕ → ℕ → ℕ → Option Fault) → ℕ → List (ℕ × ℕ) → Option Fault
among f hi [] = None
among f hi (e ∷ r) = option_or (f e.0 (next hi r) e.1) (among f hi r)

abbrev pub if_made : ℕ → Bool → Option Fault → Option Fault
if_made b true below = below
if_made b false below = Some (Malform b)

-- the first fault at block b or below; `below` goes on with its entries
abbrev pub in_block : ℕ → ℕ → ℕ → ℕ → ℕ → ℕ → (List (ℕ × ℕ) → Option Fault) → Option Block → Option Fault
in_block n k l lo hi b below None = Some (Malform b)
in_block n k l lo hi b below (Some x) = if_made b (well_made n k l lo hi x) (below x.entries)

abbrev pub in_content : ℕ → ℕ → ℕ → ℕ → ℕ → ℕ → (List (ℕ × ℕ) → Option Fault) → Content → Option Fault
in_content n k l lo hi b below (words ws) = in_block n k l lo hi b below (decode ws)
in_content n k l lo hi b below (damaged m) = Some (Damage b m)

module _ (n : ℕ) (c : ℕ → Content) where
  abbrev pub fault_below : (l : ℕ) → ℕ → List (ℕ × ℕ) → Option Fault
  fault_below zero hi es = None
  fault_below (suc l) hi es = among (λ lo up b. in_content n 7 l lo up b (fault_below l up) (c b)) hi es

  abbrev pub fault_at : ℕ → ℕ → ℕ → ℕ → ℕ → Option Fault
  fault_at k l lo hi b = in_content n k l lo hi b (fault_below l hi) (c b)

  -- of a clone's tree
  abbrev pub fault_of : Root → Option Fault
  fault_of r = fault_at (least (top_level r.0)) (top_level r.0) 0 10000 r.1

abbrev pub pair_with : ℕ → Option Fault → Option (ℕ × Fault)
pair_with k None = None
pair_with k (Some f) = Some (k, f)

-- clones from number k on, each fault with its clone
abbrev pub walk : ℕ → (ℕ → Content) → ℕ → Table → Option (ℕ × Fault)
walk n c k [] = None
walk n c k (None ∷ t) = walk n c (suc k) t
walk n c k (Some r ∷ t) = option_or (pair_with k (fault_of n c r)) (walk n c (suc k) t)

-- no fault is found exactly when each root's tree stands there and is sound
abbrev pub WalkExact : Type 0
WalkExact = (n : ℕ) (c : ℕ → Content) (k : ℕ) (t : Table) → every (rooted n) t ≡ true →
    (walk n c k t ≡ None → AllGood (Good n c) t) × (AllGood (Good n c) t → walk n c k t ≡ None)
