-- A cut of the power as a function of what it chooses; the device calls of a call, replayed.
use Rattle.std.proofs.Common.{◌∙◌, ap}
use Rattle.std.specs.Prelude.{◌≡◌, ◌++◌, ℕ, zero, suc, ◌<◌, ◌≤◌, Bool, true, false, List, [], ◌∷◌, Ok, Err, Result}
use Rattle.device.specs.declared.LayerMark.{LayerMark}
use Rattle.device.specs.declared.DeviceFault.{DeviceFault}
use Rattle.device.specs.Meaning.{Content, Cell, Meaning, blocks_of, written, flushed, endless, Held, Lawful, Cut}

-- the device calls that change the meaning
pub data Op : Type 0 where
  write : ℕ → List ℕ → Op
  flush : Op

abbrev pub apply : Op → Meaning → Meaning
apply (write b ws) m = written m b ws
apply flush m = flushed m

abbrev pub replay : List Op → Meaning → Meaning
replay [] m = m
replay (o ∷ os) m = replay os (apply o m)

pub replay_goes_on : (os ps : List Op) (m n k : Meaning) → n ≡ replay os m → k ≡ replay ps n → k ≡ replay (os ++ ps) m
replay_goes_on [] ps m n k e f = f ∙ ap (replay ps) e
replay_goes_on (o ∷ os) ps m n k e f = replay_goes_on os ps (apply o m) n k e f

-- the calls that a write is: none where it is refused
abbrev pub written_ops : Result Unit DeviceFault → ℕ → List ℕ → List Op
written_ops (Ok u) b ws = write b ws ∷ []
written_ops (Err e) b ws = []

-- What a cut may choose for a block: its persisted content, its current one, or another. At mark 0 no choice matters; at
-- mark 1 there is no other content, so that choice means the current one.
pub data Choice : Type 0 where
  persisted : Choice
  current : Choice
  other : Content → Choice

-- is what was persisted kept?
abbrev pub keeps_persisted : Choice → Bool
keeps_persisted persisted = true
keeps_persisted current = false
keeps_persisted (other x) = false

pub record Cutting : Type 0 where
  pub choice : ℕ → Choice
  pub left : ℕ
  pub left_mark : LayerMark

abbrev pub remains : ℕ → Choice → Cell → Content
remains zero k c = c.current
remains (suc zero) persisted c = c.persisted
remains (suc zero) current c = c.current
remains (suc zero) (other x) c = c.current
remains (suc (suc n)) persisted c = c.persisted
remains (suc (suc n)) current c = c.current
remains (suc (suc n)) (other x) c = x

abbrev pub cut_cell : Choice → Cell → Cell
cut_cell k c = record { persisted = remains c.mark k c; current = remains c.mark k c; mark = 0 }

-- from block i on
abbrev pub cut_cells : (ℕ → Choice) → ℕ → List Cell → List Cell
cut_cells k i [] = []
cut_cells k i (c ∷ cs) = cut_cell (k i) c ∷ cut_cells k (suc i) cs

abbrev pub cut : Cutting → Meaning → Meaning
cut κ m = record { width = m.width; cells = cut_cells κ.choice 0 m.cells; left = κ.left; left_mark = κ.left_mark }

-- a choice of contents that a device of this width can hold
abbrev pub Fits : ℕ → Choice → Type 0
Fits w persisted = Unit
Fits w current = Unit
Fits w (other x) = Held w x

-- each choice is a cut, and each cut comes by a choice
abbrev pub CutsAgree : Type 0
CutsAgree =
    ((κ : Cutting) (m : Meaning) → Lawful m → ((b : ℕ) → Fits m.width (κ.choice b)) → κ.left ≤ endless → κ.left_mark.depth ≤ 255 → Cut m (cut κ m))
    × ((m n : Meaning) → Cut m n → (κ : Cutting) × ((b : ℕ) → b < blocks_of m → Fits m.width (κ.choice b)) × (n ≡ cut κ m))
