-- The numbers of the volume's refusals, and what each carries.
use Rattle.std.specs.Prelude.{ℕ, Some, None, Option}
use Rattle.device.specs.declared.LayerMark.{LayerMark}
use Rattle.table.specs.declared.row.RowFault.{RowFault}
use Rattle.table.specs.declared.row.RowFault.TheVariants as row
use Rattle.model.specs.declared.refusal.Refusal.{Refusal}
use Rattle.model.specs.declared.refusal.Refusal.TheVariants.{Shape, Number, Speed, Angle, Absent, Taken, Short, Worn, Last, NoVolume, Damaged, Malformed}

abbrev pub number : Refusal → ℕ
number Shape = 2
number Number = 5
number Speed = 6
number Angle = 7
number Absent = 8
number Taken = 9
number Short = 10
number (Worn c k) = 11
number Last = 12
number NoVolume = 13
number (Damaged b c k) = 14
number (Malformed b c) = 15

-- the block that a refusal names
abbrev pub block_named : Refusal → Option ℕ
block_named Shape = None
block_named Number = None
block_named Speed = None
block_named Angle = None
block_named Absent = None
block_named Taken = None
block_named Short = None
block_named (Worn c k) = None
block_named Last = None
block_named NoVolume = None
block_named (Damaged b c k) = Some b
block_named (Malformed b c) = Some b

-- the clone that a refusal names
abbrev pub clone_named : Refusal → Option ℕ
clone_named Shape = None
clone_named Number = None
clone_named Speed = None
clone_named Angle = None
clone_named Absent = None
clone_named Taken = None
clone_named Short = None
clone_named (Worn c k) = c
clone_named Last = None
clone_named NoVolume = None
clone_named (Damaged b c k) = Some c
clone_named (Malformed b c) = Some c

-- the layer that a refusal names
abbrev pub layer_named : Refusal → Option LayerMark
layer_named Shape = None
layer_named Number = None
layer_named Speed = None
layer_named Angle = None
layer_named Absent = None
layer_named Taken = None
layer_named Short = None
layer_named (Worn c k) = Some k
layer_named Last = None
layer_named NoVolume = None
layer_named (Damaged b c k) = Some k
layer_named (Malformed b c) = None

-- the refusal of two numbers that are no row
abbrev pub refused_row : RowFault → Refusal
refused_row row.Speed = Speed
refused_row row.Angle = Angle
