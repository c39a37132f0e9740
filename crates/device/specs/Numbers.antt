-- The numbers of layers and of a device's refusals, and what each refusal carries.
use Rattle.std.specs.Prelude.{ℕ}
use Rattle.device.specs.declared.Layer.{Layer}
use Rattle.device.specs.declared.Layer.TheVariants.{Memory, Log, Check, Mirror, Quota}
use Rattle.device.specs.declared.LayerMark.{LayerMark}
use Rattle.device.specs.declared.DeviceFault.{DeviceFault}
use Rattle.device.specs.declared.DeviceFault.TheVariants.{Length, Range, Worn, Damaged}

abbrev pub layer_code : Layer → ℕ
layer_code Memory = 1
layer_code Log = 2
layer_code Check = 3
layer_code Mirror = 4
layer_code Quota = 5

abbrev pub fault_number : DeviceFault → ℕ
fault_number (Length k) = 3
fault_number (Range k) = 4
fault_number (Worn k) = 11
fault_number (Damaged k) = 14

abbrev pub fault_mark : DeviceFault → LayerMark
fault_mark (Length k) = k
fault_mark (Range k) = k
fault_mark (Worn k) = k
fault_mark (Damaged k) = k

-- a shape that breaks the limits, in opening or building
abbrev pub shape_number : ℕ
shape_number = 2
