-- The numbers of the programs' faults, and why a log is not opened, as such a fault.
use Rattle.std.specs.Prelude.{ℕ}
use Rattle.device.specs.Numbers.{shape_number}
use Rattle.log_device.specs.declared.LogRefusal.{LogRefusal}
use Rattle.medium.specs.declared.Fault.{Fault}

abbrev pub fault_number : Fault → ℕ
fault_number Fault.Shape = shape_number
fault_number Fault.Malformed = 15

abbrev pub log_fault : LogRefusal → Fault
log_fault LogRefusal.Shape = Fault.Shape
log_fault LogRefusal.Malformed = Fault.Malformed
