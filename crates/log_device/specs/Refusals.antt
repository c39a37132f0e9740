-- Why an image is not opened.
use Rattle.std.specs.Prelude.{ℕ, List, length}
use Rattle.device.specs.Numbers.{shape_number}
use Rattle.log_device.specs.Log.{Shaped, Formed}
use Rattle.log_device.specs.declared.LogRefusal.{LogRefusal}
use Rattle.log_device.specs.declared.LogRefusal.TheVariants.{Shape, Malformed}

abbrev pub refusal_number : LogRefusal → ℕ
refusal_number Shape = shape_number
refusal_number Malformed = 15

-- when each refusal is given
abbrev pub Refused : LogRefusal → List ℕ → ℕ → ℕ → Type 0
Refused Shape img n w = Shaped (length img) n w → ⊥
Refused Malformed img n w = Shaped (length img) n w × (Formed img n w → ⊥)
