-- Rows as pairs of a speed and an angle, and which numbers make one.
use Rattle.std.specs.Prelude.{ℕ, ◌+◌, ◌-◌, Bool, cond, ℤ, pos, negsuc, Ok, Err, Result, nat_lt}
use Rattle.table.specs.declared.row.Row.{Row}
use Rattle.table.specs.declared.row.RowFault.{RowFault}
use Rattle.table.specs.declared.row.RowFault.TheVariants.{Speed, Angle}

abbrev pub pair_of : Row → ℕ × ℤ
pair_of r = (r.speed, r.angle)

-- an angle beyond 9,000 either way
abbrev pub off_angle : ℤ → Bool
off_angle (pos n) = nat_lt 9000 n
off_angle (negsuc n) = nat_lt 8999 n

-- two numbers as a row, or the refusal: the speed is looked at first
abbrev pub checked_row : ℕ → ℤ → Result (ℕ × ℤ) RowFault
checked_row s a = cond (nat_lt 9999 s) (Err Speed) (cond (off_angle a) (Err Angle) (Ok (s, a)))

abbrev pub shown : Result Row RowFault → Result (ℕ × ℤ) RowFault
shown (Ok r) = Ok (pair_of r)
shown (Err e) = Err e

-- the angle counted from -9,000, as a stored word has it
abbrev pub payload_of : ℤ → ℕ
payload_of (pos n) = n + 9000
payload_of (negsuc n) = 9000 - (n + 1)

-- the angle that a stored word stands for
abbrev pub angle_of : ℕ → ℤ
angle_of p = cond (nat_lt p 9000) (negsuc (8999 - p)) (pos (p - 9000))

abbrev pub fault_number : RowFault → ℕ
fault_number Speed = 6
fault_number Angle = 7
