-- The order of the checks: what a call's arguments and the tables refuse comes before what blocks and writes refuse.
use Rattle.std.specs.Prelude.{◌≡◌, ℕ, false, ℤ, Some, nat_lt}
use Rattle.table.specs.Rows.{off_angle}
use Rattle.model.specs.declared.refusal.Refusal.{Refusal}
use Rattle.model.specs.declared.refusal.Refusal.TheVariants.{Absent}
use Rattle.model.specs.Plain.{Ask, Ask.put, has, early}
use Rattle.model.specs.Model.{Shapes, refusal}

-- a refusal from the arguments and the tables stands, however few blocks are free and writes are left
abbrev pub EarlyFirst : Type 0
EarlyFirst = (S : Shapes) (q : Ask) (r : Refusal) → early (has S.working) q ≡ Some r → refusal S q ≡ Some r

-- so a put on an absent clone is refused as absent before anything of blocks is looked at
abbrev pub AbsentFirst : Type 0
AbsentFirst = (S : Shapes) (n s : ℕ) (a : ℤ) → nat_lt 23 n ≡ false → nat_lt 9999 s ≡ false → off_angle a ≡ false → has S.working n ≡ false → refusal S (put n s a) ≡ Some Absent
