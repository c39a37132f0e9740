-- The angle at a speed, over ascending rows.
use Rattle.std.specs.Prelude.{ℕ, ◌-◌, cond, List, [], ◌∷◌, ℤ, pos, ◌+ℤ◌, ◌-ℤ◌, ◌*ℤ◌, Some, None, Option, int_div, nat_le, nat_lt}

-- the second, if there is one
abbrev pub later : {R : Type 0} → Option R → Option R → Option R
later x None = x
later x (Some y) = Some y

-- the last row whose speed is at most s
abbrev pub up_to : {P : Type 0} → ℕ → List (ℕ × P) → Option (ℕ × P)
up_to s [] = None
up_to s (e ∷ r) = cond (nat_lt s e.0) None (later (Some e) (up_to s r))

-- the first row whose speed is above s
abbrev pub past : {P : Type 0} → ℕ → List (ℕ × P) → Option (ℕ × P)
past s [] = None
past s (e ∷ r) = cond (nat_lt s e.0) (Some e) (past s r)

-- With the lower row p, a and the upper row r, b: a + ((b − a) × (s − p)) ÷ (r − p), the quotient cut toward zero.
-- A speed at or below the lower row has that row's angle, one at or above the upper row that one's.
abbrev pub between : ℕ × ℤ → ℕ × ℤ → ℕ → ℤ
between lo hi s =
    cond (nat_le s lo.0) lo.1
    (cond (nat_le hi.0 s) hi.1
    (lo.1 +ℤ int_div ((hi.1 -ℤ lo.1) *ℤ pos (s - lo.0)) (pos (hi.0 - lo.0))))

-- below the first row its angle, above the last row its angle, none without rows
abbrev pub angle_by : Option (ℕ × ℤ) → Option (ℕ × ℤ) → ℕ → Option ℤ
angle_by None None s = None
angle_by None (Some hi) s = Some hi.1
angle_by (Some lo) None s = Some lo.1
angle_by (Some lo) (Some hi) s = Some (between lo hi s)

abbrev pub angle_at : ℕ → List (ℕ × ℤ) → Option ℤ
angle_at s rows = angle_by (up_to s rows) (past s rows) s
