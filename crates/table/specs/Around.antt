-- The rows on either side of a speed.
use Rattle.std.specs.Prelude.{◌≡◌, ℕ, List, ℤ}
use Rattle.std.specs.Option.{option_map}
use Rattle.table.specs.Rows.{pair_of}
use Rattle.table.specs.Angles.{up_to, past}
use Rattle.table.specs.declared.around.Around.{Around}

-- x is the last of the rows at or below speed s, and the first above it
abbrev pub StandsAround : ℕ → List (ℕ × ℤ) → Around → Type 0
StandsAround s rows x = (option_map pair_of x.below ≡ up_to s rows) × (option_map pair_of x.above ≡ past s rows)
