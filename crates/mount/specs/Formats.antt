-- What format promises.
use Rattle.std.specs.Prelude.{◌≡◌, cond, Some, None, Option, nat_lt}
use Rattle.device.specs.Meaning.{Meaning, blocks_of}
use Rattle.device.specs.Cuts.{replay}
use Rattle.model.specs.declared.refusal.Refusal.{Refusal}
use Rattle.model.specs.declared.refusal.Refusal.TheVariants.{Shape, Worn}
use Rattle.model.specs.World.{sizes, Formatted}
use Rattle.model.specs.Onward.{formatting}

-- why a device cannot be formatted
abbrev pub hindrance : Meaning → Option Refusal
hindrance m = cond (sizes (blocks_of m) m.width) (cond (nat_lt m.left 2) (Some (Worn None m.left_mark)) None) (Some Shape)

-- the device was formatted
pub record Made (m m' : Meaning) : Type 0 where
  pub able : hindrance m ≡ None
  pub after : m' ≡ replay (formatting m.width) m
  pub formatted : Formatted m'

-- a refusal: the device as it was
pub record Unmade (m m' : Meaning) (e : Refusal) : Type 0 where
  pub due : hindrance m ≡ Some e
  pub same : m' ≡ m
