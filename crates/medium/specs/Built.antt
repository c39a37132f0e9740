-- What a mirror of two check layers shows over two devices, and when it is built.
use Rattle.device.specs.Meaning.{Meaning, flushed, shown_of}
use Rattle.check_layer.specs.Checked.{checked}
use Rattle.check_layer.specs.Checked as layer
use Rattle.mirror.specs.Mirrored.{mirrored}
use Rattle.mirror.specs.Mirrored as mirror

-- a side: each layer flushes what it is built over
abbrev pub side : Meaning → Meaning
side m = checked (flushed m)

abbrev pub built : Meaning → Meaning → Meaning
built m n = mirrored (flushed (side m)) (flushed (side n))

-- the devices are wide enough for the layers, and the sides are of one shape
pub record Buildable (m n : Meaning) : Type 0 where
  pub first : layer.Allowed (shown_of m)
  pub second : layer.Allowed (shown_of n)
  pub alike : mirror.Allowed (side m) (side n)
