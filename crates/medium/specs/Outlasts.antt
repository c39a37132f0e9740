-- What outlasts a cut of the power: the mirror of a memory and a log, as a pile.
use Rattle.std.specs.Prelude.{◌≡◌, ℕ, List, Bool, length}
use Rattle.device.specs.Meaning.{Meaning, Cut}
use Rattle.device.specs.Cuts.{Op}
use Rattle.memory.specs.Memory.{Parts, memory}
use Rattle.memory.specs.Memory as words
use Rattle.log_device.specs.Log.{log_of}
use Rattle.log_device.specs.Log as log
use Rattle.piles.specs.Piles.{Pile, Pile.bottom, Pile.check, Pile.mirror, shows, Built, PerBottom, part, Accepts, counted}
use Rattle.medium.specs.declared.Sides.{Sides}

abbrev pub sides : Meaning → Meaning → Pile
sides m l = mirror (check (bottom m)) (check (bottom l))

-- The power failed at a moment of a call of such a mirror, with any of the sides ahead: of what the memory and the log were then, these are words and an
-- image that a cut may leave. Then m is a cut of what the mirror showed.
abbrev pub Outlasts : Sides → Meaning → Type 0
Outlasts s m =
    (p : Pile) (o : Op) (d : PerBottom Bool) (mem : Parts) (img : List ℕ) (r : ℕ)
    → Built p → Accepts (shows p) o → part o d p ≡ sides (memory mem) (log_of img s.blocks s.words.width r)
    → length mem.marks ≡ length s.words.marks.items → mem.width ≡ s.words.width → words.Sound mem → words.Leaves mem s.words.persisted.items
    → log.Sound img s.blocks s.words.width r → log.Leaves s.words.width r img s.image.items
    → Cut (counted o d p) m
