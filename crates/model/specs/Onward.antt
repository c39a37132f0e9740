-- No history is stuck: each call that is in turn has a step; and a format leads to a formatted device.
use Rattle.std.specs.Prelude.{ℕ, List, [], ◌∷◌}
use Rattle.device.specs.Meaning.{Meaning}
use Rattle.device.specs.Cuts.{Op, Op.write, Op.flush, replay}
use Rattle.page.specs.Slot.{slot_words}
use Rattle.model.specs.Plain.{Map, Call, Call.ask, Call.finish, Call.reopen, Call.mount, Answer, blank}
use Rattle.model.specs.World.{Mode, Mode.mounted, Mode.sealed, Mode.down, Event, Run, Step, Formatted, bare, Fits}
use Rattle.model.specs.Right.{Ends}

-- the calls that may come next
abbrev pub Turn : Mode → Call → Type 0
Turn (mounted t) (ask q) = Unit {0}
Turn (mounted t) finish = ⊥
Turn (mounted t) reopen = ⊥
Turn (mounted t) mount = Unit {0}
Turn (sealed t) (ask q) = ⊥
Turn (sealed t) finish = Unit {0}
Turn (sealed t) reopen = Unit {0}
Turn (sealed t) mount = ⊥
Turn down (ask q) = ⊥
Turn down finish = ⊥
Turn down reopen = ⊥
Turn down mount = Unit {0}

abbrev pub GoesOn : (V : Type 0) → Type 0
GoesOn V =
    (join : ℕ → Map → V) (m : Meaning) (es : List (Event V)) (w : Mode) (d : Meaning) (c : Call)
    → Formatted m → Run V join (mounted bare) m es → Ends (mounted bare) m es w d → Turn w c
    → (a : Answer V) × (os : List Op) × (w' : Mode) × (m' : Meaning) × Step V join w d c a os w' m'

-- the device calls of format
abbrev pub formatting : ℕ → List Op
formatting w = write 0 (slot_words w 0 blank) ∷ write 1 (slot_words w 1 blank) ∷ flush ∷ []

abbrev pub Formats : Type 0
Formats = (m : Meaning) → Fits m → Formatted (replay (formatting m.width) m)
