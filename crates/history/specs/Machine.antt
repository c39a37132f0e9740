-- A machine, as the model sees it, and what comes of a call.
use Rattle.std.specs.Prelude.{◌≡◌, ℕ, List, Ok, Err, Result}
use Rattle.device.specs.Meaning.{Meaning}
use Rattle.device.specs.Cuts.{Op}
use Rattle.table.specs.declared.pair.Pair.{Pair}
use Rattle.model.specs.Plain.{Map, Call, Answer}
use Rattle.model.specs.World.{Mode, Mode.mounted, Mode.sealed, Mode.down, Step}
use Rattle.model.specs.Onward.{Turn}
use Rattle.history.specs.declared.call.Answer.{Answer as Given}
use Rattle.history.specs.declared.call.Denied.{Denied}
use Rattle.history.specs.declared.call.Denied.TheVariants.{OutOfTurn, Refused}
use Rattle.history.specs.declared.machine.Machine.{Machine}
use Rattle.history.specs.declared.machine.Machine.TheVariants.{Mounted, Sealed, Down}
use Rattle.history.specs.Calls.{answer_of}

-- a machine's mode and what its device means; f is what a device means
abbrev pub state_of : {D : Type 0} → (D → Meaning) → Machine D → Mode × Meaning
state_of f (Mounted v) = (mounted v.0, v.1)
state_of f (Sealed v) = (sealed v.0, v.1)
state_of f (Down d) = (down, f d)

-- a step of some device calls
abbrev pub Stepped : (V : Type 0) (join : ℕ → Map → V) → Mode × Meaning → Call → Answer V → Mode × Meaning → Type 0
Stepped V join s c a s' = (os : List Op) × Step V join s.0 s.1 c a os s'.0 s'.1

-- What comes of a call: an answer or a refusal that keeps R; or it is out of turn, and nothing changes.
abbrev pub Outcome : {V : Type 0} → (Mode × Meaning → Call → Answer V → Mode × Meaning → Type 0) → List Pair → Mode × Meaning → Call → Result (Given V) Denied → Mode × Meaning → Type 0
Outcome R out s c (Ok a) s' = R s c (answer_of out (Ok a)) s'
Outcome R out s c (Err (Refused r)) s' = R s c (answer_of out (Err r)) s'
Outcome R out s c (Err OutOfTurn) s' = (Turn s.0 c → ⊥) × (s' ≡ s)
