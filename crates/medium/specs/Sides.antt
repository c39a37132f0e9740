-- What lies below a mirror: what it shows, and when it does not open.
use Rattle.std.specs.Prelude.{ℕ, ◌+◌, ◌≤◌, ◌⊎◌, length}
use Rattle.device.specs.Meaning.{Meaning, Limits}
use Rattle.memory.specs.Memory as memory
use Rattle.log_device.specs.Log as log
use Rattle.log_device.specs.Log.{opened_log}
use Rattle.medium.specs.Held.{held, opened}
use Rattle.medium.specs.Built.{Buildable, built}
use Rattle.medium.specs.declared.Fault.{Fault}
use Rattle.medium.specs.declared.Sides.{Sides}

-- a mirror of n blocks of w words below their check, whose log has room for k writes
pub record Planned (n w k : ℕ) : Type 0 where
  pub limits : Limits n (w + 1)
  pub few : k ≤ 1000000

abbrev pub log_shown : Sides → Meaning
log_shown s = opened_log s.image.items s.blocks s.words.width

-- what the mirror shows once it is opened
abbrev pub shown : Sides → Meaning
shown s = built (opened s.words) (log_shown s)

-- the image has the shape of the log, and its words are in order
abbrev pub LogShaped : Sides → Type 0
LogShaped s = log.Shaped (length s.image.items) s.blocks s.words.width

abbrev pub LogFormed : Sides → Type 0
LogFormed s = log.Formed s.image.items s.blocks s.words.width

-- when each fault is given: the log is opened first, then the memory, and then the layers are built
abbrev pub Refused : Fault → Sides → Type 0
Refused Fault.Shape s = (LogShaped s → ⊥) ⊎ (LogShaped s × LogFormed s × (memory.Shaped (held s.words) → Buildable (opened s.words) (log_shown s) → ⊥))
Refused Fault.Malformed s = LogShaped s × (LogFormed s → ⊥)
