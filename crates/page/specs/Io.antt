-- Blocks read and written on a device.
use Rattle.std.specs.Prelude.{◌≡◌, ℕ, ◌≤◌, List, Ok, Err, Result, MatchResult}
use Rattle.device.specs.declared.DeviceFault.{DeviceFault}
use Rattle.device.specs.Meaning.{Meaning, Shown}

-- a width that a volume uses
abbrev pub Broad : Shown → Type 0
Broad s = (32 ≤ s.width) × (s.width ≤ 40)

abbrev pub Wide : Meaning → Type 0
Wide m = (32 ≤ m.width) × (m.width ≤ 40)

-- what was read of a block's words, or the device's refusal; `holds` says what is read of words
abbrev pub ReadAs : {T : Type 0} → (List ℕ → T → Type 0) → Result (List ℕ) DeviceFault → Result T DeviceFault → Type 0
ReadAs holds read r = MatchResult r (λ x. (ws : List ℕ) × (read ≡ Ok ws) × holds ws x) (λ e. read ≡ Err e)
