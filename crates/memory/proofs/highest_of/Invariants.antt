use Rattle.std.proofs.Common.{◌≡◌, ℕ, ◌<◌, ◌≤◌, get_or}
use Rattle.memory.proofs.highest_of.Given as goal

abbrev pub invariant-loop-i : goal.invariant-loop-i
invariant-loop-i l = l.high ≡ 0 → (k : ℕ) → l.fn.from ≤ k → k < l.i → get_or l.marks k 0 ≡ 0
