use Rattle.std.proofs.Common.{ℕ, ◌<◌, ◌≤◌, get_or}
use Rattle.counts.proofs.Counts.lowest_of.Given as goal

abbrev pub invariant-loop-i : goal.invariant-loop-i
invariant-loop-i l = 0 < l.low → (k : ℕ) → l.fn.from ≤ k → k < l.i → 0 < get_or l.self.of.items k 0
