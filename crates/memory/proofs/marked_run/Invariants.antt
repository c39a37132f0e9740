use Rattle.std.proofs.Common.{ℕ, ◌+◌, ◌-◌, ◌<◌, ◌≤◌, length, slice_index}
use Rattle.memory.proofs.marked_run.Given as goal

abbrev pub invariant-loop-run : goal.invariant-loop-run
invariant-loop-run l = record {
  within : l.from + l.run ≤ length l.marks;
  marked : (i : ℕ) → l.from ≤ i → i < l.from + l.run → 0 < slice_index l.marks i;
}

abbrev pub decreases-loop-run : goal.decreases-loop-run
decreases-loop-run l = length l.marks - l.run
