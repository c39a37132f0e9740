use Rattle.std.proofs.Common.{◌-◌, ◌≤◌, length}
use Rattle.memory.proofs.Facts.{Persisting}
use Rattle.memory.proofs.settle_marked.Given as goal

abbrev pub invariant-loop-block : goal.invariant-loop-block
invariant-loop-block l = record {
  within : l.block ≤ length l.initial.marks;
  part : Persisting l.from l.to l.marks l.width (length l.initial.marks) l.block;
}

abbrev pub decreases-loop-block : goal.decreases-loop-block
decreases-loop-block l = length l.initial.marks - l.block
