use Rattle.std.proofs.Common.{ℕ, ◌-◌, ◌<◌, ◌≤◌, length, get_or}
use Rattle.counts.proofs.Counts.next_free.Given as goal

abbrev pub invariant-loop-next : goal.invariant-loop-next
invariant-loop-next l = record {
  on : l.fn.from ≤ l.next;
  over : (i : ℕ) → l.fn.from ≤ i → i < l.next → 0 < get_or l.self.of.items i 0;
}

abbrev pub decreases-loop-next : goal.decreases-loop-next
decreases-loop-next l = length l.self.of.items - l.next

abbrev pub invariant-loop-next-2 : goal.invariant-loop-next-2
invariant-loop-next-2 l = record {
  on : l.fn.from ≤ l.next;
  over : (i : ℕ) → l.fn.from ≤ i → i < l.next → 0 < get_or l.self.of.items i 0;
}

abbrev pub decreases-loop-next-2 : goal.decreases-loop-next-2
decreases-loop-next-2 l = length l.self.of.items - l.next
