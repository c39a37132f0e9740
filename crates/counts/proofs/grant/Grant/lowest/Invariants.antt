use Rattle.std.proofs.Common.{◌≡◌, ◌-◌, ◌++◌, length}
use Rattle.counts.specs.Counts.{spare, free_blocks}
use Rattle.counts.proofs.grant.Grant.lowest.Given as goal

abbrev pub invariant-loop : goal.invariant-loop
invariant-loop l = record {
  count : length l.blocks.items ≡ l.counter;
  these : free_blocks l.counts.of.items ≡ l.blocks.items ++ spare (length l.counts.of.items - l.next) l.next l.counts.of.items;
}
