use Rattle.std.proofs.Common.{◌≡◌, [], map, length, take}
use Rattle.page.specs.declared.page.Entry.{Entry}
use Rattle.counts.specs.Hint.{Taken}
use Rattle.counts.specs.Moves.{Dropped}
use Rattle.counts.proofs.Counts.+release.Given as goal

abbrev pub decreases-release : goal.decreases-release
decreases-release g l = l.level

abbrev pub invariant-loop-entry : goal.invariant-loop-entry
invariant-loop-entry g l = record {
  kept : g.D.Device.meaning l.device ≡ g.D.Device.meaning l.initial.device;
  sized : length l.self.of.items ≡ length l.initial.self.of.items;
  dropped : Dropped (take l.entry-index (map (λ (e : Entry). e.value) l.entry-items)) (g.D.Device.meaning l.initial.device, l.initial.self.of.items) l.self.of.items;
  hint : Taken l.hint l.self.of.items;
  calls : g.D.Device.led [] l.fn.device l.device;
}
