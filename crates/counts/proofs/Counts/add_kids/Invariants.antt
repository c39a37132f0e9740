use Rattle.std.proofs.Common.{◌≡◌, ℕ, ◌+◌, ◌≤◌, length, get_or, drop, Some}
use Rattle.page.specs.Block.{kids_of}
use Rattle.counts.specs.Counts.{add_all}
use Rattle.page.specs.View.{view}
use Rattle.counts.proofs.Counts.add_kids.Given as goal

abbrev pub invariant-loop-entry : goal.invariant-loop-entry
invariant-loop-entry l = record {
  long : length l.self.of.items ≡ length l.initial.self.of.items;
  small : (b : ℕ) → get_or l.self.of.items b 0 ≤ get_or l.initial.self.of.items b 0 + l.entry-index;
  rest : add_all (drop l.entry-index (kids_of (Some (view l.page)))) l.self.of.items ≡ add_all (kids_of (Some (view l.page))) l.initial.self.of.items;
}
