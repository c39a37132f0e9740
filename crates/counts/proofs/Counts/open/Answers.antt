use Rattle.std.proofs.Common.{length, get_or, Some, ap, arith}
use Rattle.page.specs.Block.{kids_of}
use Rattle.page.specs.View.{view}
use Rattle.counts.proofs.Steps.{within as inside}
use Rattle.counts.proofs.Opens.{add_all_ge, length_add_all}
use Rattle.counts.proofs.Counts.open.Goals as goal

pub get-requires : goal.get-requires
get-requires c = omega (arith, inside c.args.self.now.of.items c.args.block c.requires.alive)

pub set-requires : goal.set-requires
set-requires c = omega (arith, inside c.args.self.now.of.items c.args.block c.requires.alive)

pub get-count-requires : goal.get-count-requires
get-count-requires c = omega (arith, ap length c.add_kids.ensures, length_add_all (kids_of (Some (view c.args.page.now))) c.args.self.now.of.items, inside c.args.self.now.of.items c.args.block c.requires.alive)

pub overflow_sub-count : goal.overflow_sub-count
overflow_sub-count c = omega (arith, c.get-count.ensures, ap (λ ds. get_or ds c.args.block 0) c.add_kids.ensures, add_all_ge (kids_of (Some (view c.args.page.now))) c.args.self.now.of.items c.args.block, c.requires.alive)

pub set-requires-2 : goal.set-requires-2
set-requires-2 c = omega (arith, ap length c.add_kids.ensures, length_add_all (kids_of (Some (view c.args.page.now))) c.args.self.now.of.items, inside c.args.self.now.of.items c.args.block c.requires.alive)
