use Rattle.std.proofs.Common.{subst, arith}
use Rattle.page.specs.View.{view}
use Rattle.page.proofs.Pages.{entries_length}
use Rattle.removal.specs.Able.{At}
use Rattle.removal.proofs.Fillings.{two}
use Rattle.removal.proofs.fill.Goals as goal

pub overflow_sub-i : goal.overflow_sub-i
overflow_sub-i g c = omega (arith, c.if-i-len.false, c.len.ensures.value, two _ _ _ _ c.requires.able, entries_length c.args.page.now)

pub fill_left-requires-clause-at : goal.fill_left-requires-clause-at
fill_left-requires-clause-at g c = subst (At (view c.args.page.now) c.args.speed) (omega (arith, c.if-i-len.false, c.len.ensures.value, two _ _ _ _ c.requires.able, entries_length c.args.page.now)) c.requires.at

pub fill_left-requires-clause-last : goal.fill_left-requires-clause-last
fill_left-requires-clause-last g c = omega (arith, c.if-i-len.false, c.requires.at.within, c.len.ensures.value, two _ _ _ _ c.requires.able, entries_length c.args.page.now)
