use Rattle.counts.proofs.Hints.{up_to}
use Rattle.counts.proofs.Counts.taken.Goals as goal

pub returns : goal.returns
returns c = up_to c.args.self.now.of.items c.args.hint c.next_free.result c.requires c.next_free.ensures.on c.next_free.ensures.over
