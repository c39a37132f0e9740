use Rattle.std.proofs.Common.{subst}
use Rattle.page.specs.Block.{kids_of}
use Rattle.counts.specs.Counts.{Roomy}
use Rattle.counts.proofs.Opens.{roomy, held_alive}
use Rattle.counts.proofs.moves.open.Goals as goal

pub read_page-page-requires-clause-holds : goal.read_page-page-requires-clause-holds
read_page-page-requires-clause-holds g c = let o = c.requires.owned in (o.counted.nodes c.args.block (held_alive _ _ o.others c.args.block o.counted)).0

pub open-requires-clause-room : goal.open-requires-clause-room
open-requires-clause-room g c =
    let o = c.requires.owned in
    let cs = c.args.counts.now.of.items in
    subst (λ n. Roomy (kids_of n) cs) c.read_page-page.ensures.page (roomy (g.D.Device.meaning c.args.device.now) cs o.others c.args.block o.counted o.modest c.requires.few)
