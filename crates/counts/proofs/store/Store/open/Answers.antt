use Rattle.counts.proofs.Opens.{held_alive}
use Rattle.counts.proofs.store.Store.open.Goals as goal

pub read_page-page-requires : goal.read_page-page-requires
read_page-page-requires g c = let o = c.requires in (o.counted.nodes c.args.block (held_alive _ _ o.others c.args.block o.counted)).0
