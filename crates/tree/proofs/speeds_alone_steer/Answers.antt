use Rattle.tree.proofs.Over.{natural}
use Rattle.tree.proofs.speeds_alone_steer.Goals as goal

pub returns : goal.returns
returns g c = natural _ _ _ _
