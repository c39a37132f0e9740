use Rattle.model.proofs.Right.{histories}
use Rattle.model.proofs.clones_stay_apart.Goals as goal

pub returns : goal.returns
returns g c = histories _
