use Rattle.tree.proofs.Walking.{looks}
use Rattle.tree.proofs.other_rows_stay.Goals as goal

pub returns : goal.returns
returns g c = looks _ _
