use Rattle.tree.proofs.Walking.{walks}
use Rattle.tree.proofs.walk_reads_the_rows.Goals as goal

pub returns : goal.returns
returns g c = walks _ _ _
