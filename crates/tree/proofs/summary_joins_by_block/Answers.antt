use Rattle.tree.proofs.Walking.{sums}
use Rattle.tree.proofs.summary_joins_by_block.Goals as goal

pub returns : goal.returns
returns g c = sums _ _ _
