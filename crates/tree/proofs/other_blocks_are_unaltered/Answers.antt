use Rattle.tree.proofs.Kept.{unaltered}
use Rattle.tree.proofs.other_blocks_are_unaltered.Goals as goal

pub returns : goal.returns
returns g c = unaltered _ _
