use Rattle.tree.proofs.Apart.{two_a_level}
use Rattle.tree.proofs.two_blocks_a_level_are_new.Goals as goal

pub returns : goal.returns
returns g c = two_a_level _
