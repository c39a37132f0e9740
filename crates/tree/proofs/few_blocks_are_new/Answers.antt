use Rattle.tree.proofs.News.{few_new}
use Rattle.tree.proofs.few_blocks_are_new.Goals as goal

pub returns : goal.returns
returns g c = few_new _ _
