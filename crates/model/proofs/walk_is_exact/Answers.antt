use Rattle.model.proofs.Walks.{walk_exact}
use Rattle.model.proofs.walk_is_exact.Goals as goal

pub returns : goal.returns
returns c = walk_exact
