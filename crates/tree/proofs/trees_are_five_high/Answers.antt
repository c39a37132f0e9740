use Rattle.tree.proofs.Puts.{five_high}
use Rattle.tree.proofs.trees_are_five_high.Goals as goal

pub returns : goal.returns
returns g c = five_high _ _
