use Rattle.tree.proofs.Removes.{remove_sound}
use Rattle.tree.proofs.remove_clears_one_row.Goals as goal

pub returns : goal.returns
returns g c = remove_sound _ _
