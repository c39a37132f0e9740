use Rattle.tree.proofs.Puts.{put_sound}
use Rattle.tree.proofs.put_sets_one_row.Goals as goal

pub returns : goal.returns
returns g c = put_sound _ _
