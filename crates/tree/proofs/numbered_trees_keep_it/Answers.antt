use Rattle.tree.proofs.Stores.{put_numbered, remove_numbered}
use Rattle.tree.proofs.numbered_trees_keep_it.Goals as goal

pub returns : goal.returns
returns g c = record { put = put_numbered _; remove = remove_numbered _ }
