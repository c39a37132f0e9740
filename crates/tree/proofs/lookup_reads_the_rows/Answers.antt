use Rattle.tree.proofs.Walking.{reads}
use Rattle.tree.proofs.lookup_reads_the_rows.Goals as goal

pub returns : goal.returns
returns g c = reads _ _
