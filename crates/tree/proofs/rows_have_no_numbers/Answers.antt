use Rattle.tree.proofs.Over.{over_rows}
use Rattle.tree.proofs.rows_have_no_numbers.Goals as goal

pub returns : goal.returns
returns g c = over_rows _ _ _ _
