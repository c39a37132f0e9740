use Rattle.tree.proofs.Granted.{from_grant}
use Rattle.tree.proofs.granted_numbers_are_taken_once.Goals as goal

pub returns : goal.returns
returns g c = from_grant _
