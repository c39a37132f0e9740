use Rattle.pile_law.proofs.Same.{same_rises}
use Rattle.pile_law.proofs.same_cuts_rise.Goals as goal

pub returns : goal.returns
returns c = same_rises
