use Rattle.pile_law.proofs.TwoHistories.{two_piles_agree}
use Rattle.pile_law.proofs.two_piles_agree.Goals as goal

pub returns : goal.returns
returns g c = two_piles_agree _
