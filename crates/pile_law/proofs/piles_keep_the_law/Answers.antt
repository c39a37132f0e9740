use Rattle.pile_law.proofs.Histories.{piles_keep_the_law}
use Rattle.pile_law.proofs.piles_keep_the_law.Goals as goal

pub returns : goal.returns
returns g c = piles_keep_the_law _
