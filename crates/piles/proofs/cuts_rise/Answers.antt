use Rattle.piles.proofs.Rise.{cuts_rise}
use Rattle.piles.proofs.cuts_rise.Goals as goal

pub returns : goal.returns
returns c = cuts_rise
