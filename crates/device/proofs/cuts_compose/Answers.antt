use Rattle.device.proofs.Cuts.{cut_again}
use Rattle.device.proofs.cuts_compose.Goals as goal

pub returns : goal.returns
returns c = cut_again
