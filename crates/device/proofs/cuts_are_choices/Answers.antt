use Rattle.device.proofs.Choices.{cuts_agree}
use Rattle.device.proofs.cuts_are_choices.Goals as goal

pub returns : goal.returns
returns c = cuts_agree
