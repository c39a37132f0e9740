use Rattle.log_device.proofs.Cuts.{outlasts}
use Rattle.log_device.proofs.Log.open.Goals as goal

pub returns-in-Ok-clause-cut : goal.returns-in-Ok-clause-cut
returns-in-Ok-clause-cut c = outlasts c.args.image.now c.args.blocks c.args.width

pub returns-in-Err-clause-cut : goal.returns-in-Err-clause-cut
returns-in-Err-clause-cut c = outlasts c.args.image.now c.args.blocks c.args.width
