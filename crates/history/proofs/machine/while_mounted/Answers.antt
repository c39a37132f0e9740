use Rattle.std.proofs.Common.{rules}
use Rattle.history.specs.Calls.{summed}
use Rattle.history.proofs.Sealing.{seal_step}
use Rattle.history.proofs.machine.while_mounted.Goals as goal

pub returns-in-Ok-clause-step : goal.returns-in-Ok-clause-step
returns-in-Ok-clause-step g c =
    let s = seal_step g.row.S.Denot (summed g.S.Summary.summing) c.args.volume.0 c.args.volume.1 c.in-Ok.sealed c.in-Ok.ensures.0 c.in-Ok.ensures.1 in
    search rules
