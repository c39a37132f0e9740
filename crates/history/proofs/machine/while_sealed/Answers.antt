use Rattle.std.proofs.Common.{rules}
use Rattle.history.specs.Calls.{summed}
use Rattle.history.proofs.Sealing.{finish_step}
use Rattle.history.proofs.machine.while_sealed.Goals as goal

pub returns-in-Finish-clause-step : goal.returns-in-Finish-clause-step
returns-in-Finish-clause-step g c =
    let s = finish_step g.row.S.Denot (summed g.S.Summary.summing) c.args.volume.0 c.args.volume.1 c.finish.result c.finish.ensures in
    search rules
