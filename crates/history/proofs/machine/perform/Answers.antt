use Rattle.history.proofs.Law.{performed}
use Rattle.history.proofs.machine.perform.Goals as goal

pub returns-clause-law : goal.returns-clause-law
returns-clause-law g c = performed g.S.Summary.summing c.step.new.out _ _ c.step.result.1 _ c.step.ensures.step
