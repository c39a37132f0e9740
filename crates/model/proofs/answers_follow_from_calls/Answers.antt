use Rattle.model.proofs.Histories.{refines}
use Rattle.model.proofs.answers_follow_from_calls.Goals as goal

pub returns : goal.returns
returns g c = refines _
