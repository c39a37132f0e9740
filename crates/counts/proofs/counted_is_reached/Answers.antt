use Rattle.counts.proofs.Steps.{alive_is_reached}
use Rattle.counts.proofs.counted_is_reached.Goals as goal

pub returns : goal.returns
returns c = alive_is_reached
