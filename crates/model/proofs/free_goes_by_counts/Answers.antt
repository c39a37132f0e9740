use Rattle.model.proofs.Reach.{use_is_reach, free_by_counts}
use Rattle.model.proofs.free_goes_by_counts.Goals as goal

pub returns : goal.returns
returns c = (use_is_reach, free_by_counts)
