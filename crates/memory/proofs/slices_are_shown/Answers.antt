use Rattle.memory.proofs.Facts.{same_parts}
use Rattle.memory.proofs.slices_are_shown.Goals as goal

pub returns : goal.returns
returns c = same_parts
