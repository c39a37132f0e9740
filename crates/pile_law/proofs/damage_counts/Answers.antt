use Rattle.pile_law.proofs.Kept.{damage_counts}
use Rattle.pile_law.proofs.damage_counts.Goals as goal

pub returns : goal.returns
returns c = damage_counts
