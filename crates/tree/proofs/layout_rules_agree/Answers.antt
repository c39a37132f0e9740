use Rattle.tree.proofs.Laid.{same_rule}
use Rattle.tree.proofs.layout_rules_agree.Goals as goal

pub returns : goal.returns
returns g c = same_rule _ _
