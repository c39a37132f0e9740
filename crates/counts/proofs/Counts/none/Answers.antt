use Rattle.std.proofs.Common.{◌∙◌, ap, take}
use Rattle.std.proofs.lemmas.List.{take-replicate}
use Rattle.counts.proofs.Counts.none.Goals as goal

pub returns : goal.returns
returns c = c.truncate.ensures.items ∙ ap (take c.args.blocks) (c.from-of.ensures.0 ∙ c.zeros.ensures) ∙ take-replicate c.args.blocks 4096 0 c.requires
