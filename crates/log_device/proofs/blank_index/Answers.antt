use Rattle.std.proofs.Common.{None, ◌∙◌, ap, take}
use Rattle.std.proofs.lemmas.List.{take-replicate}
use Rattle.log_device.proofs.blank_index.Goals as goal

pub returns : goal.returns
returns c = c.truncate.ensures.items ∙ ap (take c.args.blocks) (c.from-index.ensures.0 ∙ c.no_numbers.ensures) ∙ take-replicate c.args.blocks 4096 None c.requires
