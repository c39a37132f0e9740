use Rattle.std.proofs.Common.{arith}
use Rattle.std.proofs.lemmas.Grind.{common_steps}
use Rattle.std.proofs.lemmas.List.{take-map, drop-map, map-append, append_assoc}
use Rattle.page.proofs.page.Page.spliced.Goals as goal

pub returns-clause-these : goal.returns-clause-these
returns-clause-these c = grind (arith, common_steps, take-map, drop-map, map-append, append_assoc)
