use Rattle.history.proofs.Law.{every_family}
use Rattle.history.proofs.summaries_mix.Goals as goal

pub returns : goal.returns
returns g c = every_family _
