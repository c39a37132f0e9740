use Rattle.model.proofs.Onward.{goes_on, formats}
use Rattle.model.proofs.no_history_is_stuck.Goals as goal

pub returns : goal.returns
returns g c = (goes_on _, formats)
