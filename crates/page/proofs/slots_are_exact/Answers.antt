use Rattle.page.proofs.Slots.{forms_exact, slots_exact}
use Rattle.page.proofs.slots_are_exact.Goals as goal

pub returns : goal.returns
returns c = record { form = forms_exact; slots = slots_exact }
