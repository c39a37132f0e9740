use Rattle.std.proofs.Common.{sym, ap, ◌∙◌}
use Rattle.device.specs.Meaning.{Meaning}
use Rattle.page.specs.View.{slot_of}
use Rattle.model.specs.World.{Tables, found}
use Rattle.volume.proofs.Volume.mount.Goals as goal

pub returns-clause-answer : goal.returns-clause-answer
returns-clause-answer g c = (slot_of c.in_ok-mount_store.field-0.slot, ap found (sym c.in_ok-mount_store.ensures.kept) ∙ c.in_ok-mount_store.ensures.answer.found, ap (λ (v : Tables × Meaning). v.0) c.over.ensures)
