use Rattle.std.proofs.Common.{true, false, rules}
use Rattle.page.specs.View.{slot_of}
use Rattle.page.proofs.Slots.{decode_by}
use Rattle.page.proofs.roots.Slot.decode.Goals as goal

pub returns-then-eq : goal.returns-then-eq
returns-then-eq c = decode_by c.args.words.now (slot_of c.slot_loose-slot.result) true c.slot_loose-slot.ensures (search rules)

pub returns-else-eq : goal.returns-else-eq
returns-else-eq c = decode_by c.args.words.now (slot_of c.slot_loose-slot.result) false c.slot_loose-slot.ensures (search rules)
