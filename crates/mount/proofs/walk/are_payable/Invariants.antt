use Rattle.std.proofs.Common.{◌≡◌, ◌&&◌, drop}
use Rattle.page.specs.Slot.{every}
use Rattle.model.specs.Walk.{payable}
use Rattle.mount.proofs.walk.are_payable.Given as goal

abbrev pub invariant-loop-i : goal.invariant-loop-i
invariant-loop-i l = every (payable l.blocks l.level) l.page.entries ≡ (l.payable && every (payable l.blocks l.level) (drop l.i l.page.entries))
