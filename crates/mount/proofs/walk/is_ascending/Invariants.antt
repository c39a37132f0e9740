use Rattle.std.proofs.Common.{◌≡◌, ◌-◌, ◌&&◌, drop}
use Rattle.model.specs.Walk.{ascending}
use Rattle.mount.proofs.walk.is_ascending.Given as goal

abbrev pub invariant-loop-i : goal.invariant-loop-i
invariant-loop-i l = ascending l.high l.page.entries ≡ (l.ascending && ascending l.high (drop (l.i - 1) l.page.entries))
