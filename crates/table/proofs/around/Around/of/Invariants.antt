use Rattle.std.proofs.Common.{None, map, take}
use Rattle.table.specs.Rows.{pair_of}
use Rattle.table.specs.Around.{StandsAround}
use Rattle.table.proofs.around.Around.of.Given as goal

abbrev pub invariant-loop-row : goal.invariant-loop-row
invariant-loop-row l = StandsAround l.speed (map pair_of (take l.row-index l.rows)) (record { below = l.below; above = None })
