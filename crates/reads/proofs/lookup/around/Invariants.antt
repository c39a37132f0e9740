use Rattle.std.proofs.Common.{take}
use Rattle.table.specs.Rows.{angle_of}
use Rattle.table.specs.Around.{StandsAround}
use Rattle.tree.specs.Node.{map_e}
use Rattle.reads.proofs.lookup.around.Given as goal

abbrev pub invariant-loop-i : goal.invariant-loop-i
invariant-loop-i l = StandsAround l.speed (map_e angle_of (take l.i l.leaf.entries)) l.around
