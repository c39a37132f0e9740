use Rattle.std.proofs.Common.{◌≡◌, take}
use Rattle.tree.specs.Node.{map_e}
use Rattle.table.specs.Rows.{angle_of}
use Rattle.reads.specs.Summary.{summary_of}
use Rattle.reads.proofs.summing.sum_leaf.Given as goal

abbrev pub invariant-loop-i : goal.invariant-loop-i
invariant-loop-i g l = l.sum ≡ summary_of g.S.Summary.summing (map_e angle_of (take l.i l.leaf.entries))
