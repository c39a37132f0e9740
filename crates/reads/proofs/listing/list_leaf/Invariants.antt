use Rattle.std.proofs.Common.{◌≡◌, min, length, take}
use Rattle.tree.specs.Node.{map_e}
use Rattle.table.specs.Rows.{angle_of}
use Rattle.reads.specs.Lists.{due, written}
use Rattle.reads.proofs.listing.list_leaf.Given as goal

abbrev pub invariant-loop-i : goal.invariant-loop-i
invariant-loop-i l =
    let all = due l.speed (map_e angle_of (take l.i l.leaf.entries)) in
    record {
      count : l.n ≡ min (length l.fn.out) (length all);
      listed : l.out ≡ written all l.fn.out;
    }
