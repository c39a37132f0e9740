use Rattle.std.proofs.Common.{ap, arith}
use Rattle.device.specs.Meaning.{Shown, count_of}
use Rattle.device.specs.Showing.{count_shown}
use Rattle.mirror.specs.Mirrored.{Allowed, Alike}
use Rattle.mirror.proofs.Follows.{moved, alike_flushed}
use Rattle.mirror.proofs.Mirror.build.Goals as goal

pub invariant_of-result : goal.invariant_of-result
invariant_of-result g c =
    let m = g.A.Device.meaning c.args.first in
    let n = g.B.Device.meaning c.args.second in
    let p = g.met.A.Device.shows c.args.first in
    let q = g.met.B.Device.shows c.args.second in
    let one : Allowed m n = (
      omega (arith, c.blocks-2.ensures, c.blocks-3.ensures, c.if-blocks.false, ap count_of p, ap count_of q, count_shown m, count_shown n),
      omega (arith, c.width.ensures, c.width-else-blocks.ensures, c.if-width.false, ap (λ (x : Shown). x.width) p, ap (λ (x : Shown). x.width) q),
    ) in
    record { alike = moved Alike c.flush.ensures.after c.flush-2.ensures.after (alike_flushed m n one) }
