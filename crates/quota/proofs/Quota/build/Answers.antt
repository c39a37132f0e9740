use Rattle.std.proofs.Common.{◌≤◌, sym, ap, subst, arith}
use Rattle.device.specs.Meaning.{blocks_of, count_of}
use Rattle.device.specs.Showing.{count_shown}
use Rattle.quota.specs.Limited.{limited}
use Rattle.quota.specs.Cuts.{CutsKept}
use Rattle.quota.proofs.Cuts.{built_cut}
use Rattle.quota.proofs.Quota.build.Goals as goal

pub returns-clause-cut : goal.returns-clause-cut
returns-clause-cut g c =
    let n = c.args.limit in
    let m = g.D.Device.meaning c.args.below in
    let seen : n ≤ count_of (g.D.Reader.shown c.args.below) = grind arith in
    let few : n ≤ blocks_of m = omega (arith, seen, ap count_of (g.met.D.Device.shows c.args.below), count_shown m) in
    subst (λ x. CutsKept n m (limited n x)) (sym c.flush.ensures.after) (built_cut n m few)
