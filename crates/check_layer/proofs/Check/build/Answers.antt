use Rattle.std.proofs.Common.{◌≤◌, sym, subst, ap, arith}
use Rattle.device.specs.Meaning.{Meaning, Shown}
use Rattle.check_layer.specs.Checked.{checked}
use Rattle.check_layer.specs.Cuts.{CutsKept}
use Rattle.check_layer.proofs.Cuts.{built_cut}
use Rattle.check_layer.proofs.Check.build.Goals as goal

pub returns-clause-cut : goal.returns-clause-cut
returns-clause-cut g c =
    let m = g.D.Device.meaning c.args.below in
    let wide : 2 ≤ m.width = omega (arith, c.if-width-lt2.false, c.width.ensures, ap (λ (x : Shown). x.width) (g.met.D.Device.shows c.args.below)) in
    subst (λ (x : Meaning). CutsKept m (checked x)) (sym c.flush.ensures.after) (built_cut m wide)
