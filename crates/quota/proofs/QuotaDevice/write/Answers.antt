use Rattle.std.proofs.Common.{◌<◌, ◌≤◌, length, sym, ap, ◌∙◌, subst, arith}
use Rattle.device.specs.Meaning.{after_write, blocks_of}
use Rattle.device.specs.Cuts.{written_ops}
use Rattle.device.proofs.Calls.{let_in, after_ops}
use Rattle.device.specs.declared.Layer.TheVariants.{Quota}
use Rattle.quota.specs.Limited.{limited, limited_shown, limited_count, enough, Allowed}
use Rattle.quota.proofs.Follows.{limited_after, passed_ops}
use Rattle.quota.proofs.QuotaDevice.write.Goals as goal

pub returns-clause-after : goal.returns-clause-after
returns-clause-after g c =
    let n = c.args.self.now.limit in
    let d = c.args.self.now.below in
    let m = g.D.Device.meaning d in
    let b = c.args.block in
    let ws = c.args.words.now in
    let s = g.D.Reader.shown d in
    let t = let_in Quota (limited_shown n s) b (length ws) (sym c.in_ok-admit.was ∙ c.admit.ensures) in
    let h : b < n = omega (arith, t.1, limited_count n s c.args.self.now.allowed.1) in
    let few : n ≤ blocks_of m = enough n m (subst (Allowed n) (g.met.D.Device.shows d) c.args.self.now.allowed) in
    ap (limited n) c.write.ensures.after ∙ limited_after n m few b h c.write.result ws ∙ ap (λ r. after_write r (limited n m) b ws) (sym c.pass_up.ensures)

pub returns-clause-calls : goal.returns-clause-calls
returns-clause-calls g c =
    let b = c.args.block in
    let ws = c.args.words.now in (
      subst (λ os. g.D.Device.led os c.args.self.now.below c.write.new.self) (sym (passed_ops c.write.result b ws) ∙ ap (λ q. written_ops q b ws) (sym c.pass_up.ensures)) c.write.ensures.calls,
      returns-clause-after g c ∙ after_ops c.pass_up.result (limited c.args.self.now.limit (g.D.Device.meaning c.args.self.now.below)) b ws,
    )
