use Rattle.std.proofs.Common.{◌≡◌, length, map, sym, ap, ◌∙◌, subst}
use Rattle.device.specs.Meaning.{after_write}
use Rattle.device.specs.Cuts.{written_ops}
use Rattle.device.proofs.Calls.{let_in, after_ops}
use Rattle.device.specs.declared.Layer.TheVariants.{Check}
use Rattle.check_layer.specs.Checked.{checked, checked_shown, below_op, below_written, passed_ops}
use Rattle.check_layer.proofs.Follows.{shown_after, after_passed}
use Rattle.check_layer.proofs.CheckDevice.write.Goals as goal

pub returns-clause-after : goal.returns-clause-after
returns-clause-after g c =
    let d = c.args.self.now.below in
    let m = g.D.Device.meaning d in
    let b = c.args.block in
    let ws = c.args.words.now in
    let t = let_in Check (checked_shown (g.D.Reader.shown d)) b (length ws) (sym c.in_ok-admit.was ∙ c.admit.ensures) in
    ap checked (c.write.ensures.after ∙ ap (after_write c.write.result m b) c.append_check.ensures)
    ∙ shown_after (g.D.Reader.shown d) m (g.met.D.Device.shows d) b ws t.1 t.0 c.write.result
    ∙ after_passed c.write.result (checked m) b ws
    ∙ ap (λ r. after_write r (checked m) b ws) (sym c.pass_up.ensures)

pub returns-clause-calls : goal.returns-clause-calls
returns-clause-calls g c =
    let b = c.args.block in
    let ws = c.args.words.now in
    let r = c.write.result in
    let below : written_ops r b c.append_check.new.to ≡ map below_op (written_ops c.pass_up.result b ws)
    = ap (written_ops r b) c.append_check.ensures ∙ sym (below_written r b ws) ∙ ap (map below_op) (sym (passed_ops r b ws) ∙ ap (λ q. written_ops q b ws) (sym c.pass_up.ensures)) in (
      subst (λ os. g.D.Device.led os c.args.self.now.below c.write.new.self) below c.write.ensures.calls,
      returns-clause-after g c ∙ after_ops c.pass_up.result (checked (g.D.Device.meaning c.args.self.now.below)) b ws,
    )
