use Rattle.std.proofs.Common.{◌≡◌, ◌<◌, min, length, Ok, sym, refl, ap, ap₂, ◌∙◌, subst, arith}
use Rattle.std.specs.Result.{IsOk}
use Rattle.device.specs.Meaning.{blocks_of, after_write}
use Rattle.device.specs.Cuts.{written_ops}
use Rattle.mirror.specs.Mirrored.{Alike, mirrored}
use Rattle.mirror.proofs.Calls.{admitted_at, accepted}
use Rattle.mirror.proofs.Follows.{moved, mirrored_written, alike_written}
use Rattle.mirror.proofs.MirrorDevice.write.Goals as goal

pub unwrap-requires : goal.unwrap-requires
unwrap-requires g c =
    let s = c.args.self.now in
    let m = g.A.Device.meaning s.first in
    let n = g.B.Device.meaning s.second in
    let k = length c.args.words.now in
    let t = admitted_at m n c.args.block k (sym c.in_ok-admit.was ∙ c.admit.ensures) in
    let some : 0 < min m.left n.left = omega (arith, ap (λ q. q.0) c.left-left.ensures, c.if-left-eq0.false) in
    subst IsOk (sym (c.write.ensures.answer ∙ accepted g.A.Reader.code m c.args.block k t.0 t.1 (omega (arith, some)))) refl

pub unwrap-requires-2 : goal.unwrap-requires-2
unwrap-requires-2 g c =
    let s = c.args.self.now in
    let m = g.A.Device.meaning s.first in
    let n = g.B.Device.meaning s.second in
    let k = length c.args.words.now in
    let t = admitted_at m n c.args.block k (sym c.in_ok-admit.was ∙ c.admit.ensures) in
    let some : 0 < min m.left n.left = omega (arith, ap (λ q. q.0) c.left-left.ensures, c.if-left-eq0.false) in
    let on : c.args.block < blocks_of n = omega (arith, t.1, s.alike.shape.0) in
    subst IsOk (sym (c.write-2.ensures.answer ∙ accepted g.B.Reader.code n c.args.block k (t.0 ∙ s.alike.shape.1) on (omega (arith, some)))) refl

pub invariant_of-self : goal.invariant_of-self
invariant_of-self g c =
    let s = c.args.self.now in
    let m = g.A.Device.meaning s.first in
    let n = g.B.Device.meaning s.second in
    let b = c.args.block in
    let ws = c.args.words.now in
    let t = admitted_at m n b (length ws) (sym c.in_ok-admit.was ∙ c.admit.ensures) in
    let some : 0 < min m.left n.left = omega (arith, ap (λ q. q.0) c.left-left.ensures, c.if-left-eq0.false) in
    let on : b < blocks_of n = omega (arith, t.1, s.alike.shape.0) in
    let p : c.write.result ≡ Ok tt = c.write.ensures.answer ∙ accepted g.A.Reader.code m b (length ws) t.0 t.1 (omega (arith, some)) in
    let q : c.write-2.result ≡ Ok tt = c.write-2.ensures.answer ∙ accepted g.B.Reader.code n b (length ws) (t.0 ∙ s.alike.shape.1) on (omega (arith, some)) in
    record {
      alike = moved Alike (c.write.ensures.after ∙ ap (λ r. after_write r m b ws) p) (c.write-2.ensures.after ∙ ap (λ r. after_write r n b ws) q) (alike_written m n s.alike b t.1 ws);
    }

pub returns-clause-after : goal.returns-clause-after
returns-clause-after g c =
    let s = c.args.self.now in
    let m = g.A.Device.meaning s.first in
    let n = g.B.Device.meaning s.second in
    let b = c.args.block in
    let ws = c.args.words.now in
    let t = admitted_at m n b (length ws) (sym c.in_ok-admit.was ∙ c.admit.ensures) in
    let some : 0 < min m.left n.left = omega (arith, ap (λ q. q.0) c.left-left.ensures, c.if-left-eq0.false) in
    let on : b < blocks_of n = omega (arith, t.1, s.alike.shape.0) in
    let p : c.write.result ≡ Ok tt = c.write.ensures.answer ∙ accepted g.A.Reader.code m b (length ws) t.0 t.1 (omega (arith, some)) in
    let q : c.write-2.result ≡ Ok tt = c.write-2.ensures.answer ∙ accepted g.B.Reader.code n b (length ws) (t.0 ∙ s.alike.shape.1) on (omega (arith, some)) in
    ap₂ mirrored (c.write.ensures.after ∙ ap (λ r. after_write r m b ws) p) (c.write-2.ensures.after ∙ ap (λ r. after_write r n b ws) q)
    ∙ mirrored_written m n s.alike b t.1 ws (omega (arith, some)) (omega (arith, some)) (g.met.A.Device.fit s.first).left (g.met.B.Device.fit s.second).left

pub returns-clause-calls : goal.returns-clause-calls
returns-clause-calls g c =
    let s = c.args.self.now in
    let m = g.A.Device.meaning s.first in
    let n = g.B.Device.meaning s.second in
    let b = c.args.block in
    let ws = c.args.words.now in
    let t = admitted_at m n b (length ws) (sym c.in_ok-admit.was ∙ c.admit.ensures) in
    let some : 0 < min m.left n.left = omega (arith, ap (λ q. q.0) c.left-left.ensures, c.if-left-eq0.false) in
    let on : b < blocks_of n = omega (arith, t.1, s.alike.shape.0) in
    let p : c.write.result ≡ Ok tt = c.write.ensures.answer ∙ accepted g.A.Reader.code m b (length ws) t.0 t.1 (omega (arith, some)) in
    let q : c.write-2.result ≡ Ok tt = c.write-2.ensures.answer ∙ accepted g.B.Reader.code n b (length ws) (t.0 ∙ s.alike.shape.1) on (omega (arith, some)) in (
      subst (λ r. g.A.Device.led (written_ops r b ws) s.first c.write.new.self) p c.write.ensures.calls,
      subst (λ r. g.B.Device.led (written_ops r b ws) s.second c.write-2.new.self) q c.write-2.ensures.calls,
      returns-clause-after g c,
    )
