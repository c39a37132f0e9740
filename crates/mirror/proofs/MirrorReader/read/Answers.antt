use Rattle.std.proofs.Common.{◌≡◌, ◌<◌, length, Ok, Err, MatchResult, rules, sym, ap, ◌∙◌, arith}
use Rattle.device.specs.Meaning.{raised_fault, blocks_of, current_at, held, answered, filled}
use Rattle.mirror.proofs.Calls.{admitted_at, side_reads, mirror_reads, by_first, filled_by_first, unfilled, by_second, filled_by_second}
use Rattle.mirror.proofs.MirrorReader.read.Goals as goal

pub returns-in_default-clause-answer : goal.returns-in_default-clause-answer
returns-in_default-clause-answer g c =
    let s = c.args.self.now in
    let m = g.A.Device.meaning s.first in
    let n = g.B.Device.meaning s.second in
    let b = c.args.block in
    let k = length c.args.out.now in
    let t = admitted_at m n b k (sym c.in_ok-admit.was ∙ c.admit.ensures) in
    let first = side_reads g.A.Reader.code m (g.A.Reader.shown s.first) (g.met.A.Device.shows s.first) b k t.1 t.0 in
    by_first (current_at m b) (current_at n b) (c.in_default.ensures.answer ∙ ap answered first) ∙ sym (ap answered (mirror_reads m n b k t.1 t.0))

pub returns-in_default-clause-buffer : goal.returns-in_default-clause-buffer
returns-in_default-clause-buffer g c =
    let s = c.args.self.now in
    let m = g.A.Device.meaning s.first in
    let n = g.B.Device.meaning s.second in
    let b = c.args.block in
    let o = c.args.out.now in
    let t = admitted_at m n b (length o) (sym c.in_ok-admit.was ∙ c.admit.ensures) in
    let first = side_reads g.A.Reader.code m (g.A.Reader.shown s.first) (g.met.A.Device.shows s.first) b (length o) t.1 t.0 in
    c.read.ensures.buffer ∙ ap (λ r. filled r o) first
    ∙ filled_by_first (current_at m b) (current_at n b) o (c.in_default.ensures.answer ∙ ap answered first)
    ∙ sym (ap (λ r. filled r o) (mirror_reads m n b (length o) t.1 t.0))

pub returns-clause-answer : goal.returns-clause-answer
returns-clause-answer g c =
    let s = c.args.self.now in
    let m = g.A.Device.meaning s.first in
    let n = g.B.Device.meaning s.second in
    let b = c.args.block in
    let o = c.args.out.now in
    let t = admitted_at m n b (length o) (sym c.in_ok-admit.was ∙ c.admit.ensures) in
    let first = side_reads g.A.Reader.code m (g.A.Reader.shown s.first) (g.met.A.Device.shows s.first) b (length o) t.1 t.0 in
    let size : length c.read.new.out ≡ n.width = ap length (c.read.ensures.buffer ∙ unfilled _ _ o c.in-Err.ensures.answer) ∙ t.0 ∙ s.alike.shape.1 in
    let on : b < blocks_of n = omega (arith, t.1, s.alike.shape.0) in
    let second = side_reads g.B.Reader.code n (g.B.Reader.shown s.second) (g.met.B.Device.shows s.second) b (length c.read.new.out) on size in
    let passes : MatchResult c.read-2.result (λ u. c.map_err.result ≡ Ok tt) (λ e. c.map_err.result ≡ Err (raised_fault c.in-Err.fault)) = search rules in
    by_second (current_at m b) (current_at n b) c.in-Err.fault c.read-2.result c.map_err.result (c.in-Err.ensures.answer ∙ ap answered first) (c.read-2.ensures.answer ∙ ap answered second) passes
    ∙ sym (ap answered (mirror_reads m n b (length o) t.1 t.0))

pub returns-clause-buffer : goal.returns-clause-buffer
returns-clause-buffer g c =
    let s = c.args.self.now in
    let m = g.A.Device.meaning s.first in
    let n = g.B.Device.meaning s.second in
    let b = c.args.block in
    let o = c.args.out.now in
    let t = admitted_at m n b (length o) (sym c.in_ok-admit.was ∙ c.admit.ensures) in
    let first = side_reads g.A.Reader.code m (g.A.Reader.shown s.first) (g.met.A.Device.shows s.first) b (length o) t.1 t.0 in
    let same : c.read.new.out ≡ o = c.read.ensures.buffer ∙ unfilled _ _ o c.in-Err.ensures.answer in
    let on : b < blocks_of n = omega (arith, t.1, s.alike.shape.0) in
    let second = side_reads g.B.Reader.code n (g.B.Reader.shown s.second) (g.met.B.Device.shows s.second) b (length c.read.new.out) on (ap length same ∙ t.0 ∙ s.alike.shape.1) in
    c.read-2.ensures.buffer ∙ ap (λ r. filled r c.read.new.out) second ∙ ap (filled (held (current_at n b))) same
    ∙ filled_by_second (current_at m b) (current_at n b) c.in-Err.fault o (c.in-Err.ensures.answer ∙ ap answered first)
    ∙ sym (ap (λ r. filled r o) (mirror_reads m n b (length o) t.1 t.0))
