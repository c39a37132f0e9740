use Rattle.std.proofs.Common.{◌≡◌, length, replicate, sym, refl, ap, ◌∙◌}
use Rattle.device.specs.Meaning.{answered, filled}
use Rattle.log_device.specs.Fit.{cell_fit}
use Rattle.log_device.proofs.Facts.{admitted_at, read_at}
use Rattle.log_device.proofs.LogReader.read.Goals as goal

pub last-requires : goal.last-requires
last-requires c =
    let s = c.args.self.now in
    (admitted_at s.image.now s.layout.blocks s.layout.width s.count c.args.block (length c.args.out.now) (sym c.in_ok-admit.was ∙ c.admit.ensures)).1

pub copy_from_slice-requires : goal.copy_from_slice-requires
copy_from_slice-requires c =
    let s = c.args.self.now in
    let t = admitted_at s.image.now s.layout.blocks s.layout.width s.count c.args.block (length c.args.out.now) (sym c.in_ok-admit.was ∙ c.admit.ensures) in
    t.0 ∙ sym (ap length c.in-Some.ensures ∙ (cell_fit s.image.now s.layout.blocks s.layout.width s.count s.sound c.args.block).current.0)

pub returns-in-Some : goal.returns-in-Some
returns-in-Some c =
    let s = c.args.self.now in
    let n = length c.args.out.now in
    let t = admitted_at s.image.now s.layout.blocks s.layout.width s.count c.args.block n (sym c.in_ok-admit.was ∙ c.admit.ensures) in
    let r = read_at s.image.now s.layout.blocks s.layout.width s.count c.args.block n t.1 t.0 in
    record { same = refl; rest = refl; answer = sym (ap answered r); buffer = c.copy_from_slice.ensures.after ∙ c.in-Some.ensures ∙ sym (ap (λ x. filled x c.args.out.now) r) }

pub returns-in-None : goal.returns-in-None
returns-in-None c =
    let s = c.args.self.now in
    let n = length c.args.out.now in
    let t = admitted_at s.image.now s.layout.blocks s.layout.width s.count c.args.block n (sym c.in_ok-admit.was ∙ c.admit.ensures) in
    let r = read_at s.image.now s.layout.blocks s.layout.width s.count c.args.block n t.1 t.0 in
    let zeros : c.fill.new.self ≡ replicate n 0 = c.fill.ensures.after (λ y e. e) in
    record { same = refl; rest = refl; answer = sym (ap answered r); buffer = zeros ∙ ap (λ k. replicate k 0) t.0 ∙ sym (c.in-None.ensures) ∙ sym (ap (λ x. filled x c.args.out.now) r) }
