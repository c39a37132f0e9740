use Rattle.std.proofs.Common.{length, sym, refl, ap, ◌∙◌}
use Rattle.device.specs.Meaning.{answered, filled}
use Rattle.memory.specs.Memory.{parts_of}
use Rattle.memory.proofs.Facts.{admitted_at, read_at}
use Rattle.memory.specs.Fit.{block_length}
use Rattle.memory.proofs.MemoryReader.read.Goals as goal

pub words-requires : goal.words-requires
words-requires c =
    let s = c.args.self.now in
    (admitted_at (parts_of s.slices s.width) c.args.block (length c.args.out.now) (sym c.in_ok-admit.was ∙ c.admit.ensures)).1

pub copy_from_slice-requires : goal.copy_from_slice-requires
copy_from_slice-requires c =
    let s = c.args.self.now in
    let t = admitted_at (parts_of s.slices s.width) c.args.block (length c.args.out.now) (sym c.in_ok-admit.was ∙ c.admit.ensures) in
    t.0 ∙ sym (ap length c.words.ensures ∙ block_length s.slices.current.now s.width (length s.slices.marks.now) s.sound.shaped.cur_len c.args.block t.1)

pub returns : goal.returns
returns c =
    let s = c.args.self.now in
    let n = length c.args.out.now in
    let t = admitted_at (parts_of s.slices s.width) c.args.block n (sym c.in_ok-admit.was ∙ c.admit.ensures) in
    let r = read_at (parts_of s.slices s.width) s.sound c.args.block n t.1 t.0 in
    record { same = refl; rest = refl; answer = sym (ap answered r); buffer = c.copy_from_slice.ensures.after ∙ c.words.ensures ∙ sym (ap (λ x. filled x c.args.out.now) r) }
