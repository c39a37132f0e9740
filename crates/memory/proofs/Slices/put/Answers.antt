use Rattle.std.proofs.Common.{◌≡◌, ◌<◌, ◌^◌, length, sym, ap, ◌∙◌, subst, arith}
use Rattle.std.specs.List.{AllByRecursion}
use Rattle.std.proofs.ByRecursion.{All-from_get_or}
use Rattle.device.specs.Meaning.{written}
use Rattle.memory.specs.Memory.{parts_of, memory}
use Rattle.device.proofs.Tables.{rows}
use Rattle.memory.proofs.Facts.{write_after, write_sound}
use Rattle.memory.proofs.Slices.put.Goals as goal

pub slice_bounds-copy_from_slice-end : goal.slice_bounds-copy_from_slice-end
slice_bounds-copy_from_slice-end c =
    let s = c.args.self.now in
    omega (arith, rows c.args.block (length s.marks.now) (length c.args.words.now) c.requires.there, c.requires.sound.shaped.cur_len)

pub returns : goal.returns
returns c =
    let s = c.args.self.now in
    let ws = c.args.words.now in
    let e : c.copy_from_slice.new.self ≡ ws = c.copy_from_slice.ensures.after in
    let fits : AllByRecursion (λ x. x < 2 ^ 32) ws = All-from_get_or (λ x. x < 2 ^ 32) ws 0 (λ i h. omega (arith, c.type_inv.words i)) in
    record {
      sound = write_sound (parts_of s (length ws)) c.requires.sound c.args.block _ _ c.copy_from_slice.new.self c.requires.there (ap length e) (omega arith) (omega arith)
          (subst (AllByRecursion (λ x. x < 2 ^ 32)) (sym e) fits);
      after = write_after (parts_of s (length ws)) c.requires.sound c.args.block _ _ c.copy_from_slice.new.self c.requires.there (ap length e) (omega arith) (omega arith)
          ∙ ap (written (memory (parts_of s (length ws))) c.args.block) e;
    }
