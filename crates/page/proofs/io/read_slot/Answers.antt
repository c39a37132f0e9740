use Rattle.std.proofs.Common.{ℕ, List, Result, length, take, replicate, refl, sym, ap, ◌∙◌}
use Rattle.device.specs.declared.DeviceFault.{DeviceFault}
use Rattle.device.specs.Meaning.{reading}
use Rattle.page.proofs.Seen.{read_ok, front_width}
use Rattle.page.proofs.io.read_slot.Goals as goal

pub returns-clause-answer : goal.returns-clause-answer
returns-clause-answer g c =
    let m = g.R.Reader.shown c.args.reader.now in
    let buffer : List ℕ = take c.width-width.result (replicate 40 0) in
    let at : ℕ → Result (List ℕ) DeviceFault = reading g.R.Reader.code m c.args.block in (
      c.read.new.out,
      ap at (sym (front_width c.width-width.result m.width (replicate 40 0) c.width-width.ensures c.requires.1 refl)) ∙ read_ok (at (length buffer)) buffer c.read.new.out (sym c.read.ensures.answer ∙ c.in_ok-read.was) c.read.ensures.buffer,
      c.decode.ensures,
    )
