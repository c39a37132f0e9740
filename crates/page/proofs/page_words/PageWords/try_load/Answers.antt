use Rattle.std.proofs.Common.{◌≡◌, ℕ, ◌++◌, List, Result, length, take, drop, is_some, sym, ap, ◌∙◌, arith}
use Rattle.std.proofs.lemmas.List.{take-append-le, take_all}
use Rattle.device.specs.declared.DeviceFault.{DeviceFault}
use Rattle.device.specs.Meaning.{reading}
use Rattle.page.specs.Block.{decode}
use Rattle.page.proofs.Seen.{read_ok, front_width, front_tried}
use Rattle.page.proofs.page_words.PageWords.try_load.Goals as goal

pub returns-else-not-holds-clause-answer : goal.returns-else-not-holds-clause-answer
returns-else-not-holds-clause-answer g c =
    let m = g.R.Reader.shown c.args.reader.now in
    let out = c.read.new.out in
    let zs = drop c.width-width.result c.self.inside.words in
    let buffer : List ℕ = take c.width-width.result c.self.inside.words in
    let at : ℕ → Result (List ℕ) DeviceFault = reading g.R.Reader.code m c.args.block in
    let w = front_width c.width-width.result m.width c.self.inside.words c.width-width.ensures c.requires.1 c.self.told in
    let long : length out ≡ m.width = omega (arith, c.read.auto.out, w) in
    let front : take c.width-width.result (out ++ zs) ≡ out
    = take-append-le c.width-width.result out zs (omega (arith, long, c.width-width.ensures)) ∙ take_all c.width-width.result out (omega (arith, long, c.width-width.ensures)) in (
      out,
      ap at (sym w) ∙ read_ok (at (length buffer)) buffer out (sym c.read.ensures.answer ∙ c.in_ok-read.was) c.read.ensures.buffer,
      front_tried out zs c.is_page-holds.result (omega (arith, long, c.requires.0)) (c.is_page-holds.ensures ∙ ap (λ (xs : List ℕ). is_some (decode xs)) front),
    )
