use Rattle.std.proofs.Common.{◌≡◌, ℕ, ◌≤◌, true, sym, ap, ◌∙◌, subst, arith}
use Rattle.device.specs.declared.LayerMark.{LayerMark}
use Rattle.device.specs.Meaning.{Meaning, Shown, blocks_of, count_of, shown_of, flushed, written}
use Rattle.device.specs.Showing.{count_shown}
use Rattle.device.specs.Cuts.{replay}
use Rattle.page.specs.Slot.{slot_words}
use Rattle.model.specs.Plain.{blank}
use Rattle.model.specs.World.{sizes, Formatted}
use Rattle.model.specs.Onward.{formatting}
use Rattle.model.proofs.Onward.{formats}
use Rattle.mount.proofs.Slots.{fits_from}
use Rattle.mount.proofs.Formatting.{able}
use Rattle.mount.proofs.format.format_device.Goals as goal

pub returns : goal.returns
returns g c =
    let m : Meaning = g.D.Device.meaning c.args.device in
    let shown : g.D.Reader.shown c.args.device ≡ shown_of m = g.met.D.Device.shows c.args.device in
    let fit : sizes (blocks_of m) m.width ≡ true = fits_from m c.blocks-2.result c.width.result
    (c.blocks-2.ensures ∙ ap count_of shown ∙ count_shown m) (c.width.ensures ∙ ap (λ (s : Shown). s.width) shown) c.if-not-is_fitting.ensures in
    let some : 2 ≤ m.left = omega (arith, ap (λ (p : ℕ × LayerMark). p.0) c.left-left.ensures, c.if-left-lt2.false) in
    let m₁ : Meaning = g.D.Device.meaning c.write_empty.new.device in
    let b = c.write_empty-2.ensures ∙ ap (λ k. written k 1 (slot_words k.width 1 blank)) c.write_empty.ensures in
    let after : g.D.Device.meaning c.flush.new.self ≡ replay (formatting m.width) m = c.flush.ensures.after ∙ ap flushed b in
    record { able = able m fit some; after = after; formatted = subst Formatted (sym after) (formats m fit) }
