use Rattle.std.proofs.Common.{is_some, Some, sym, ap, ◌∙◌}
use Rattle.counts.proofs.Shown.{shown_is}
use Rattle.counts.proofs.moves.read_page.Goals as goal

pub load-requires-clause-stands : goal.load-requires-clause-stands
load-requires-clause-stands g c =
    let d = c.args.device.now in
    ap is_some (shown_is (g.D.Device.meaning d) (g.D.Reader.shown d) c.args.block (g.met.D.Device.shows d)) ∙ c.requires.holds

pub returns-clause-page : goal.returns-clause-page
returns-clause-page g c =
    let d = c.args.device.now in
    sym (shown_is (g.D.Device.meaning d) (g.D.Reader.shown d) c.args.block (g.met.D.Device.shows d)) ∙ c.load.ensures.page ∙ ap Some (sym c.to_page.ensures)
