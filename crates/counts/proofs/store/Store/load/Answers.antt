use Rattle.std.proofs.Common.{ℕ, List, is_some, sym, ap, ◌∙◌}
use Rattle.device.specs.Meaning.{Meaning}
use Rattle.page.specs.Block.{block_at}
use Rattle.counts.proofs.Shown.{shown_is}
use Rattle.counts.proofs.store.Store.load.Goals as goal

pub load-requires-clause-stands : goal.load-requires-clause-stands
load-requires-clause-stands g c =
    let d = c.self.inside.device in
    ap is_some (shown_is (g.D.Device.meaning d) (g.D.Reader.shown d) c.args.block (g.met.D.Device.shows d))
    ∙ ap (λ (q : Meaning × List ℕ). is_some (block_at q.0 c.args.block)) c.self.view_is ∙ c.requires

pub returns-clause-page : goal.returns-clause-page
returns-clause-page g c =
    let d = c.self.inside.device in
    ap (λ (q : Meaning × List ℕ). block_at q.0 c.args.block) (sym c.self.view_is)
    ∙ sym (shown_is (g.D.Device.meaning d) (g.D.Reader.shown d) c.args.block (g.met.D.Device.shows d)) ∙ c.load.ensures.page
