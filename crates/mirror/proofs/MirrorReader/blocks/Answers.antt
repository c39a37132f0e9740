use Rattle.std.proofs.Common.{sym, ap, ◌∙◌}
use Rattle.device.specs.Meaning.{count_of}
use Rattle.device.specs.Showing.{count_shown}
use Rattle.mirror.proofs.Calls.{count_mirrored}
use Rattle.mirror.proofs.MirrorReader.blocks.Goals as goal

pub returns : goal.returns
returns g c =
    let s = c.args.self.now in
    let m = g.A.Device.meaning s.first in
    c.blocks-2.ensures ∙ ap count_of (g.met.A.Device.shows s.first) ∙ count_shown m ∙ sym (count_mirrored m (g.B.Device.meaning s.second))
