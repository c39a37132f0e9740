use Rattle.std.proofs.Common.{sym, ◌∙◌}
use Rattle.std.proofs.lemmas.List.FromFn.{length-map-range_with_len}
use Rattle.device.specs.Showing.{count_shown}
use Rattle.log_device.specs.Log.{log_of}
use Rattle.log_device.proofs.LogReader.blocks.Goals as goal

pub returns : goal.returns
returns c =
    let s = c.args.self.now in
    sym (count_shown (log_of s.image.now s.layout.blocks s.layout.width s.count) ∙ length-map-range_with_len _ 0 s.layout.blocks)
