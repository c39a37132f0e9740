use Rattle.std.proofs.Common.{◌+◌, ◌<◌, arith, sym, ◌∙◌}
use Rattle.device.proofs.Tables.{rows}
use Rattle.log_device.proofs.Log.last.Goals as goal

pub slice_bounds-result-end : goal.slice_bounds-result-end
slice_bounds-result-end c =
    let s = c.args.self.now in
    let i = c.in_ok-number.number in
    let low : i < s.count = s.indexed.within c.args.block i c.requires (sym c.number_in.ensures ∙ c.in_ok-number.was) in
    omega (arith, rows i s.count (s.layout.width + 1) low, s.sound.room, c.place-from.ensures)
