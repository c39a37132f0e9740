use Rattle.std.proofs.Common.{length, sym, ◌∙◌}
use Rattle.std.proofs.lemmas.List.FromFn.{length-map-range_with_len}
use Rattle.device.specs.Showing.{count_shown}
use Rattle.memory.specs.Memory.{parts_of, memory}
use Rattle.memory.proofs.MemoryReader.blocks.Goals as goal

pub returns : goal.returns
returns c =
    let s = c.args.self.now in
    sym (count_shown (memory (parts_of s.slices s.width)) ∙ length-map-range_with_len _ 0 (length s.slices.marks.now))
