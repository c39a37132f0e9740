use Rattle.std.proofs.Common.{length, sym, ◌∙◌}
use Rattle.memory.specs.Memory.{parts_of}
use Rattle.memory.proofs.Facts.{admitted_at}
use Rattle.memory.proofs.MemoryDevice.write.Goals as goal

pub put-requires-clause-there : goal.put-requires-clause-there
put-requires-clause-there c =
    let s = c.args.self.now in
    (admitted_at (parts_of s.slices s.width) c.args.block (length c.args.words.now) (sym c.in_ok-admit.was ∙ c.admit.ensures)).1
