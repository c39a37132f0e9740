use Rattle.std.proofs.Common.{ap, ◌∙◌}
use Rattle.memory.specs.Memory.{parts, parts_of, memory}
use Rattle.memory.proofs.Facts.{flush_after}
use Rattle.memory.proofs.MemoryDevice.flush.Goals as goal

pub returns : goal.returns
returns c =
    let s = c.args.self.now in
    let t = c.persist.new.self in
    let e = c.persist.ensures in
    let after = ap (λ x. memory (parts x t.persisted.now t.marks.now s.width)) e.current ∙ ap (λ x. memory (parts s.slices.current.now x t.marks.now s.width)) e.persisted
    ∙ ap (λ ms. memory (parts s.slices.current.now s.slices.current.now ms s.width)) e.marks ∙ flush_after (parts_of s.slices s.width) s.sound in
    record { after = after; calls = after }
