-- What the words of a memory are to the memory that is opened on them.
use Rattle.std.specs.Prelude.{length}
use Rattle.device.specs.Meaning.{Meaning}
use Rattle.memory.specs.Memory.{Parts, parts, cleared}
use Rattle.medium.specs.declared.Words.{Words}

abbrev pub held : Words → Parts
held w = parts w.current.items w.persisted.items w.marks.items w.width

-- what the memory shows once it is opened
abbrev pub opened : Words → Meaning
opened w = cleared w.persisted.items (length w.marks.items) w.width
