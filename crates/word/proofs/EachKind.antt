-- What holds of all kinds holds of each.
use Rattle.std.proofs.Common.{length, arith}
use Rattle.std.specs.List.{AllWithin}
use Rattle.word.specs.declared.Kind.{Kind}
use Rattle.word.specs.declared.TheConstants.{KINDS}
use Rattle.word.specs.declared.Kind.TheVariants.{Leaf, Index, Speed, Angle, Child, Slot, Clone, Log, Record}

pub each_kind : (P : Kind → Type 0) → AllWithin P KINDS 0 (length KINDS) → (k : Kind) → P k
each_kind P h Leaf = h 0 Leaf (omega arith) (omega arith)
each_kind P h Index = h 1 Index (omega arith) (omega arith)
each_kind P h Speed = h 2 Speed (omega arith) (omega arith)
each_kind P h Angle = h 3 Angle (omega arith) (omega arith)
each_kind P h Child = h 4 Child (omega arith) (omega arith)
each_kind P h Slot = h 5 Slot (omega arith) (omega arith)
each_kind P h Clone = h 6 Clone (omega arith) (omega arith)
each_kind P h Log = h 7 Log (omega arith) (omega arith)
each_kind P h Record = h 8 Record (omega arith) (omega arith)
