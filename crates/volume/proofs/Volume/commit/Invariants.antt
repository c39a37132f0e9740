use Rattle.volume.proofs.Sealing.{Committed}
use Rattle.volume.proofs.Volume.commit.Given as goal

abbrev pub invariant-loop-n : goal.invariant-loop-n
invariant-loop-n g l = Committed l.n l.initial.self l.self
