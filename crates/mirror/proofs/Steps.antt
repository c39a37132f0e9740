-- What the check of this crate's functions is given.
use Rattle.mirror.specs.Mirrored.{mirrored_blocks}
use Rattle.mirror.proofs.Follows.{cell_mirrored, mirrored_flushed, mirrored_written, alike_flushed, alike_written}
use Rattle.mirror.proofs.Cuts.{built_cut}

pub ruleset steps = (mirrored_blocks, cell_mirrored, mirrored_flushed, mirrored_written, alike_flushed, alike_written, built_cut)
