-- What the check of this crate's functions is given.
use Rattle.quota.specs.Limited.{limited_blocks}
use Rattle.quota.proofs.Follows.{limited_flushed, limited_after}

pub ruleset steps = (limited_blocks, limited_flushed, limited_after)
