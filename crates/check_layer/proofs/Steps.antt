-- What the check of this crate's functions is given.
use Rattle.check_layer.proofs.Follows.{checked_flushed, checked_after, after_passed}
use Rattle.check_layer.proofs.Cuts.{built_cut}

pub ruleset steps = (checked_flushed, checked_after, after_passed, built_cut)
