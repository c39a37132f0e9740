use Rattle.removal.proofs.+remove_in.Given as goal

abbrev pub decreases-remove_in : goal.decreases-remove_in
decreases-remove_in g l = l.page.now.level
