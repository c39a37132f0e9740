use Rattle.edit.proofs.+put_in.Given as goal

abbrev pub decreases-put_in : goal.decreases-put_in
decreases-put_in g l = l.page.now.level
