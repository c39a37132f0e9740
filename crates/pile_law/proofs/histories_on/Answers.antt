use Rattle.std.proofs.Common.{subst}
use Rattle.pile_law.specs.Histories.{LawOn}
use Rattle.pile_law.specs.TwoHistories.{AgreeOn}
use Rattle.pile_law.proofs.Histories.{piles_keep_the_law}
use Rattle.pile_law.proofs.TwoHistories.{two_piles_agree}
use Rattle.pile_law.proofs.histories_on.Goals as goal

pub returns-clause-one : goal.returns-clause-one
returns-clause-one g c = let s = g.met.D.Piled.stands c.args._device.now in subst (LawOn _ _) s.1 (piles_keep_the_law _ _ s.0)

pub returns-clause-two : goal.returns-clause-two
returns-clause-two g c = let s = g.met.D.Piled.stands c.args._device.now in subst (AgreeOn _ _) s.1 (two_piles_agree _ _ s.0)
