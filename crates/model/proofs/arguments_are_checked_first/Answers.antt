use Rattle.std.proofs.Common.{ap}
use Rattle.std.specs.Option.{option_or}
use Rattle.model.specs.Order.{EarlyFirst, AbsentFirst}
use Rattle.model.specs.Model.{late}
use Rattle.model.specs.Plain.{Ask.put}
use Rattle.model.specs.declared.refusal.Refusal.TheVariants.{Absent}
use Rattle.model.proofs.arguments_are_checked_first.Goals as goal

early_first : EarlyFirst
early_first S q r e = ap (λ o. option_or o (late S q)) e

absent_first : AbsentFirst
absent_first S n s a hn hs ha h = early_first S (put n s a) Absent (rw (hn, hs, ha, h))

pub returns-clause-any : goal.returns-clause-any
returns-clause-any c = early_first

pub returns-clause-absent : goal.returns-clause-absent
returns-clause-absent c = absent_first
