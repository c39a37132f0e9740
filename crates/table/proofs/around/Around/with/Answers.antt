use Rattle.std.proofs.Common.{ap}
use Rattle.std.specs.Option.{option_map}
use Rattle.table.specs.Rows.{pair_of}
use Rattle.table.proofs.Sides.{seen, first_above, last_below}
use Rattle.table.proofs.around.Around.with.Goals as goal

pub returns-in-Some : goal.returns-in-Some
returns-in-Some c rows h = seen c.args.speed (pair_of c.args.row) rows _ _ (pair_of c.in-Some.field-0) (ap (option_map pair_of) c.in-Some.is) h

pub returns-in-None : goal.returns-in-None
returns-in-None c rows h = first_above c.args.speed (pair_of c.args.row) rows _ _ (ap (option_map pair_of) c.in-None.is) h c.if-row-speed.true

pub returns-in-None-2 : goal.returns-in-None-2
returns-in-None-2 c rows h = last_below c.args.speed (pair_of c.args.row) rows _ _ (ap (option_map pair_of) c.in-None-2.is) h c.if-row-speed.false
