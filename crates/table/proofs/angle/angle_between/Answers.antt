-- The rise times the distance stays below 2 ^ 31, and so does what is made of it.
use Rattle.std.proofs.Common.{◌-◌, arith}
use Rattle.std.proofs.lemmas.Bool.{lt-leb}
use Rattle.table.specs.declared.row.Row.{Row}
use Rattle.table.proofs.Bounds.{InRange, product_fits, quotient_fits, total_fits, answer}
use Rattle.table.proofs.angle.angle_between.Goals as goal

ranged : (r : Row) → InRange r.angle
ranged r = record { low = r.ranges.1; high = r.ranges.2 }

pub overflow_mul-result : goal.overflow_mul-result
overflow_mul-result c =
    product_fits c.args.lower.angle c.args.upper.angle (c.args.speed - c.args.lower.speed) 0
    (ranged c.args.lower) (ranged c.args.upper) (omega (arith, c.args.upper.ranges.0)) (omega arith)

pub nonzero_div-result : goal.nonzero_div-result
nonzero_div-result c = (
  omega arith,
  quotient_fits c.args.lower.angle c.args.upper.angle (c.args.speed - c.args.lower.speed) (c.args.upper.speed - c.args.lower.speed)
      (ranged c.args.lower) (ranged c.args.upper) (omega (arith, c.args.upper.ranges.0)) (omega (arith, c.args.upper.ranges.0)),
)

pub overflow_add-result : goal.overflow_add-result
overflow_add-result c =
    total_fits c.args.lower.angle c.args.upper.angle (c.args.speed - c.args.lower.speed) (c.args.upper.speed - c.args.lower.speed)
    (ranged c.args.lower) (ranged c.args.upper) (omega (arith, c.args.upper.ranges.0)) (omega (arith, c.args.upper.ranges.0))

pub returns : goal.returns
returns c =
    let a = answer c.args.lower.angle c.args.upper.angle (c.args.speed - c.args.lower.speed) (c.args.upper.speed - c.args.lower.speed)
    (ranged c.args.lower) (ranged c.args.upper) (omega (arith, c.args.upper.ranges.0)) (omega (arith, c.args.upper.ranges.0)) in
    let above = lt-leb c.args.speed c.args.lower.speed c.if-speed-lower.false in
    let below = lt-leb c.args.upper.speed c.args.speed c.if-speed-upper.false in
    rw (above, below) a
