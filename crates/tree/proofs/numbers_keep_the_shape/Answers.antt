use Rattle.tree.proofs.Numbering.{shape_kept, numbers_natural, erased}
use Rattle.tree.proofs.numbers_keep_the_shape.Goals as goal

pub returns : goal.returns
returns g c = record { shape = shape_kept _; values = numbers_natural _ _; back = erased _ }
