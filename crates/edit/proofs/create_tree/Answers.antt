use Rattle.std.proofs.Common.{arith}
use Rattle.page.specs.View.{view}
use Rattle.edit.proofs.Editing.{good_create}
use Rattle.edit.proofs.Creating.{leaf_spare, created_root, created}
use Rattle.edit.proofs.create_tree.Goals as goal

pub link-requires-clause-on : goal.link-requires-clause-on
link-requires-clause-on g c = (leaf_spare _ _ _ c.requires.granted _ _ c.take-block.ensures).1

pub link-requires-clause-free : goal.link-requires-clause-free
link-requires-clause-free g c = (leaf_spare _ _ _ c.requires.granted _ _ c.take-block.ensures).2

pub invariant_of-result : goal.invariant_of-result
invariant_of-result g c = record { small = (omega arith, omega (arith, (leaf_spare _ _ _ c.requires.granted _ _ c.take-block.ensures).1, c.requires.granted.shape.lawful.limits.few)) }

pub returns : goal.returns
returns g c =
    let at = created_root _ _ _ c.requires.granted _ _ c.take-block.ensures in
    let D = created _ _ _ c.requires.granted _ _ c.take-block.ensures (view c.new-leaf.result) c.new-leaf.ensures.level c.new-leaf.ensures.these c.link.new.self c.link.ensures in
    record { root = at; edited = D; good = good_create _ _ _ c.requires.granted _ _ _ at D }
