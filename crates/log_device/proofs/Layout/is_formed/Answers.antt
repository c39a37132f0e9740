use Rattle.std.proofs.Common.{◌≤◌, MatchBool, sym, refl, ◌∙◌, subst}
use Rattle.std.proofs.lemmas.Bool.{le-leb}
use Rattle.log_device.specs.Log.{Formed, flushed_in}
use Rattle.log_device.proofs.WordKinds.{not_log, clash}
use Rattle.log_device.proofs.Layout.is_formed.Goals.{then-eq, else-eq}
use Rattle.log_device.proofs.Layout.is_formed.Goals as goal

pub returns-else-count-capacity : goal.returns-else-count-capacity
returns-else-count-capacity c =
    let img = c.args.image.now in
    subst (λ t. MatchBool t (Formed img c.args.self.blocks c.args.self.width) (Formed img c.args.self.blocks c.args.self.width → ⊥)) (sym c.if-count-capacity.false)
    (elim c.if-eq.branch [
      | then-eq w ↦ (λ f. clash (sym c.if-count-capacity.false ∙ w.value-is ∙ le-leb _ _ (subst (λ x. x ≤ w.capacity.result) (sym c.flushed-count.ensures) (subst (λ x. flushed_in img ≤ x) (sym w.capacity.ensures) f.within))))
      | else-eq w ↦ (λ f. not_log _ _ _ c.try_from.result c.try_from.ensures refl w.if-eq.ensures f.head)
    ])
