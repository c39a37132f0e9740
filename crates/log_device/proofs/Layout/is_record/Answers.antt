use Rattle.std.proofs.Common.{MatchBool, sym, refl, subst}
use Rattle.log_device.specs.Log.{IsRecord}
use Rattle.log_device.proofs.WordKinds.{not_record}
use Rattle.log_device.proofs.Layout.is_record.Goals as goal

pub returns-else-eq : goal.returns-else-eq
returns-else-eq c = subst (λ t. MatchBool t (IsRecord c.args.self.blocks c.args.word) (IsRecord c.args.self.blocks c.args.word → ⊥)) (sym c.if-eq.false)
    (λ r. not_record c.args.word _ _ c.try_from.result c.try_from.ensures refl c.if-eq.ensures r.0)
