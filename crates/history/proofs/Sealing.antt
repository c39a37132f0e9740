-- Sealing a volume is a step, and so is finishing.
use Rattle.std.proofs.Common.{◌≡◌, ℕ, [], ◌∷◌, Some, None, Option, refl, sym, ap, subst}
use Rattle.device.specs.Meaning.{Meaning, flushed}
use Rattle.device.specs.Cuts.{Op.flush, replay}
use Rattle.model.specs.declared.refusal.Refusal.{Refusal}
use Rattle.model.specs.Plain.{Map, Ask.seal, Call.ask, Call.finish, Answer, Answer.done, Answer.refused}
use Rattle.model.specs.Model.{refusal}
use Rattle.model.specs.World.{Tables, Mode.mounted, Mode.sealed, Effect, Quiet, shape, finished_tables, finishing}
use Rattle.history.specs.Machine.{Stepped}

pub seal_step : (V : Type 0) (join : ℕ → Map → V) (t : Tables) (m : Meaning) (v : Tables × Meaning) → refusal (shape t m) seal ≡ None → v ≡ (t, flushed m)
    → Stepped V join (mounted t, m) (ask seal) done (sealed v.0, v.1)
seal_step V join t m v h e = (flush ∷ [], (ap (λ x. x.1) e, subst Due (sym h) (refl, (refl, ap (λ x. sealed x.0) e))))
  where
    Due : Option Refusal → Type 0
    Due (Some r) = (◌≡◌ {A = Answer V} done (refused r)) × Quiet (mounted t) (flush ∷ []) (sealed v.0)
    Due None = (◌≡◌ {A = Answer V} done done) × Effect t m seal (flush ∷ []) (sealed v.0) v.1

pub finish_step : (V : Type 0) (join : ℕ → Map → V) (t : Tables) (m : Meaning) (v : Tables × Meaning) → v ≡ (finished_tables t, replay (finishing t m.width) m)
    → Stepped V join (sealed t, m) finish done (mounted v.0, v.1)
finish_step V join t m v e = (finishing t m.width, (ap (λ x. x.1) e, (refl, refl, ap (λ x. mounted x.0) e)))
