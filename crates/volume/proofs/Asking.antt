-- A call that is refused, and one that is accepted.
use Rattle.std.proofs.Common.{◌≡◌, ℕ, Bool, List, [], Some, None, Ok, Err, Option, Result, sym, refl, ap, ◌∙◌, subst, ap₂}
use mathlib.Core.Path.{fun_ext}
use Rattle.std.specs.Option.{option_or}
use Rattle.device.specs.Meaning.{Meaning}
use Rattle.device.specs.Cuts.{Op, replay}
use Rattle.page.specs.Slot.{Root}
use Rattle.model.specs.declared.refusal.Refusal.{Refusal}
use Rattle.model.specs.Plain.{Ask, has, early, place}
use Rattle.model.specs.Model.{refusal, late}
use Rattle.model.specs.World.{Tables, Mode, Mode.mounted, shape, Quiet, Effect, Asked}
use Rattle.model.proofs.Grants.{has_shape}
use Rattle.volume.specs.Kept.{Called}

-- what holds of a volume holds of how it is made
pub placed_here : {u v : Tables × Meaning} {o : Option Root} (n : ℕ) → v ≡ u → place u.0.working n ≡ o → place v.0.working n ≡ o
placed_here n same spot = ap (λ (v : Tables × Meaning). place v.0.working n) same ∙ spot

pub early_here : {u v : Tables × Meaning} {o : Option Refusal} (q : Ask) → v ≡ u → early (has u.0.working) q ≡ o → early (has v.0.working) q ≡ o
early_here q same is = ap (λ (v : Tables × Meaning). early (has v.0.working) q) same ∙ is

module _ {X : Type 0} (t : Tables) (m : Meaning) (q : Ask) (x : X) where
  outcome : (o : Option Refusal) (r : Result X Refusal) (os : List Op) (w : Mode) (m' : Meaning) → refusal (shape t m) q ≡ o
      → elim o as (λ _. Type 0) [ Some e ↦ (r ≡ Err e) × Quiet (mounted t) os w | None ↦ (r ≡ Ok x) × Effect t m q os w m' ]
      → Asked Err (Ok x) t m q r os w m'
  outcome o r os w m' e d = subst (λ o. elim o as (λ _. Type 0) [ Some e ↦ (r ≡ Err e) × Quiet (mounted t) os w | None ↦ (r ≡ Ok x) × Effect t m q os w m' ]) (sym e) d

  in_order : (o p : Option Refusal) → early (has t.working) q ≡ o → late (shape t m) q ≡ p → refusal (shape t m) q ≡ option_or o p
  in_order o p e l = ap₂ option_or (ap (λ (f : ℕ → Bool). early f q) (fun_ext (has_shape t m)) ∙ e) l

  denied : (e : Refusal) → refusal (shape t m) q ≡ Some e → Called q x (t, m) (Err e) (t, m)
  denied e k = record { os = []; trace = refl; asked = outcome (Some e) (Err e) [] (mounted t) m k (refl, (refl, refl)) }

  pub denied_early : (e : Refusal) → early (has t.working) q ≡ Some e → Called q x (t, m) (Err e) (t, m)
  denied_early e k = denied e (in_order (Some e) (late (shape t m) q) k refl)

  pub denied_late : (e : Refusal) → early (has t.working) q ≡ None → late (shape t m) q ≡ Some e → Called q x (t, m) (Err e) (t, m)
  denied_late e k l = denied e (in_order None (Some e) k l)

  pub accepted : early (has t.working) q ≡ None → late (shape t m) q ≡ None → (os : List Op) (t' : Tables) (m' : Meaning) → m' ≡ replay os m → Effect t m q os (mounted t') m' → Called q x (t, m) (Ok x) (t', m')
  accepted k l os t' m' e f = record { os = os; trace = e; asked = outcome None (Ok x) os (mounted t') m' (in_order None None k l) (refl, f) }
