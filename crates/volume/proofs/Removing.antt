-- The call that takes a row out: it is there, or not.
use Rattle.std.proofs.Common.{◌≡◌, ℕ, ◌+◌, ◌*◌, Bool, true, false, cond, List, [], Some, None, Ok, Err, Option, ℤ, is_some, sym, refl, ap, ◌∙◌, subst}
use Rattle.device.specs.Meaning.{Meaning}
use Rattle.device.specs.Cuts.{Op, replay}
use Rattle.tree.specs.Reads.{look}
use Rattle.model.specs.declared.refusal.Refusal.{Refusal}
use Rattle.model.specs.Plain.{Ask.remove, early, has}
use Rattle.model.specs.TreeBlocks.{Change.takes}
use Rattle.model.specs.Model.{Shapes, holds, late, needs, height}
use Rattle.model.specs.World.{Tables, Mode.mounted, shape, model_of, Changed, Effect, Quiet}
use Rattle.model.proofs.Right.{holds_find}
use Rattle.volume.specs.Kept.{Called, rows_of_clone}
use Rattle.volume.proofs.Asking.{denied_late, accepted}

module _ (v : Tables × Meaning) (n s : ℕ) (k : early (has v.0.working) (remove n s) ≡ None) where
  abbrev S : Shapes
  S = shape v.0 v.1

  abbrev x : Option ℤ
  x = look s (rows_of_clone v n)

  -- it has none: nothing changes
  pub removed_none : (a : Option ℤ) → a ≡ None → a ≡ x → (w : Tables × Meaning) → w ≡ v → Called (remove n s) x v (Ok a) w
  removed_none a none is w same =
      let h : holds S n s ≡ false = holds_find (model_of v.0 v.1) n s ∙ ap is_some (sym is ∙ none) in
      let l : late S (remove n s) ≡ None = ap (λ (b : Bool). cond b (needs S n (2 * height S n + 1)) None) h in
      let e : Effect v.0 v.1 (remove n s) [] (mounted v.0) v.1 = subst (λ (b : Bool). cond b (Changed v.0 v.1 n (takes s) [] (mounted v.0) v.1) (Quiet (mounted v.0) [] (mounted v.0))) (sym h) (refl, refl) in
      subst (λ w. Called (remove n s) x v (Ok a) w) (sym same) (subst (λ y. Called (remove n s) x v (Ok y) v) (sym is) (accepted v.0 v.1 (remove n s) x k l [] v.0 v.1 refl e))

  module _ (a : ℤ) (is : Some a ≡ x) where
    there : holds S n s ≡ true
    there = holds_find (model_of v.0 v.1) n s ∙ ap is_some (sym is)

    pub removed_late : (e : Refusal) → needs S n (2 * height S n + 1) ≡ Some e → Called (remove n s) x v (Err e) v
    removed_late e l = denied_late v.0 v.1 (remove n s) x e k (ap (λ (b : Bool). cond b (needs S n (2 * height S n + 1)) None) there ∙ l)

    pub removed_row : needs S n (2 * height S n + 1) ≡ None → (os : List Op) (t' : Tables) (m' : Meaning) → m' ≡ replay os v.1 → Changed v.0 v.1 n (takes s) os (mounted t') m' → Called (remove n s) x v (Ok (Some a)) (t', m')
    removed_row l os t' m' e f =
        subst (λ y. Called (remove n s) x v (Ok y) (t', m')) (sym is)
        (accepted v.0 v.1 (remove n s) x k (ap (λ (b : Bool). cond b (needs S n (2 * height S n + 1)) None) there ∙ l) os t' m' e
        (subst (λ (b : Bool). cond b (Changed v.0 v.1 n (takes s) os (mounted t') m') (Quiet (mounted v.0) os (mounted t'))) (sym there) f))
