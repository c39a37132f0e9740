-- Places of trees, of their shapes and of their rows.
use Rattle.std.proofs.Common.{◌≡◌, ℕ, zero, suc, [], ◌∷◌, set, Some, None, Option, sym, refl, ap, ◌∙◌}
use Rattle.page.specs.Slot.{Root}
use Rattle.model.specs.Plain.{Map, place}
use Rattle.model.specs.TreeBlocks.{Tree, Form, form, bare_tree, rows_of}
use Rattle.model.specs.Model.{Trees, Forms, Model, forms, maps_of, shape_of, form_at, tree_of}

abbrev pub form_of? : Option (Root × Tree) → Option (Root × Form)
form_of? None = None
form_of? (Some x) = Some (x.0, form x.1)

abbrev pub rows_of? : Option (Root × Tree) → Option Map
rows_of? None = None
rows_of? (Some x) = Some (rows_of x.1)

pub forms_place : (t : Trees) (n : ℕ) → place (forms t) n ≡ form_of? (place t n)
forms_place [] n = refl
forms_place (None ∷ t) zero = refl
forms_place (Some x ∷ t) zero = refl
forms_place (None ∷ t) (suc n) = forms_place t n
forms_place (Some x ∷ t) (suc n) = forms_place t n

pub maps_place : (t : Trees) (n : ℕ) → place (maps_of t) n ≡ rows_of? (place t n)
maps_place [] n = refl
maps_place (None ∷ t) zero = refl
maps_place (Some x ∷ t) zero = refl
maps_place (None ∷ t) (suc n) = maps_place t n
maps_place (Some x ∷ t) (suc n) = maps_place t n

pub forms_set : (t : Trees) (n : ℕ) (o : Option (Root × Tree)) → forms (set t n o) ≡ set (forms t) n (form_of? o)
forms_set [] n o = refl
forms_set (None ∷ t) zero None = refl
forms_set (None ∷ t) zero (Some y) = refl
forms_set (Some x ∷ t) zero None = refl
forms_set (Some x ∷ t) zero (Some y) = refl
forms_set (None ∷ t) (suc n) o = ap {B = Forms} (λ y. None ∷ y) (forms_set t n o)
forms_set (Some x ∷ t) (suc n) o = ap {B = Forms} (λ y. Some (x.0, form x.1) ∷ y) (forms_set t n o)

pub form_at_lem : (M : Model) (n : ℕ) → form (tree_of M n) ≡ form_at (shape_of M) n
form_at_lem M n = go (place M.working n) ∙ ap (λ o. elim o as (λ _. Form) [ Some x ↦ x.1 | None ↦ form bare_tree ]) (sym (forms_place M.working n))
  where
    go : (o : Option (Root × Tree)) → form (elim o as (λ _. Tree) [ Some x ↦ x.1 | None ↦ bare_tree ]) ≡ elim (form_of? o) as (λ _. Form) [ Some x ↦ x.1 | None ↦ form bare_tree ]
    go None = refl
    go (Some x) = refl
