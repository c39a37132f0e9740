-- The calls that only read.
use Rattle.std.proofs.Common.{◌≡◌, ℕ, [], Some, None, Ok, sym, refl, ap, ◌∙◌, subst}
use Rattle.device.specs.Meaning.{Meaning, current_at}
use Rattle.page.specs.Slot.{Root}
use Rattle.model.specs.Plain.{Map, Ask, early, has, place}
use Rattle.model.specs.World.{Tables, Mode.mounted, trees, shape, Effect}
use Rattle.model.specs.Model.{late}
use Rattle.model.proofs.Frames.{trees_place, tree_at?}
use Rattle.model.proofs.Places.{maps_place, rows_of?}
use Rattle.reads.specs.Rows.{rows_on}
use Rattle.volume.specs.Kept.{Called, rows_of_clone}
use Rattle.volume.proofs.Asking.{accepted, placed_here, early_here}

-- the rows of a clone are those of its tree
pub clone_rows : (v : Tables × Meaning) (n : ℕ) (r : Root) → place v.0.working n ≡ Some r → rows_of_clone v n ≡ rows_on v.1 r
clone_rows v n r spot =
    ap (λ o. elim o as (λ _. Map) [ Some m ↦ m | None ↦ [] ]) (maps_place (trees (current_at v.1) v.0.working) n ∙ ap rows_of? (trees_place (current_at v.1) v.0.working n ∙ ap (tree_at? (current_at v.1)) spot))

-- a call q that only reads is accepted: it answers by the rows of the clone
pub read_called : {X : Type 0} (u v w : Tables × Meaning) (n : ℕ) (r : Root) → v ≡ u → w ≡ v → place u.0.working n ≡ Some r → (f : Map → X) (x : X) → x ≡ f (rows_on v.1 r)
    → (q : Ask) → early (has u.0.working) q ≡ None → late (shape v.0 v.1) q ≡ None → Effect v.0 v.1 q [] (mounted v.0) v.1 → Called q (f (rows_of_clone u n)) u (Ok x) w
read_called u v w n r same kept spot f x is q no' late' e =
    let spot' : place v.0.working n ≡ Some r = placed_here n same spot in
    let value : x ≡ f (rows_of_clone v n) = is ∙ ap f (sym (clone_rows v n r spot')) in
    let early' : early (has v.0.working) q ≡ None = early_here q same no' in
    subst (λ (v : Tables × Meaning). Called q (f (rows_of_clone v n)) v (Ok x) w) same
    (subst (λ (w : Tables × Meaning). Called q (f (rows_of_clone v n)) v (Ok x) w) (sym kept) (subst (λ y. Called q y v (Ok x) v) value (accepted v.0 v.1 q x early' late' [] v.0 v.1 refl e)))
