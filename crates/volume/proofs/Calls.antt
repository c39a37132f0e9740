-- The calls that only link or give up a tree.
use Rattle.std.proofs.Common.{◌≡◌, ℕ, ◌<◌, List, [], map, length, get_or, set, Some, None, Ok, Option, sym, refl, ap, ◌∙◌, arith}
use Rattle.std.proofs.lemmas.List.{map-set, get_or-map, length-map}
use Rattle.device.specs.Meaning.{Meaning}
use Rattle.page.specs.Slot as slot
use Rattle.page.specs.declared.roots.Root.{Root}
use Rattle.page.specs.View.{root_of}
use Rattle.model.specs.Plain.{Ask.clone, Ask.delete, early, has, place}
use Rattle.model.specs.World.{Tables, Mode.mounted, placed}
use Rattle.volume.specs.Kept.{tables, Called}
use Rattle.volume.specs.Sealing.{with_committed}
use Rattle.volume.proofs.Asking.{accepted}

-- one place of the tables in memory
pub tables_set : (w c : List (Option Root)) (g i : ℕ) (o : Option Root) → tables (set w i o) c g ≡ placed (tables w c g) (set (tables w c g).working i (root_of o))
tables_set w c g i o = ap (λ ws. with_working ws) (map-set root_of w i o)
  where
    with_working : List (Option slot.Root) → Tables
    with_working ws = placed (tables w c g) ws

-- a place of a table in memory
pub place_is : (w : List (Option Root)) (n : ℕ) (d : Option Root) → n < length (map root_of w) → root_of (get_or w n d) ≡ place (map root_of w) n
place_is w n d h = sym (get_or-map root_of w n d None (omega (arith, h, length-map w root_of)))

-- a committed place gets what the working one has
pub tables_committed : (w c : List (Option Root)) (g n : ℕ) (d : Option Root) → n < length (map root_of w) → tables w (set c n (get_or w n d)) g ≡ with_committed (tables w c g) (set (tables w c g).committed n (place (tables w c g).working n))
tables_committed w c g n d h = ap (with_committed (tables w c g)) (map-set root_of c n (get_or w n d) ∙ ap (λ o. set (map root_of c) n o) (place_is w n d h))

pub clone_called : (v : Tables × Meaning) (f n : ℕ) (r : slot.Root) (m' : Meaning) → early (has v.0.working) (clone f n) ≡ None → place v.0.working f ≡ Some r → m' ≡ v.1
    → Called (clone f n) (tt {0}) v (Ok (tt {0})) (placed v.0 (set v.0.working n (Some r)), m')
clone_called v f n r m' k at e = accepted v.0 v.1 (clone f n) (tt {0}) k refl [] (placed v.0 (set v.0.working n (Some r))) m' e (refl, ap (λ o. mounted (placed v.0 (set v.0.working n o))) (sym at))

pub delete_called : (v : Tables × Meaning) (n : ℕ) (m' : Meaning) → early (has v.0.working) (delete n) ≡ None → m' ≡ v.1
    → Called (delete n) (tt {0}) v (Ok (tt {0})) (placed v.0 (set v.0.working n None), m')
delete_called v n m' k e = accepted v.0 v.1 (delete n) (tt {0}) k refl [] (placed v.0 (set v.0.working n None)) m' e (refl, refl)
