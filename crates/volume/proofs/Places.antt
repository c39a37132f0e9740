-- The roots of the places, when one place changes.
use Rattle.std.proofs.Common.{◌≡◌, ℕ, zero, suc, ◌+◌, ◌<◌, ◌≤◌, [], ◌∷◌, length, set, Some, None, Option, refl, arith}
use Rattle.page.specs.Slot.{Root, Table}
use Rattle.counts.specs.Counts.{one, occ}
use Rattle.counts.proofs.Opens.{occ_append, occ_le}
use Rattle.model.specs.Plain.{place}
use Rattle.model.specs.World.{Tables, placed}
use Rattle.model.specs.Reach.{roots_of, rootings}
use Rattle.volume.specs.Sealing.{root_in}

roots_cons : (b : ℕ) (o : Option Root) (t : Table) → occ b (roots_of (o ∷ t)) ≡ occ b (root_in o) + occ b (roots_of t)
roots_cons b None t = omega arith
roots_cons b (Some r) t = let q : occ b (root_in (Some r)) ≡ one r.1 b + 0 = refl in omega (arith, q)

pub roots_set : (b : ℕ) (t : Table) (n : ℕ) (o : Option Root) → n < length t → occ b (roots_of (set t n o)) + occ b (root_in (place t n)) ≡ occ b (roots_of t) + occ b (root_in o)
roots_set b [] n o h = absurd (omega arith)
roots_set b (x ∷ t) zero o h = omega (arith, roots_cons b o t, roots_cons b x t)
roots_set b (x ∷ t) (suc n) o h = omega (arith, roots_cons b x (set t n o), roots_cons b x t, roots_set b t n o (omega arith))

-- references from the places but the working place n
abbrev pub others : Tables → ℕ → ℕ → ℕ
others t n b = rootings (placed t (set t.working n None)) b

module _ (t : Tables) (n : ℕ) (h : n < length t.working) (b : ℕ) where
  pub roots_split : rootings t b ≡ occ b (root_in (place t.working n)) + others t n b
  roots_split =
      omega (arith, occ_append b (roots_of t.working) (roots_of t.committed), occ_append b (roots_of (set t.working n None)) (roots_of t.committed), roots_set b t.working n None h)

  pub roots_placed : (o : Option Root) → rootings (placed t (set t.working n o)) b ≡ occ b (root_in o) + others t n b
  roots_placed o =
      omega (arith, occ_append b (roots_of (set t.working n o)) (roots_of t.committed), occ_append b (roots_of (set t.working n None)) (roots_of t.committed), roots_set b t.working n None h, roots_set b t.working n o h)

roots_few : (t : Table) → length (roots_of t) ≤ length t
roots_few [] = omega arith
roots_few (None ∷ t) = omega (arith, roots_few t)
roots_few (Some r ∷ t) = omega (arith, roots_few t)

-- at most 48 references are from places
pub few_rootings : (t : Tables) (b : ℕ) → length t.working ≡ 24 → length t.committed ≡ 24 → rootings t b ≤ 48
few_rootings t b w c =
    omega (arith, occ_append b (roots_of t.working) (roots_of t.committed), occ_le b (roots_of t.working), occ_le b (roots_of t.committed), roots_few t.working, roots_few t.committed)
