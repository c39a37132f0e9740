-- The places of a slot, in order.
use Rattle.std.proofs.Common.{◌≡◌, ℕ, suc, ◌+◌, ◌∷◌, drop, Some, None, Ok, Err, Option, Result, sym, refl, ap, ◌∙◌, arith}
use Rattle.std.specs.Option.{option_or}
use Rattle.device.specs.Meaning.{Meaning, blocks_of, current_at}
use Rattle.page.specs.Slot as slots
use Rattle.page.specs.Slot.{Table, every, rooted}
use Rattle.model.specs.declared.refusal.Refusal.{Refusal}
use Rattle.model.specs.Walk.{Fault, fault_of, pair_with, walk}
use Rattle.mount.specs.Due.{passes}
use Rattle.mount.specs.Counting.{place_walk, verdict, table_walk}

-- the walk of one clone, and then of the others
walk_on : (m : Meaning) (k : ℕ) (o : Option Fault) (t : Table) → Ok tt ≡ passes k o → verdict (option_or (pair_with k o) (walk (blocks_of m) (current_at m) (suc k) t)) ≡ table_walk m (suc k) t
walk_on m k None t h = refl
walk_on m k (Some f) t h = absurd (let z : ◌≡◌ {A = ℕ} 0 1 = cc in omega arith)

place_on : (m : Meaning) (k : ℕ) (p : Option slots.Root) (rest : Table) → Ok tt ≡ place_walk m k p → table_walk m k (p ∷ rest) ≡ table_walk m (suc k) rest
place_on m k None rest h = refl
place_on m k (Some r) rest h = walk_on m k (fault_of (blocks_of m) (current_at m) r) rest h

walk_stop : (m : Meaning) (k : ℕ) (o : Option Fault) (t : Table) (e : Refusal) → Err e ≡ passes k o → Err e ≡ verdict (option_or (pair_with k o) (walk (blocks_of m) (current_at m) (suc k) t))
walk_stop m k None t e h = absurd (let z : ◌≡◌ {A = ℕ} 0 1 = cc in omega arith)
walk_stop m k (Some f) t e h = h

place_stop : (m : Meaning) (k : ℕ) (p : Option slots.Root) (rest : Table) (e : Refusal) → Err e ≡ place_walk m k p → Err e ≡ table_walk m k (p ∷ rest)
place_stop m k None rest e h = absurd (let z : ◌≡◌ {A = ℕ} 0 1 = cc in omega arith)
place_stop m k (Some r) rest e h = walk_stop m k (fault_of (blocks_of m) (current_at m) r) rest e h

module _ (m : Meaning) (i : ℕ) (ps rest : Table) (p : Option slots.Root) (z : Result Unit Refusal) (q : drop i ps ≡ p ∷ rest) (inv : table_walk m i (drop i ps) ≡ z) where
  pub clones_step : Ok tt ≡ place_walk m i p → table_walk m (i + 1) rest ≡ z
  clones_step k =
      let e : i + 1 ≡ suc i = omega arith in
      ap (λ j. table_walk m j rest) e ∙ sym (place_on m i p rest k) ∙ sym (ap (table_walk m i) q) ∙ inv

  pub clones_stop : (e : Refusal) → Err e ≡ place_walk m i p → Err e ≡ z
  clones_stop e k = place_stop m i p rest e k ∙ sym (ap (table_walk m i) q) ∙ inv
