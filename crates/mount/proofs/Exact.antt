-- Mount accepts exactly the images that keep the layout.
use Rattle.std.proofs.Common.{◌≡◌, ℕ, Bool, true, false, cond, List, Some, None, Ok, Err, Option, Result, sym, refl, ap, ◌∙◌, subst, arith}
use Rattle.device.specs.Meaning.{Meaning, Lawful, blocks_of, current_at}
use Rattle.page.specs.Slot.{Table}
use Rattle.model.specs.declared.refusal.Refusal.{Refusal}
use Rattle.model.specs.declared.refusal.Refusal.TheVariants.{Shape}
use Rattle.model.specs.TreeBlocks.{Good, AllGood}
use Rattle.model.specs.Walk.{Fault, walk}
use Rattle.model.specs.Reach.{roots_of}
use Rattle.model.specs.World.{sizes, found, faulty, walked, current_slot}
use Rattle.model.proofs.Walks.{walk_exact}
use Rattle.mount.specs.Counting.{Counting}
use Rattle.mount.specs.Mounts.{Kept, MountExact, Accepted, Off}
use Rattle.mount.proofs.Counting.{counted}
use Rattle.mount.proofs.Slots.{usable_of, usable_to, pair_of, pair_used, used_rooted}

-- what mount finds, by its parts
accepts : (m : Meaning) (x : ℕ × Table) → sizes (blocks_of m) m.width ≡ true → Some x ≡ current_slot m → walk (blocks_of m) (current_at m) 0 x.1 ≡ None → found m ≡ Ok x
accepts m x fit h k =
    let w = walk (blocks_of m) (current_at m) 0 in
    ap (λ b. cond b (walked w (current_slot m)) (Err Shape)) fit ∙ ap (walked w) (sym h) ∙ ap (λ (o : Option (ℕ × Fault)). elim o [ Some r ↦ Err (faulty r) | None ↦ Ok x ]) k

record Found (m : Meaning) (x : ℕ × Table) : Type 0 where
  fit : sizes (blocks_of m) m.width ≡ true
  slot : current_slot m ≡ Some x
  walk : walk (blocks_of m) (current_at m) 0 x.1 ≡ None

found_parts : (m : Meaning) (x : ℕ × Table) → found m ≡ Ok x → Found m x
found_parts m x h = by_sizes (sizes (blocks_of m) m.width) refl h
  where
    by_faults : (y : ℕ × Table) (o : Option (ℕ × Fault)) → ◌≡◌ {A = Result (ℕ × Table) Refusal} (elim o [ Some r ↦ Err (faulty r) | None ↦ Ok y ]) (Ok x) → (y ≡ x) × (o ≡ None)
    by_faults y None h = (let q : y ≡ x = cc in q, refl)
    by_faults y (Some f) h = absurd (let z : ◌≡◌ {A = ℕ} 0 1 = cc in omega arith)

    by_slot : (o : Option (ℕ × Table)) → walked (walk (blocks_of m) (current_at m) 0) o ≡ Ok x → (o ≡ Some x) × (walk (blocks_of m) (current_at m) 0 x.1 ≡ None)
    by_slot None h = absurd (let z : ◌≡◌ {A = ℕ} 0 1 = cc in omega arith)
    by_slot (Some y) h =
        let p = by_faults y (walk (blocks_of m) (current_at m) 0 y.1) h in
        (ap Some p.0, subst (λ (z : ℕ × Table). walk (blocks_of m) (current_at m) 0 z.1 ≡ None) p.0 p.1)

    by_sizes : (b : Bool) → b ≡ sizes (blocks_of m) m.width → cond b (walked (walk (blocks_of m) (current_at m) 0) (current_slot m)) (Err Shape) ≡ Ok x → Found m x
    by_sizes true e h = let p = by_slot (current_slot m) h in record { fit = sym e; slot = p.0; walk = p.1 }
    by_sizes false e h = absurd (let z : ◌≡◌ {A = ℕ} 0 1 = cc in omega arith)

all_good : (m : Meaning) (x : ℕ × Table) → current_slot m ≡ Some x → walk (blocks_of m) (current_at m) 0 x.1 ≡ None → AllGood (Good (blocks_of m) (current_at m)) x.1
all_good m x s k = (walk_exact (blocks_of m) (current_at m) 0 x.1 (used_rooted m x s)).0 k

pub mount_exact : MountExact
mount_exact m x w = (
  (λ h.
      let f = found_parts m x h in
      let u = usable_of m f.fit in
      let p = pair_of m x w u f.slot in
      record { usable = u; before = p.before; apart = p.apart; this = p.this; that = p.that; trees = all_good m x f.slot f.walk }),
  (λ k.
      let s = pair_used m x (record { before = k.before; apart = k.apart; this = k.this; that = k.that }) in
      accepts m x (usable_to m k.usable) (sym s) ((walk_exact (blocks_of m) (current_at m) 0 x.1 (used_rooted m x s)).1 k.trees)),
)

-- an image that is refused is off the layout
off_layout : (m : Meaning) (e : Refusal) → Lawful m → found m ≡ Err e → (x : ℕ × Table) → Kept m x → ⊥
off_layout m e w h x k = absurd (let p : ◌≡◌ {A = Result (ℕ × Table) Refusal} (Err e) (Ok x) = sym h ∙ (mount_exact m x w).1 k in let z : ◌≡◌ {A = ℕ} 0 1 = cc in omega arith)

-- what mount answers, by what is found
pub accepted : (m : Meaning) (x : ℕ × Table) (cs : List ℕ) → Lawful m → found m ≡ Ok x → Counting (m, cs) (roots_of x.1) → Accepted (m, cs) x
accepted m x cs w h c =
    let k = (mount_exact m x w).0 h in
    record { found = h; kept = k; sizes = usable_to m k.usable; standing = (k.trees, k.trees); counted = counted m cs x c; long = c.long }

pub refused : (m : Meaning) (e : Refusal) → Lawful m → found m ≡ Err e → Off m e
refused m e w h = record { found = h; off = off_layout m e w h }
