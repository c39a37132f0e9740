-- A clone that is there; one more clone of its tree; one clone less.
use Rattle.std.proofs.Common.{◌≡◌, ℕ, zero, suc, ◌+◌, ◌-◌, ◌<◌, ◌≤◌, List, [], ◌∷◌, length, get_or, set, Some, None, Option, sym, refl, ap, ◌∙◌, subst, arith, length-set, ⊎_elim}
use Rattle.std.proofs.lemmas.List.{get_or_past}
use Rattle.std.proofs.lemmas.Bool.{cases_lt}
use Rattle.device.specs.Meaning.{blocks_of, current_at}
use Rattle.page.specs.Block.{block_at, level_of}
use Rattle.page.specs.Slot.{Root}
use Rattle.counts.specs.Counts.{one, occ, Counted}
use Rattle.counts.specs.Keeping.{retained}
use Rattle.counts.specs.Moves.{State, Held, Dropped}
use Rattle.counts.proofs.Opens.{recount, held_alive, count_le}
use Rattle.counts.proofs.Steps.{add_one_more}
use Rattle.model.specs.Plain.{place}
use Rattle.model.specs.TreeBlocks.{Good, top_level, tree_at}
use Rattle.model.specs.World.{Tables, placed}
use Rattle.model.specs.Reach.{rootings}
use Rattle.model.proofs.Frames.{OnPlace, good_at, good_set}
use Rattle.model.proofs.Grants.{sizes_parts}
use Rattle.volume.specs.Sealing.{root_in}
use Rattle.volume.specs.Kept.{Kept}
use Rattle.volume.proofs.Places.{others, roots_split, roots_placed, few_rootings}

pub top_is : (h : ℕ) → 1 ≤ h → top_level h ≡ h - 1
top_is zero p = absurd (omega arith)
top_is (suc l) p = omega arith

module _ (t : Tables) (q : State) (K : Kept t q) where
  pub few : length q.1 ≤ 4096
  few = let p = sizes_parts (blocks_of q.0) q.0.width K.sized in omega (arith, p.1, K.long)

  -- a place changes from what it was to o, and so do the counts: the references from all other places stay
  pub changed : (n : ℕ) → n < 24 → (o : Option Root) (cs : List ℕ) → OnPlace (Good (blocks_of q.0) (current_at q.0)) o → length cs ≡ length q.1
      → Counted (block_at q.0) cs (λ b. occ b (root_in o) + others t n b) → Kept (placed t (set t.working n o)) (q.0, cs)
  changed n h o cs g e c = record {
    sized = K.sized;
    working = length-set t.working n o ∙ K.working;
    committed = K.committed;
    generation = K.generation;
    standing = (good_set (Good (blocks_of q.0) (current_at q.0)) t.working n o K.standing.0 g, K.standing.1);
    counted = recount (λ b. occ b (root_in o) + others t n b) (rootings (placed t (set t.working n o))) (λ b. sym (roots_placed t n (omega (arith, K.working)) b o)) c;
    long = e ∙ K.long;
  }

  -- the root of a clone
  module _ (n : ℕ) (r : Root) (at : place t.working n ≡ Some r) (h : n < 24) where
    pub good : Good (blocks_of q.0) (current_at q.0) r
    good = subst (OnPlace (Good (blocks_of q.0) (current_at q.0))) at (good_at (Good (blocks_of q.0) (current_at q.0)) t.working n K.standing.0)

    pub split : (b : ℕ) → rootings t b ≡ one r.1 b + others t n b
    split b =
        let p = roots_split t n (omega (arith, K.working)) b in
        let z : occ b (root_in (place t.working n)) ≡ one r.1 b + 0 = ap (λ o. occ b (root_in o)) at in
        omega (arith, p, z)

    pub counted : Counted (block_at q.0) q.1 (λ b. one r.1 b + others t n b)
    counted = recount (rootings t) (λ b. one r.1 b + others t n b) split K.counted

    pub alive : 0 < get_or q.1 r.1 0
    alive = held_alive (block_at q.0) q.1 (others t n) r.1 counted

    pub within : r.1 < blocks_of q.0
    within = ⊎_elim (λ (l : r.1 < length q.1). omega (arith, l, K.long)) (λ (past : length q.1 ≤ r.1). absurd (omega (arith, alive, get_or_past q.1 r.1 0 past))) (cases_lt r.1 (length q.1))

    pub room : get_or q.1 r.1 0 < 65535
    room = omega (arith, count_le q.0 q.1 (rootings t) r.1 K.counted (omega (arith, few_rootings t r.1 K.working K.committed)) few)

    -- one more clone of the tree
    pub copied : (k : ℕ) → k < 24 → place t.working k ≡ None → Kept (placed t (set t.working k (Some r))) (q.0, retained r.1 q.1)
    copied k l none =
        changed k l (Some r) (retained r.1 q.1) good (length-set q.1 r.1 _)
        (recount (λ b. one r.1 b + rootings t b) (λ b. occ b (root_in (Some r)) + others t k b)
        (λ b.
        let p = roots_split t k (omega (arith, K.working)) b in
        let z : occ b (root_in (place t.working k)) ≡ 0 = ap (λ o. occ b (root_in o)) none in
        let y : occ b (root_in (Some r)) ≡ one r.1 b + 0 = refl in
        omega (arith, p, z, y))
        (add_one_more (block_at q.0) q.1 (rootings t) r.1 K.counted alive))

    -- the clone is gone
    pub level_here : level_of (block_at q.0 r.1) ≡ top_level r.0
    unfolding block_at tree_at
    level_here = ap level_of good.stored.0

    pub held : Held q r.1 (top_level r.0)
    held = record { others = others t n; counted = counted; height = level_here }

    pub dropped : (cs : List ℕ) → length cs ≡ length q.1 → Dropped (r.1 ∷ []) q cs → Kept (placed t (set t.working n None)) (q.0, cs)
    dropped cs e d =
        changed n h None cs tt e
        (recount (others t n) (λ b. occ b (root_in None) + others t n b) (λ b. omega arith)
        (d (others t n) (recount (λ b. one r.1 b + others t n b) (λ b. occ b (r.1 ∷ []) + others t n b) (λ b. omega arith) counted)))
