-- What a seal and a finish leave: the same trees, and counts that follow the places.
use Rattle.std.proofs.Common.{◌≡◌, ℕ, ◌+◌, ◌-◌, ◌%◌, ◌<◌, ◌≤◌, true, T, List, length, get_or, take, set, is_some, Some, None, IfSome, Option, sym, refl, ap, ◌∙◌, subst, ap₂, subst₂, inl, inr, arith, length-set}
use Rattle.std.proofs.lemmas.List.{take_all, take_more_same, take-set, get_or-set_same}
use Rattle.device.specs.Meaning.{Meaning, blocks_of, current_at, flushed}
use Rattle.device.specs.Cuts.{write, flush}
use Rattle.device.proofs.Choices.{flush_at, write_off, blocks_apply}
use Rattle.page.specs.Block.{Block, block_in, block_at, kids_of, level_of}
use Rattle.page.specs.Slot.{Root, Table, slot_words}
use Rattle.page.specs.declared.roots.Root as memory
use Rattle.page.specs.View.{root_of}
use Rattle.counts.specs.Counts.{one, occ, Counted, add_all}
use Rattle.counts.specs.Moves.{State, Held, Dropped}
use Rattle.counts.proofs.Parents.{parents_same, parents_ge}
use Rattle.counts.proofs.Opens.{occ_append, recount, add_all_lem, length_add_all}
use Rattle.counts.proofs.Steps.{held, alive_is_reached}
use Rattle.model.specs.Plain.{place}
use Rattle.model.specs.TreeBlocks.{elem, Good, AllGood}
use Rattle.model.specs.Model.{used}
use Rattle.model.specs.World.{Tables, placed, shape, sizes}
use Rattle.model.specs.Reach.{roots_of, rootings}
use Rattle.model.proofs.TreeLaws.{elem_cases}
use Rattle.model.proofs.Frames.{Reaches, good_at, good_inside, good_same}
use Rattle.model.proofs.Reach.{use_is_reach}
use Rattle.mount.specs.Mounts.{with_slot}
use Rattle.volume.specs.Kept.{Kept}
use Rattle.volume.specs.Sealing.{root_in, with_committed}
use Rattle.volume.proofs.Places.{others, roots_split}
use Rattle.volume.proofs.Clones.{top_is, changed, good, split, within, room, level_here}

-- counts are right of other contents too, where those of the counted blocks are the same
counted_same : (g g' : ℕ → Option Block) (cs : List ℕ) (h : ℕ → ℕ) → ((x : ℕ) → 0 < get_or cs x 0 → g' x ≡ g x) → Counted g cs h → Counted g' cs h
counted_same g g' cs h same c = record {
  eqn = λ b. omega (arith, c.eqn b, parents_same (λ x. kids_of (g' x)) (λ x. kids_of (g x)) cs b (λ k a. ap kids_of (same k a)));
  nodes = λ x a. subst (λ o. (is_some o ≡ true) × (level_of o < 5)) (sym (same x a)) (c.nodes x a);
  lower = λ x y a k.
      let k2 : 0 < occ y (kids_of (g x)) = subst (λ o. 0 < occ y (kids_of o)) (same x a) k in
      let b : 0 < get_or cs y 0 = omega (arith, c.eqn y, parents_ge (λ n. kids_of (g n)) cs x y a) in
      omega (arith, c.lower x y a k2, ap level_of (same x a), ap level_of (same y b));
}

block_same : (m m' : Meaning) (b : ℕ) → current_at m' b ≡ current_at m b → block_at m' b ≡ block_at m b
unfolding block_at
block_same m m' b e = ap block_in e

module _ (t : Tables) (q : State) (K : Kept t q) where
  used_inside : (b : ℕ) → T (elem b (used (shape t q.0))) → 2 ≤ b
  used_inside b h =
      elim (elem_cases b (Reaches (current_at q.0) t.working) (Reaches (current_at q.0) t.committed) h) [
        | inl k ↦ good_inside (blocks_of q.0) (current_at q.0) t.working K.standing.0 b k
        | inr k ↦ good_inside (blocks_of q.0) (current_at q.0) t.committed K.standing.1 b k
      ]

  -- a device that differs in its slots alone
  moved : (m' : Meaning) → blocks_of m' ≡ blocks_of q.0 → m'.width ≡ q.0.width → ((b : ℕ) → 2 ≤ b → current_at m' b ≡ current_at q.0 b) → Kept t (m', q.1)
  moved m' e w same =
      let goods = λ (x : Table) (g : AllGood (Good (blocks_of q.0) (current_at q.0)) x).
      subst (λ n. AllGood (Good n (current_at m')) x) (sym e)
      (good_same (blocks_of q.0) (current_at q.0) (current_at m') x (λ b k. same b (good_inside (blocks_of q.0) (current_at q.0) x g b k)) g) in
      record {
        sized = ap₂ sizes e w ∙ K.sized;
        working = K.working;
        committed = K.committed;
        generation = K.generation;
        standing = (goods t.working K.standing.0, goods t.committed K.standing.1);
        counted = counted_same (block_at q.0) (block_at m') q.1 (rootings t)
            (λ x a. block_same q.0 m' x (same x (used_inside x ((use_is_reach t q.0 K.standing x).0 ((alive_is_reached (block_at q.0) q.1 (rootings t) K.counted x).0 a)))))
            K.counted;
        long = K.long ∙ sym e;
      }

  pub kept_flushed : Kept t (flushed q.0, q.1)
  kept_flushed = moved (flushed q.0) (blocks_apply flush q.0) refl (λ b h. ap (λ c. c.current) (flush_at q.0 b))

  -- a slot is written
  pub kept_slot : (x : ℕ × Table) → Kept t (with_slot q.0 x, q.1)
  kept_slot x =
      moved (with_slot q.0 x) (blocks_apply (write (x.0 % 2) (slot_words q.0.width x.0 x.1)) q.0) refl
      (λ b h. ap (λ c. c.current) (write_off q.0 (x.0 % 2) b (slot_words q.0.width x.0 x.1) (λ e. omega (arith, e, h))))

-- working and committed places change roles
abbrev swapped : Tables → Tables
swapped t = record { working = t.committed; committed = t.working; generation = t.generation }

rootings_swapped : (t : Tables) (b : ℕ) → rootings t b ≡ rootings (swapped t) b
rootings_swapped t b = omega (arith, occ_append b (roots_of t.working) (roots_of t.committed), occ_append b (roots_of t.committed) (roots_of t.working))

kept_swapped : (t : Tables) (q : State) → Kept t q → Kept (swapped t) q
kept_swapped t q K = record {
  sized = K.sized;
  working = K.committed;
  committed = K.working;
  generation = K.generation;
  standing = (K.standing.1, K.standing.0);
  counted = recount (rootings t) (rootings (swapped t)) (rootings_swapped t) K.counted;
  long = K.long;
}

-- one place is committed
module _ (t : Tables) (q : State) (K : Kept t q) (n : ℕ) (h : n < 24) where
  abbrev o : Option Root
  o = place t.working n

  K' : Kept (swapped t) q
  K' = kept_swapped t q K

  -- references from all places but the committed place n
  abbrev rest : ℕ → ℕ
  rest = others (swapped t) n

  split_committed : (b : ℕ) → rootings t b ≡ occ b (root_in (place t.committed n)) + rest b
  split_committed b = rootings_swapped t b ∙ roots_split (swapped t) n (omega (arith, h, K.committed)) b

  pub ready : (p : Option memory.Root) → root_of p ≡ o → IfSome p (λ r. (r.block < blocks_of q.0) × (get_or q.1 r.block 0 < 65535))
  ready None e = tt
  ready (Some r) e = (within t q K n (r.height, r.block) (sym e) h, room t q K n (r.height, r.block) (sym e) h)

  -- the working root has one reference more
  more : Counted (block_at q.0) (add_all (root_in o) q.1) (λ b. occ b (root_in o) + rootings t b)
  more = add_all_lem (block_at q.0) (root_in o) q.1 (rootings t) (λ k p. held (block_at q.0) q.1 (rootings t) k K.counted (omega (arith, p, roots_split t n (omega (arith, h, K.working)) k))) K.counted

  pub due : (q' : State) → q'.0 ≡ q.0 → q'.1 ≡ add_all (root_in o) q.1 → (p : Option memory.Root) → root_of p ≡ place t.committed n → IfSome p (λ r. (1 ≤ r.height) × Held q' r.block (r.height - 1))
  due q' e d None k = tt
  due q' e d (Some r) k =
      let x : Root = (r.height, r.block) in
      let up : 1 ≤ r.height = (good (swapped t) q K' n x (sym k) h).height in
      let c : Counted (block_at q.0) (add_all (root_in o) q.1) (λ b. one r.block b + (occ b (root_in o) + rest b))
      = recount (λ b. occ b (root_in o) + rootings t b) (λ b. one r.block b + (occ b (root_in o) + rest b)) (λ b. omega (arith, rootings_swapped t b, split (swapped t) q K' n x (sym k) h b)) more in (
        up,
        record {
          others = λ b. occ b (root_in o) + rest b;
          counted = subst₂ (λ m cs. Counted (block_at m) cs (λ b. one r.block b + (occ b (root_in o) + rest b))) (sym e) (sym d) c;
          height = ap (λ m. level_of (block_at m r.block)) e ∙ level_here (swapped t) q K' n x (sym k) h ∙ top_is r.height up;
        },
      )

  -- and the root that was committed before one less
  pub kept_committed : (q' q'' : State) → q'.0 ≡ q.0 → q'.1 ≡ add_all (root_in o) q.1 → q''.0 ≡ q'.0 → Dropped (root_in (place t.committed n)) q' q''.1 → length q''.1 ≡ length q'.1
      → Kept (with_committed t (set t.committed n o)) q''
  kept_committed q' q'' e d e' drop l =
      let ho : ℕ → ℕ = λ b. occ b (root_in o) + rest b in
      let c : Counted (block_at q.0) (add_all (root_in o) q.1) (λ b. occ b (root_in (place t.committed n)) + ho b)
      = recount (λ b. occ b (root_in o) + rootings t b) (λ b. occ b (root_in (place t.committed n)) + ho b) (λ b. omega (arith, split_committed b)) more in
      let c' : Counted (block_at q.0) q''.1 ho = subst (λ m. Counted (block_at m) q''.1 ho) e (drop ho (subst₂ (λ m cs. Counted (block_at m) cs (λ b. occ b (root_in (place t.committed n)) + ho b)) (sym e) (sym d) c)) in
      let k = changed (swapped t) q K' n h o q''.1 (good_at (Good (blocks_of q.0) (current_at q.0)) t.working n K.standing.0) (l ∙ ap length d ∙ length_add_all (root_in o) q.1) c' in
      subst (λ m. Kept (with_committed t (set t.committed n o)) (m, q''.1)) (sym (e' ∙ e)) (kept_swapped (placed (swapped t) (set t.committed n o)) (q.0, q''.1) k)

-- the first n places are committed
pub record Committed (n : ℕ) (v w : Tables × Meaning) : Type 0 where
  pub working : w.0.working ≡ v.0.working
  pub generation : w.0.generation ≡ v.0.generation
  pub meaning : w.1 ≡ v.1
  pub places : take n w.0.committed ≡ take n v.0.working
  pub long : length w.0.committed ≡ 24

pub committed_next : (n : ℕ) (v w x : Tables × Meaning) → n < 24 → length v.0.working ≡ 24 → Committed n v w → x ≡ (with_committed w.0 (set w.0.committed n (place w.0.working n)), w.1) → Committed (n + 1) v x
committed_next n v w x h l c e =
    subst (Committed (n + 1) v) (sym e)
    (record {
      working = c.working;
      generation = c.generation;
      meaning = c.meaning;
      places = take_more_same (set w.0.committed n (place w.0.working n)) v.0.working n None (omega (arith, length-set w.0.committed n (place w.0.working n), c.long)) (omega (arith, l))
          (take-set w.0.committed n (place w.0.working n) ∙ c.places)
          (get_or-set_same w.0.committed n (place w.0.working n) None (omega (arith, c.long)) ∙ ap (λ x. place x n) c.working);
      long = length-set w.0.committed n (place w.0.working n) ∙ c.long;
    })

pub committed_all : (n : ℕ) (v w : Tables × Meaning) → 24 ≤ n → length v.0.working ≡ 24 → Committed n v w → w ≡ (with_committed v.0 v.0.working, v.1)
committed_all n v w h l c =
    let e : w.0.committed ≡ v.0.working = sym (take_all n w.0.committed (omega (arith, c.long))) ∙ c.places ∙ take_all n v.0.working (omega (arith, l)) in
    λ i. (record { working = c.working i; committed = e i; generation = c.generation i }, c.meaning i)
