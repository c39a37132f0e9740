-- The counts that mount makes, clone by clone.
use Rattle.std.proofs.Common.{◌≡◌, ℕ, zero, suc, ◌+◌, ◌<◌, ◌≤◌, true, ◌&&◌, ltb, leb, ◌⊎◌, List, [], ◌∷◌, ◌++◌, length, get_or, take, replicate, Some, None, Ok, Option, sym, refl, ap, ◌∙◌, subst, ⊎_elim, append-nil, arith, length-set}
use lib.ListN.{length-replicate}
use Rattle.std.proofs.lemmas.List.{take_more, get_or-set_other}
use Rattle.std.proofs.lemmas.Bool.{and_parts, leb-true, ltb-true, cases_eq}
use Rattle.device.specs.Meaning.{Meaning, blocks_of, current_at}
use Rattle.page.specs.Block.{block_at, kids_of}
use Rattle.page.specs.Slot.{Root, Table, rooted}
use Rattle.counts.specs.Counts.{one, occ, parents, Counted}
use Rattle.counts.specs.Keeping.{retained}
use Rattle.counts.proofs.Parents.{one_same, one_other}
use Rattle.counts.proofs.Opens.{occ_append, occ_le}
use Rattle.model.specs.TreeBlocks.{top_level}
use Rattle.model.specs.Walk.{least, fault_of}
use Rattle.model.specs.World.{fresh}
use Rattle.model.specs.Reach.{roots_of, rootings}
use Rattle.mount.specs.Tally.{Owing, tallied, Room, Fine}
use Rattle.mount.specs.Counting.{place_walk, count_at, Counting, Ready}
use Rattle.mount.proofs.Tally.{tallies, count_more}
use Rattle.mount.proofs.Walking.{count_small, passes_none}

parents_zero : (kids : ℕ → List ℕ) (n b : ℕ) → parents kids (replicate n 0) b ≡ 0
parents_zero kids zero b = refl
parents_zero kids (suc n) b = omega (arith, parents_zero (λ j. kids (suc j)) n b)

at_zero : (n b : ℕ) → ◌≡◌ {A = ℕ} (get_or (replicate n 0) b 0) 0
at_zero zero b = refl
at_zero (suc n) zero = refl
at_zero (suc n) (suc b) = at_zero n b

pub counting_none : (m : Meaning) (cs : List ℕ) → cs ≡ replicate (blocks_of m) 0 → Counting (m, cs) []
counting_none m cs e =
    subst (λ ds. Counting (m, ds) []) (sym e)
    (record {
      long = length-replicate (blocks_of m) 0;
      owing = λ b. omega (arith, at_zero (blocks_of m) b, parents_zero (λ x. kids_of (block_at m x)) (blocks_of m) b);
      fine = λ x p. absurd (omega (arith, at_zero (blocks_of m) x));
    })

-- the roots so far and one more, each twice
abbrev outs : List ℕ → ℕ → ℕ → ℕ
outs roots b x = (occ x roots + one b x) + (occ x roots + one b x)

outs_few : (roots : List ℕ) (b x : ℕ) → length roots ≤ 23 → outs roots b x ≤ 48
outs_few roots b x h = ⊎_elim (λ e. omega (arith, one_same b x e, occ_le x roots)) (λ ne. omega (arith, one_other b x ne, occ_le x roots)) (cases_eq x b)

pub ready_room : (m : Meaning) (cs : List ℕ) (b : ℕ) → Ready (m, cs) → Room (m, cs) (b ∷ [])
ready_room m cs b r = record {
  outside = outs r.roots b;
  others = one b;
  owing = λ x. omega (arith, r.counting.owing x);
  modest = λ x. outs_few r.roots b x r.few;
}

-- what a root keeps
pub record Rooted (n : ℕ) (r : Root) : Type 0 where
  pub low : 1 ≤ r.0
  pub high : r.0 ≤ 5
  pub tree : 2 ≤ r.1
  pub within : r.1 < n

pub rooted_parts : (n : ℕ) (r : Root) → rooted n (Some r) ≡ true → Rooted n r
rooted_parts n r h =
    let a = and_parts _ (leb 2 r.1 && ltb r.1 n) h in
    let b = and_parts (leb 1 r.0) (leb r.0 5) a.0 in
    let c = and_parts (leb 2 r.1) (ltb r.1 n) a.1 in
    record { low = leb-true 1 r.0 b.0; high = leb-true r.0 5 b.1; tree = leb-true 2 r.1 c.0; within = ltb-true r.1 n c.1 }

pub top_low : (h : ℕ) → h ≤ 5 → top_level h < 5
top_low zero l = omega arith
top_low (suc h) l = omega arith

-- a clone whose tree has no fault
module _ (m : Meaning) (cs : List ℕ) (r : Root) (y : Ready (m, cs)) (low : r.0 ≤ 5) (lt : r.1 < blocks_of m) (k : fault_of (blocks_of m) (current_at m) r ≡ None) where
  abbrev b : ℕ
  b = r.1

  abbrev ds : List ℕ
  ds = tallied m (top_level r.0) r.1 cs

  walked : (length ds ≡ length cs) × ((h owed : ℕ → ℕ) → Owing (block_at m) cs h (λ x. one b x + owed x) → Owing (block_at m) ds h owed) × ((x : ℕ) → 0 < get_or ds x 0 → (0 < get_or cs x 0) ⊎ Fine (block_at m) x)
  walked = tallies m (least (top_level r.0)) (top_level r.0) 0 10000 b cs (top_low r.0 low) (omega (arith, y.counting.long)) y.counting.long k

  after : Owing (block_at m) ds (outs y.roots b) (one b)
  after = walked.1 (outs y.roots b) (one b) (λ x. omega (arith, y.counting.owing x))

  pub walked_long : length ds ≡ blocks_of m
  walked_long = walked.0 ∙ y.counting.long

  pub walked_small : length cs ≤ 4096 → get_or ds b 0 < 65535
  walked_small few = count_small m ds (b ∷ []) b (omega (arith, walked.0, few))
      (record { outside = outs y.roots b; others = λ x. 0; owing = λ x. omega (arith, after x); modest = λ x. outs_few y.roots b x y.few })

  pub counting_step : Counting (m, retained b ds) (y.roots ++ b ∷ [])
  counting_step =
      let h : ℕ → ℕ = outs y.roots b in
      let own : Owing (block_at m) ds h (λ x. one b x + 0) = λ x. omega (arith, after x) in
      let alive : 0 < get_or ds b 0 = omega (arith, own b, one_same b b refl) in
      let in-ds : b < length ds = omega (arith, walked_long) in
      record {
        long = length-set ds b (get_or ds b 0 + 1) ∙ walked_long;
        owing = λ x. omega (arith, count_more (block_at m) ds h (λ z. 0) b in-ds own alive x, occ_append x y.roots (b ∷ []));
        fine = λ x p. ⊎_elim (λ q. y.counting.fine x q) (λ f. f)
            (walked.2 x (⊎_elim (λ e. subst (λ n. 0 < get_or ds n 0) (sym e) alive) (λ ne. subst (λ n. 0 < n) (get_or-set_other ds b x (get_or ds b 0 + 1) 0 ne) p) (cases_eq x b)));
      }

-- the roots of one place
abbrev pub roots_at : Option Root → List ℕ
roots_at p = roots_of (p ∷ [])

pub counting_place : (m : Meaning) (n : ℕ) (cs : List ℕ) (p : Option Root) (y : Ready (m, cs)) → rooted (blocks_of m) p ≡ true → Ok tt ≡ place_walk m n p → Counting (m, count_at m p cs) (y.roots ++ roots_at p)
counting_place m n cs None y g k = subst (Counting (m, cs)) (sym (append-nil y.roots)) y.counting
counting_place m n cs (Some r) y g k =
    let f = rooted_parts (blocks_of m) r g in
    counting_step m cs r y f.high f.within (passes_none n (fault_of (blocks_of m) (current_at m) r) k)

roots_append : (ps qs : Table) → roots_of (ps ++ qs) ≡ roots_of ps ++ roots_of qs
roots_append [] qs = refl
roots_append (None ∷ ps) qs = roots_append ps qs
roots_append (Some r ∷ ps) qs = ap (λ xs. r.1 ∷ xs) (roots_append ps qs)

pub roots_more : (ps : Table) (i : ℕ) → i < length ps → roots_of (take (i + 1) ps) ≡ roots_of (take i ps) ++ roots_at (get_or ps i None)
roots_more ps i h = ap roots_of (take_more ps i None h) ∙ roots_append (take i ps) (get_or ps i None ∷ [])

pub roots_few : (i : ℕ) (ps : Table) → length (roots_of (take i ps)) ≤ i
roots_few zero ps = omega arith
roots_few (suc i) [] = omega arith
roots_few (suc i) (None ∷ ps) = omega (arith, roots_few i ps)
roots_few (suc i) (Some r ∷ ps) = omega (arith, roots_few i ps)

pub counted : (m : Meaning) (cs : List ℕ) (x : ℕ × Table) → Counting (m, cs) (roots_of x.1) → Counted (block_at m) cs (rootings (fresh x))
counted m cs x c = record {
  eqn = λ b. omega (arith, c.owing b, occ_append b (roots_of x.1) (roots_of x.1));
  nodes = λ z p. ((c.fine z p).some, (c.fine z p).low);
  lower = λ z y p k. (c.fine z p).below y k;
}
