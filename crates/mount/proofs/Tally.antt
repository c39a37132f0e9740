-- The counts of a walk that meets no fault.
use Rattle.std.proofs.Common.{◌≡◌, ℕ, zero, suc, ◌+◌, ◌<◌, true, cond, eqb, ltb, leb, ◌⊎◌, List, [], ◌∷◌, length, get_or, is_some, Some, None, Option, sym, refl, ap, ◌∙◌, subst, inl, inr, ⊎_elim, arith, length-set}
use Rattle.std.proofs.lemmas.Bool.{and_parts, ltb-true, eq-eqb, ne_eqb, cases_eq, cases_lt}
use Rattle.std.proofs.lemmas.List.{get_or-set_other}
use Rattle.device.specs.Meaning.{Meaning, blocks_of, current_at}
use Rattle.page.specs.Block.{Block, block_at, kids_of, level_of, children}
use Rattle.page.specs.Slot.{every}
use Rattle.tree.specs.Layout.{next}
use Rattle.counts.specs.Counts.{one, occ, live}
use Rattle.counts.specs.Keeping.{retained}
use Rattle.counts.proofs.Parents.{one_same, one_other, live_pos, parents_set}
use Rattle.model.specs.TreeBlocks.{entries_in}
use Rattle.model.specs.Walk.{payable, fault_below, fault_at}
use Rattle.model.proofs.Walks.{either_none}
use Rattle.mount.specs.Tally.{Owing, along, tallied, kids, Fine}
use Rattle.mount.proofs.Blocks.{sound_block}
use Rattle.counts.proofs.Steps.{at_same}

-- a reference that was owed is counted
module _ (g : ℕ → Option Block) (cs : List ℕ) (h owed : ℕ → ℕ) (x : ℕ) (lt : x < length cs) (c : Owing g cs h (λ b. one x b + owed b)) where
  -- it is not the first
  pub count_more : 0 < get_or cs x 0 → Owing g (retained x cs) h owed
  count_more a b =
      let step = parents_set (λ y. kids_of (g y)) cs x (get_or cs x 0 + 1) b lt in
      let l1 = live_pos (get_or cs x 0) (occ b (kids_of (g x))) a in
      let l2 = live_pos (get_or cs x 0 + 1) (occ b (kids_of (g x))) (omega arith) in
      ⊎_elim
      (λ s. omega (arith, c b, step, l1, l2, one_same x b s, at_same cs x (get_or cs x 0 + 1) b lt s, ap (λ n. get_or cs n 0) s))
      (λ ne. omega (arith, c b, step, l1, l2, one_other x b ne, get_or-set_other cs x b (get_or cs x 0 + 1) 0 ne)) (cases_eq b x)

  -- it is the first: those of the children are owed now
  pub count_first : get_or cs x 0 ≡ 0 → Owing g (retained x cs) h (λ b. occ b (kids_of (g x)) + owed b)
  count_first z b =
      let step = parents_set (λ y. kids_of (g y)) cs x (get_or cs x 0 + 1) b lt in
      let l1 = ap (λ n. live n (occ b (kids_of (g x)))) z in
      let l2 = live_pos (get_or cs x 0 + 1) (occ b (kids_of (g x))) (omega arith) in
      ⊎_elim
      (λ s. omega (arith, c b, step, l1, l2, one_same x b s, at_same cs x (get_or cs x 0 + 1) b lt s, ap (λ n. get_or cs n 0) s))
      (λ ne. omega (arith, c b, step, l1, l2, one_other x b ne, get_or-set_other cs x b (get_or cs x 0 + 1) 0 ne)) (cases_eq b x)

kids_zero : (x : Block) → x.level ≡ 0 → kids_of (Some x) ≡ []
kids_zero x e = ap (λ l. children l x.entries) e

kids_suc : (x : Block) (l : ℕ) → x.level ≡ suc l → kids_of (Some x) ≡ kids x.entries
kids_suc x l e = ap (λ l. children l x.entries) e

-- of a tree without fault, read through the counts of its blocks
Does : Meaning → List ℕ → List ℕ → (ℕ → ℕ) → Type 0
Does m cs ds due =
    (length ds ≡ length cs)
    × ((h owed : ℕ → ℕ) → Owing (block_at m) cs h (λ x. due x + owed x) → Owing (block_at m) ds h owed)
    × ((x : ℕ) → 0 < get_or ds x 0 → (0 < get_or cs x 0) ⊎ Fine (block_at m) x)

module _ (m : Meaning) where
  abbrev Faultless : ℕ → ℕ → ℕ → ℕ → ℕ → Type 0
  Faultless k l lo hi b = fault_at (blocks_of m) (current_at m) k l lo hi b ≡ None

  abbrev Below : ℕ → ℕ → List (ℕ × ℕ) → Type 0
  Below l hi es = fault_below (blocks_of m) (current_at m) l hi es ≡ None

  level_is : (k l lo hi b : ℕ) → Faultless k l lo hi b → level_of (block_at m b) ≡ l
  level_is k l lo hi b h = let s = sound_block m k l lo hi b h in ap level_of s.here ∙ s.made.level

  kids_level : (l hi : ℕ) (es : List (ℕ × ℕ)) (y : ℕ) → Below (suc l) hi es → 0 < occ y (kids es) → level_of (block_at m y) ≡ l
  kids_level l hi [] y k p = absurd (omega arith)
  kids_level l hi (e ∷ r) y k p =
      let q = either_none (fault_at (blocks_of m) (current_at m) 7 l e.0 (next hi r) e.1) (fault_below (blocks_of m) (current_at m) (suc l) hi r) k in
      ⊎_elim (λ (s : y ≡ e.1). ap (λ n. level_of (block_at m n)) s ∙ level_is 7 l e.0 (next hi r) e.1 q.0)
      (λ ne. kids_level l hi r y q.1 (omega (arith, one_other e.1 y ne))) (cases_eq y e.1)

  fine : (k l lo hi b : ℕ) → l < 5 → Faultless k l lo hi b → Fine (block_at m) b
  fine k zero lo hi b h f =
      let s = sound_block m k zero lo hi b f in
      let none : kids_of (block_at m b) ≡ [] = ap kids_of s.here ∙ kids_zero s.block s.made.level in
      record { some = ap is_some s.here; low = omega (arith, level_is k zero lo hi b f); below = λ y p. absurd (omega (arith, ap (occ y) none)) }
  fine k (suc l) lo hi b h f =
      let s = sound_block m k (suc l) lo hi b f in
      let some : kids_of (block_at m b) ≡ kids s.block.entries = ap kids_of s.here ∙ kids_suc s.block l s.made.level in
      record {
        some = ap is_some s.here;
        low = omega (arith, level_is k (suc l) lo hi b f);
        below = λ y p. omega (arith, level_is k (suc l) lo hi b f, kids_level l hi s.block.entries y s.below (subst (λ ks. 0 < occ y ks) some p));
      }

  at_retained : (cs : List ℕ) (b x : ℕ) → 0 < get_or (retained b cs) x 0 → (0 < get_or cs x 0) ⊎ (x ≡ b)
  at_retained cs b x p = ⊎_elim (λ e. inr e) (λ ne. inl (subst (λ n. 0 < n) (get_or-set_other cs b x (get_or cs b 0 + 1) 0 ne) p)) (cases_eq x b)

  abbrev Tallies : ℕ → Type 0
  Tallies l = (k lo hi b : ℕ) (cs : List ℕ) → b < length cs → length cs ≡ blocks_of m → Faultless k l lo hi b → Does m cs (tallied m l b cs) (one b)

  all_along : (l : ℕ) → Tallies l → (hi : ℕ) (es : List (ℕ × ℕ)) (cs : List ℕ) → length cs ≡ blocks_of m → every (payable (blocks_of m) (suc l)) es ≡ true → Below (suc l) hi es
      → Does m cs (along (tallied m l) es cs) (λ x. occ x (kids es))
  unfolding Does
  all_along l ih hi [] cs n o k = (refl, (λ h owed c b. omega (arith, c b)), (λ x p. inl p))
  all_along l ih hi (e ∷ r) cs n o k =
      let a = and_parts (payable (blocks_of m) (suc l) e) (every (payable (blocks_of m) (suc l)) r) o in
      let p = and_parts (leb 2 e.1) (ltb e.1 (blocks_of m)) a.0 in
      let q = either_none (fault_at (blocks_of m) (current_at m) 7 l e.0 (next hi r) e.1) (fault_below (blocks_of m) (current_at m) (suc l) hi r) k in
      let ds : List ℕ = tallied m l e.1 cs in
      let one-done = ih 7 e.0 (next hi r) e.1 cs (omega (arith, n, ltb-true e.1 (blocks_of m) p.1)) n q.0 in
      let rest = all_along l ih hi r ds (one-done.0 ∙ n) a.1 q.1 in (
        rest.0 ∙ one-done.0,
        (λ h owed c. rest.1 h owed (one-done.1 h (λ x. occ x (kids r) + owed x) (λ x. omega (arith, c x)))),
        (λ x p. ⊎_elim (λ y. one-done.2 x y) (λ f. inr f) (rest.2 x p)),
      )

  bump : (k l lo hi b : ℕ) (cs : List ℕ) → l < 5 → Faultless k l lo hi b
      → (length (retained b cs) ≡ length cs) × ((x : ℕ) → 0 < get_or (retained b cs) x 0 → (0 < get_or cs x 0) ⊎ Fine (block_at m) x)
  bump k l lo hi b cs h f = (
    length-set cs b (get_or cs b 0 + 1),
    (λ x p. ⊎_elim (λ y. inl y) (λ e. inr (subst (Fine (block_at m)) (sym e) (fine k l lo hi b h f))) (at_retained cs b x p)),
  )

  level_tallies : (l : ℕ) → l < 5 → Tallies l
  unfolding Does
  level_tallies zero h5 k lo hi b cs lt n f =
      let s = sound_block m k zero lo hi b f in
      let none : kids_of (block_at m b) ≡ [] = ap kids_of s.here ∙ kids_zero s.block s.made.level in
      let u = bump k zero lo hi b cs h5 f in (
        u.0,
        (λ h owed c. ⊎_elim
            (λ a. count_more (block_at m) cs h owed b lt c a)
            (λ z x. omega (arith, count_first (block_at m) cs h owed b lt c (omega arith) x, ap (occ x) none)) (cases_lt 0 (get_or cs b 0))),
        u.1,
      )
  level_tallies (suc l) h5 k lo hi b cs lt n f =
      let s = sound_block m k (suc l) lo hi b f in
      let es : List (ℕ × ℕ) = s.block.entries in
      let some : kids_of (block_at m b) ≡ kids es = ap kids_of s.here ∙ kids_suc s.block l s.made.level in
      let u = bump k (suc l) lo hi b cs h5 f in
      let w = all_along l (level_tallies l (omega arith)) hi es (retained b cs) (u.0 ∙ n) s.made.pays s.below in
      let D : List ℕ → Type 0 = λ ds. Does m cs ds (one b) in
      ⊎_elim
      (λ (z : get_or cs b 0 ≡ 0).
      let e : cond (eqb (get_or cs b 0) 0) (along (tallied m l) (entries_in (block_at m b)) (retained b cs)) (retained b cs) ≡ along (tallied m l) es (retained b cs)
      = ap (λ t. cond t (along (tallied m l) (entries_in (block_at m b)) (retained b cs)) (retained b cs)) (eq-eqb (get_or cs b 0) 0 z) ∙ ap (λ o. along (tallied m l) (entries_in o) (retained b cs)) s.here in
      subst D (sym e) (
        w.0 ∙ u.0,
        (λ h owed c. w.1 h owed (λ x. omega (arith, count_first (block_at m) cs h owed b lt c z x, ap (occ x) some))),
        (λ x p. ⊎_elim (λ y. u.1 x y) (λ g. inr g) (w.2 x p)),
      ))
      (λ (a : get_or cs b 0 ≡ 0 → ⊥).
      subst D (sym (ap (λ t. cond t (along (tallied m l) (entries_in (block_at m b)) (retained b cs)) (retained b cs)) (ne_eqb (get_or cs b 0) 0 a)))
      (u.0, (λ h owed c. count_more (block_at m) cs h owed b lt c (omega arith)), u.1))
      (cases_eq (get_or cs b 0) 0)

  -- what a walk that meets no fault has counted
  pub tallies : (k l lo hi b : ℕ) (cs : List ℕ) → l < 5 → b < length cs → length cs ≡ blocks_of m → Faultless k l lo hi b →
      (length (tallied m l b cs) ≡ length cs)
      × ((h owed : ℕ → ℕ) → Owing (block_at m) cs h (λ x. one b x + owed x) → Owing (block_at m) (tallied m l b cs) h owed)
      × ((x : ℕ) → 0 < get_or (tallied m l b cs) x 0 → (0 < get_or cs x 0) ⊎ Fine (block_at m) x)
  unfolding Does
  tallies k l lo hi b cs h5 lt n f = level_tallies l h5 k lo hi b cs lt n f
