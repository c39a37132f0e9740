-- References that are dropped, one after another.
use Rattle.std.proofs.Common.{◌≡◌, ℕ, ◌+◌, ◌-◌, ◌<◌, List, [], ◌∷◌, ◌++◌, length, get_or, take, drop, set, Some, None, Option, sym, refl, ap, ◌∙◌, subst, arith}
use Rattle.std.proofs.lemmas.List.{drop_more, take-append-drop}
use Rattle.device.specs.Meaning.{Meaning}
use Rattle.page.specs.Block.{Block, kids_of, level_of, block_at, children}
use Rattle.counts.specs.Counts.{one, occ, Counted}
use Rattle.counts.specs.Moves.{Held, Dropped}
use Rattle.counts.proofs.Steps.{drop_one, drop_last}
use Rattle.counts.proofs.Opens.{occ_append, occ_at, recount}

pub dropped_none : (m : Meaning) (cs : List ℕ) → Dropped [] (m, cs) cs
dropped_none m cs h c = recount (λ b. 0 + h b) h (λ b. omega arith) c

pub dropped_push : (xs : List ℕ) (y : ℕ) (m : Meaning) (cs cs' cs'' : List ℕ) → Dropped xs (m, cs) cs' → Dropped (y ∷ []) (m, cs') cs'' → Dropped (xs ++ y ∷ []) (m, cs) cs''
dropped_push xs y m cs cs' cs'' d e h c =
    e h (d (λ b. occ b (y ∷ []) + h b)
    (recount (λ b. occ b (xs ++ y ∷ []) + h b) (λ b. occ b xs + (occ b (y ∷ []) + h b)) (λ b. omega (arith, occ_append b xs (y ∷ []))) c))

-- after i of the children ks are dropped, the next is still held
next_held : (ks : List ℕ) (i level : ℕ) (h : ℕ → ℕ) (m : Meaning) (cs cs' : List ℕ) → Counted (block_at m) cs (λ b. occ b ks + h b) → ((y : ℕ) → 0 < occ y ks → level_of (block_at m y) + 1 ≡ level)
    → i < length ks → Dropped (take i ks) (m, cs) cs' → Held (m, cs') (get_or ks i 0) (level - 1)
next_held ks i level h m cs cs' c low lt d =
    let y : ℕ = get_or ks i 0 in
    let split = λ (b : ℕ). ap (occ b) (sym (take-append-drop i ks)) ∙ occ_append b (take i ks) (drop i ks) in
    let more = λ (b : ℕ). ap (occ b) (drop_more ks i 0 lt) in
    record {
      others = λ b. occ b (drop (i + 1) ks) + h b;
      counted = recount (λ b. occ b (drop i ks) + h b) (λ b. one y b + (occ b (drop (i + 1) ks) + h b)) (λ b. omega (arith, more b))
          (d (λ b. occ b (drop i ks) + h b)
          (recount (λ b. occ b ks + h b) (λ b. occ b (take i ks) + (occ b (drop i ks) + h b)) (λ b. omega (arith, split b)) c));
      height = omega (arith, low y (occ_at ks i lt));
    }

-- a block with other references loses one
pub dropped_one : (x v : ℕ) (m : Meaning) (cs cs' : List ℕ) → cs' ≡ set cs x v → get_or cs x 0 ≡ v + 1 → 0 < v → Dropped (x ∷ []) (m, cs) cs'
dropped_one x v m cs cs' e n p h c =
    subst (λ ds. Counted (block_at m) ds h) (sym e) (drop_one (block_at m) cs h x v (recount (λ b. occ b (x ∷ []) + h b) (λ b. one x b + h b) (λ b. omega arith) c) n p)

-- a block's count falls to 0: now its children are held
fallen : (x : ℕ) (ks : List ℕ) (h : ℕ → ℕ) (m : Meaning) (cs cs' : List ℕ) → get_or cs x 0 ≡ 1 → cs' ≡ set cs x 0 → ks ≡ kids_of (block_at m x) → Counted (block_at m) cs (λ b. one x b + h b)
    → Counted (block_at m) cs' (λ b. occ b ks + h b)
fallen x ks h m cs cs' n e k c =
    let low : Counted (block_at m) (set cs x 0) (λ b. occ b ks + h b) = recount (λ b. occ b (kids_of (block_at m x)) + h b) (λ b. occ b ks + h b) (λ b. omega (arith, ap (occ b) k)) (drop_last (block_at m) cs h x c n) in
    subst (λ ds. Counted (block_at m) ds (λ b. occ b ks + h b)) (sym e) low

-- a block loses its last reference, and its children theirs from it
pub dropped_last : (x : ℕ) (ks : List ℕ) (m : Meaning) (cs cs' cs'' : List ℕ) → get_or cs x 0 ≡ 1 → cs' ≡ set cs x 0 → ks ≡ kids_of (block_at m x) → Dropped ks (m, cs') cs'' → Dropped (x ∷ []) (m, cs) cs''
dropped_last x ks m cs cs' cs'' n e k d h c = d h (fallen x ks h m cs cs' n e k (recount (λ b. occ b (x ∷ []) + h b) (λ b. one x b + h b) (λ b. omega arith) c))

-- the next child, in the loop over the children of a block whose count fell to 0
pub next_child : (x level : ℕ) (ks : List ℕ) (i : ℕ) (m : Meaning) (cs cs' cs'' : List ℕ) → Held (m, cs) x level → get_or cs x 0 ≡ 1 → cs' ≡ set cs x 0 → ks ≡ kids_of (block_at m x) → i < length ks
    → Dropped (take i ks) (m, cs') cs'' → Held (m, cs'') (get_or ks i 0) (level - 1)
next_child x level ks i m cs cs' cs'' hx n e k lt d =
    let alive : 0 < get_or cs x 0 = omega arith in
    next_held ks i level hx.others m cs' cs'' (fallen x ks hx.others m cs cs' n e k hx.counted)
    (λ y p. omega (arith, hx.height, hx.counted.lower x y alive (subst (λ zs. 0 < occ y zs) k p)))
    lt d

leaf_none : (o : Option Block) → level_of o ≡ 0 → kids_of o ≡ []
leaf_none None e = refl
leaf_none (Some n) e = ap (λ l. children l n.entries) e

-- a leaf loses its last reference
pub dropped_leaf : (x : ℕ) (m : Meaning) (cs cs' : List ℕ) → get_or cs x 0 ≡ 1 → cs' ≡ set cs x 0 → level_of (block_at m x) ≡ 0 → Dropped (x ∷ []) (m, cs) cs'
dropped_leaf x m cs cs' n e z = dropped_last x [] m cs cs' cs' n e (sym (leaf_none (block_at m x) z)) (dropped_none m cs')
