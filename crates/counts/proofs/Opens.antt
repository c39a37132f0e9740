-- A reference to a block is given up for references to its children.
use Rattle.std.proofs.Common.{◌≡◌, ℕ, zero, suc, ◌+◌, ◌-◌, ◌*◌, ◌<◌, ◌≤◌, Bool, true, false, cond, ◌&&◌, eqb, ltb, leb, List, [], ◌∷◌, ◌++◌, length, get_or, drop, set, Some, None, Option, sym, refl, ap, ◌∙◌, subst, ⊎_elim, arith, length-set}
use Rattle.std.proofs.lemmas.Bool.{cases_eq, cases_lt, and_parts, leb-true, eq-eqb, ne_eqb}
use Rattle.std.proofs.lemmas.List.{get_or-set_same, get_or-set_other, length-map, set_past, drop_more}
use Rattle.device.specs.Meaning.{Meaning, Content, words, damaged, current_at}
use Rattle.page.specs.Block.{Block, kids_of, block_at, children, block_in, read, encode, same, fits}
use Rattle.counts.specs.Counts.{one, occ, parents, Counted, add_all, opened, Roomy}
use Rattle.counts.proofs.Parents.{one_same, one_other, parents_ge}
use Rattle.counts.proofs.Steps.{within, held, drop_one, drop_last, add_one_more}

pub occ_append : (b : ℕ) (xs ys : List ℕ) → occ b (xs ++ ys) ≡ occ b xs + occ b ys
occ_append b [] ys = omega arith
occ_append b (x ∷ xs) ys = omega (arith, occ_append b xs ys)

pub occ_at : (ks : List ℕ) (i : ℕ) → i < length ks → 0 < occ (get_or ks i 0) ks
occ_at [] i h = absurd (omega arith)
occ_at (k ∷ ks) zero h = omega (arith, one_same k k refl)
occ_at (k ∷ ks) (suc i) h = omega (arith, occ_at ks i (omega arith))

pub recount : {g : ℕ → Option Block} {cs : List ℕ} (h h' : ℕ → ℕ) → ((b : ℕ) → h b ≡ h' b) → Counted g cs h → Counted g cs h'
recount h h' e c = record { eqn = λ b. omega (arith, c.eqn b, e b); nodes = c.nodes; lower = c.lower }

-- adding never makes a count smaller, and by at most one a time
pub add_ge : (cs : List ℕ) (k b : ℕ) → get_or cs b 0 ≤ get_or (set cs k (get_or cs k 0 + 1)) b 0
add_ge cs k b = ⊎_elim
    (λ e. ⊎_elim
    (λ l. omega (arith, ap (λ n. get_or (set cs k (get_or cs k 0 + 1)) n 0) e, get_or-set_same cs k (get_or cs k 0 + 1) 0 l, ap (λ n. get_or cs n 0) e))
    (λ p. omega (arith, ap (λ ds. get_or ds b 0) (set_past cs k (get_or cs k 0 + 1) p))) (cases_lt k (length cs)))
    (λ ne. omega (arith, get_or-set_other cs k b (get_or cs k 0 + 1) 0 ne)) (cases_eq b k)

pub add_le : (cs : List ℕ) (k b : ℕ) → get_or (set cs k (get_or cs k 0 + 1)) b 0 ≤ get_or cs b 0 + 1
add_le cs k b = ⊎_elim
    (λ e. ⊎_elim
    (λ l. omega (arith, ap (λ n. get_or (set cs k (get_or cs k 0 + 1)) n 0) e, get_or-set_same cs k (get_or cs k 0 + 1) 0 l, ap (λ n. get_or cs n 0) e))
    (λ p. omega (arith, ap (λ ds. get_or ds b 0) (set_past cs k (get_or cs k 0 + 1) p))) (cases_lt k (length cs)))
    (λ ne. omega (arith, get_or-set_other cs k b (get_or cs k 0 + 1) 0 ne)) (cases_eq b k)

pub add_all_ge : (ks cs : List ℕ) (b : ℕ) → get_or cs b 0 ≤ get_or (add_all ks cs) b 0
add_all_ge [] cs b = omega arith
add_all_ge (k ∷ ks) cs b = omega (arith, add_ge cs k b, add_all_ge ks (set cs k (get_or cs k 0 + 1)) b)

-- references to alive blocks are added
pub add_all_lem : (g : ℕ → Option Block) (ks cs : List ℕ) (h : ℕ → ℕ) → ((k : ℕ) → 0 < occ k ks → 0 < get_or cs k 0) → Counted g cs h → Counted g (add_all ks cs) (λ b. occ b ks + h b)
add_all_lem g [] cs h alive c = recount h (λ b. 0 + h b) (λ b. omega arith) c
add_all_lem g (k ∷ ks) cs h alive c =
    let a : 0 < get_or cs k 0 = alive k (omega (arith, one_same k k refl)) in
    recount (λ b. occ b ks + (one k b + h b)) (λ b. occ b (k ∷ ks) + h b) (λ b. omega arith)
    (add_all_lem g ks (set cs k (get_or cs k 0 + 1)) (λ b. one k b + h b) (λ y p. omega (arith, add_ge cs k y, alive y (omega arith))) (add_one_more g cs h k c a))

-- a block's node has few children
few_in : (ws : List ℕ) (b : Bool) → b ≡ fits (read ws) → (t : Bool) → length (kids_of (cond (b && t) (Some (read ws)) None)) ≤ 15
few_in ws false e t = omega arith
few_in ws true e false = omega arith
few_in ws true e true = few_at (read ws).level (read ws).entries (leb-true (length (read ws).entries) 15 (and_parts (leb (length (read ws).entries) 15) (ltb (read ws).level 5) (sym e)).0)
  where
    few_at : (l : ℕ) (es : List (ℕ × ℕ)) → length es ≤ 15 → length (children l es) ≤ 15
    few_at zero es h = omega arith
    few_at (suc l) es h = omega (arith, length-map es (λ e. e.1))

few_content : (k : Content) → length (kids_of (block_in k)) ≤ 15
few_content (words ws) = few_in ws (fits (read ws)) refl (same ws (encode (length ws) (read ws)))
few_content (damaged m) = omega arith

pub few_kids : (m : Meaning) (x : ℕ) → length (kids_of (block_at m x)) ≤ 15
unfolding block_at
few_kids m x = few_content (current_at m x)

pub occ_le : (b : ℕ) (ks : List ℕ) → occ b ks ≤ length ks
occ_le b [] = omega arith
occ_le b (k ∷ ks) = ⊎_elim (λ e. omega (arith, one_same k b e, occ_le b ks)) (λ ne. omega (arith, one_other k b ne, occ_le b ks)) (cases_eq b k)

pub parents_le : (kids : ℕ → List ℕ) (cs : List ℕ) (b : ℕ) → ((x : ℕ) → length (kids x) ≤ 15) → parents kids cs b ≤ 15 * length cs
parents_le kids [] b h = omega arith
parents_le kids (zero ∷ cs) b h = omega (arith, parents_le (λ j. kids (suc j)) cs b (λ x. h (suc x)))
parents_le kids (suc c ∷ cs) b h = omega (arith, occ_le b (kids 0), h 0, parents_le (λ j. kids (suc j)) cs b (λ x. h (suc x)))

-- a count fits 16 bits
pub count_le : (m : Meaning) (cs : List ℕ) (h : ℕ → ℕ) (b : ℕ) → Counted (block_at m) cs h → h b ≤ 2001 → length cs ≤ 4096 → get_or cs b 0 ≤ 65000
count_le m cs h b c k l = omega (arith, c.eqn b, parents_le (λ x. kids_of (block_at m x)) cs b (few_kids m))

-- the children of an alive block are alive
pub kids_alive : (m : Meaning) (cs : List ℕ) (h : ℕ → ℕ) (x k : ℕ) → Counted (block_at m) cs h → 0 < get_or cs x 0 → 0 < occ k (kids_of (block_at m x)) → 0 < get_or cs k 0
kids_alive m cs h x k c a p = omega (arith, c.eqn k, parents_ge (λ y. kids_of (block_at m y)) cs x k a)

-- x is alive where it is held
pub held_alive : (g : ℕ → Option Block) (cs : List ℕ) (h : ℕ → ℕ) (x : ℕ) → Counted g cs (λ b. one x b + h b) → 0 < get_or cs x 0
held_alive g cs h x c = held g cs (λ b. one x b + h b) x c (omega (arith, one_same x x refl))

pub roomy : (m : Meaning) (cs : List ℕ) (h : ℕ → ℕ) (x : ℕ) → Counted (block_at m) cs (λ b. one x b + h b) → ((b : ℕ) → h b ≤ 2000) → length cs ≤ 4096 → Roomy (kids_of (block_at m x)) cs
roomy m cs h x c small few =
    let a = held_alive (block_at m) cs h x c in
    record {
      few = few_kids m x;
      within = λ i l. within cs (get_or (kids_of (block_at m x)) i 0) (kids_alive m cs _ x (get_or (kids_of (block_at m x)) i 0) c a (occ_at (kids_of (block_at m x)) i l));
      small = λ b. count_le m cs (λ n. one x n + h n) b c (⊎_elim (λ e. omega (arith, one_same x b e, small b)) (λ ne. omega (arith, one_other x b ne, small b)) (cases_eq b x)) few;
    }

pub length_add_all : (ks cs : List ℕ) → length (add_all ks cs) ≡ length cs
length_add_all [] cs = refl
length_add_all (k ∷ ks) cs = length_add_all ks (set cs k (get_or cs k 0 + 1)) ∙ length-set cs k (get_or cs k 0 + 1)

abbrev after : List ℕ → ℕ → List ℕ → Bool → List ℕ
after ks x cs b = cond b (set cs x 0) (set (add_all ks cs) x (get_or (add_all ks cs) x 0 - 1))

-- The reference to x is given up for references to its children.
pub open_counted : (m : Meaning) (cs : List ℕ) (h : ℕ → ℕ) (x : ℕ) → Counted (block_at m) cs (λ b. one x b + h b) → Counted (block_at m) (opened (kids_of (block_at m x)) x cs) (λ b. occ b (kids_of (block_at m x)) + h b)
open_counted m cs h x c =
    let ks : List ℕ = kids_of (block_at m x) in
    let ds : List ℕ = add_all ks cs in
    let a = held_alive (block_at m) cs h x c in
    let to = λ (b : Bool). Counted (block_at m) (after ks x cs b) (λ b. occ b ks + h b) in
    ⊎_elim
    (λ s. subst to (sym (eq-eqb (get_or cs x 0) 1 s)) (drop_last (block_at m) cs h x c s))
    (λ ne. subst to (sym (ne_eqb (get_or cs x 0) 1 ne))
    (drop_one (block_at m) ds (λ b. occ b ks + h b) x (get_or ds x 0 - 1)
    (recount (λ b. occ b ks + (one x b + h b)) (λ b. one x b + (occ b ks + h b)) (λ b. omega arith)
    (add_all_lem (block_at m) ks cs (λ b. one x b + h b) (λ k q. kids_alive m cs (λ b. one x b + h b) x k c a q) c))
    (omega (arith, add_all_ge ks cs x)) (omega (arith, add_all_ge ks cs x))))
    (cases_eq (get_or cs x 0) 1)

add_all_other : (ks cs : List ℕ) (b : ℕ) → occ b ks ≡ 0 → get_or (add_all ks cs) b 0 ≡ get_or cs b 0
add_all_other [] cs b z = refl
add_all_other (k ∷ ks) cs b z =
    add_all_other ks (set cs k (get_or cs k 0 + 1)) b (omega arith)
    ∙ get_or-set_other cs k b (get_or cs k 0 + 1) 0 (λ e. absurd (omega (arith, one_same k b e)))

-- a free block stays free
pub open_free : (m : Meaning) (cs : List ℕ) (h : ℕ → ℕ) (x b : ℕ) → Counted (block_at m) cs (λ b. one x b + h b) → get_or cs b 0 ≡ 0 → get_or (opened (kids_of (block_at m x)) x cs) b 0 ≡ 0
open_free m cs h x b c z =
    let ks : List ℕ = kids_of (block_at m x) in
    let ds : List ℕ = add_all ks cs in
    let a = held_alive (block_at m) cs h x c in
    let ne : b ≡ x → ⊥ = λ e. omega (arith, ap (λ n. get_or cs n 0) e) in
    let none : occ b ks ≡ 0 = ⊎_elim (λ p. absurd (omega (arith, kids_alive m cs (λ b. one x b + h b) x b c a p))) (λ q. omega arith) (cases_lt 0 (occ b ks)) in
    go (eqb (get_or cs x 0) 1) ne none
  where
    go : (t : Bool) → (b ≡ x → ⊥) → occ b (kids_of (block_at m x)) ≡ 0 → get_or (after (kids_of (block_at m x)) x cs t) b 0 ≡ 0
    go true ne none = get_or-set_other cs x b 0 0 ne ∙ z
    go false ne none = get_or-set_other (add_all (kids_of (block_at m x)) cs) x b _ 0 ne ∙ add_all_other (kids_of (block_at m x)) cs b none ∙ z

pub length_opened : (ks : List ℕ) (x : ℕ) (cs : List ℕ) → length (opened ks x cs) ≡ length cs
length_opened ks x cs = go (eqb (get_or cs x 0) 1)
  where
    go : (t : Bool) → length (after ks x cs t) ≡ length cs
    go true = length-set cs x 0
    go false = length-set (add_all ks cs) x _ ∙ length_add_all ks cs

-- the loop's step
pub add_next : (ks cs ds : List ℕ) (i k : ℕ) → i < length ks → get_or ks i 0 ≡ k → ds ≡ set cs k (get_or cs k 0 + 1) → add_all (drop (i + 1) ks) ds ≡ add_all (drop i ks) cs
add_next ks cs ds i k h e d =
    ap (add_all (drop (i + 1) ks)) (d ∙ ap (λ n. set cs n (get_or cs n 0 + 1)) (sym e))
    ∙ sym (ap (λ xs. add_all xs cs) (drop_more ks i 0 h))
