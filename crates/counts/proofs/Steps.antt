-- How the counts' equation moves with each step.
use Rattle.std.proofs.Common.{◌≡◌, ℕ, zero, suc, ◌+◌, ◌-◌, ◌<◌, true, List, length, get_or, set, is_some, Option, sym, ap, subst, ⊎_elim, arith}
use Rattle.std.proofs.lemmas.Bool.{cases_eq, cases_lt}
use Rattle.std.proofs.lemmas.List.{get_or-set_same, get_or-set_other, get_or_past}
use Rattle.page.specs.Block.{Block, kids_of, level_of}
use Rattle.counts.specs.Counts.{one, occ, live, Counted, Reached, root, child, AliveIsReached}
use Rattle.counts.proofs.Parents.{one_same, one_other, live_pos, parents_set, parents_ge, parents_same, parents_some}

pub within : (cs : List ℕ) (x : ℕ) → 0 < get_or cs x 0 → x < length cs
within cs x h = ⊎_elim (λ l. l) (λ past. absurd (omega (arith, get_or_past cs x 0 past))) (cases_lt x (length cs))

pub at_same : (cs : List ℕ) (x v b : ℕ) → x < length cs → b ≡ x → get_or (set cs x v) b 0 ≡ v
at_same cs x v b h e = subst (λ n. get_or (set cs x v) n 0 ≡ v) (sym e) (get_or-set_same cs x v 0 h)

alive_set : (cs : List ℕ) (x v y : ℕ) → 0 < get_or cs x 0 → 0 < get_or (set cs x v) y 0 → 0 < get_or cs y 0
alive_set cs x v y hx hy =
    ⊎_elim (λ e. subst (λ n. 0 < get_or cs n 0) (sym e) hx)
    (λ ne. subst (λ n. 0 < n) (get_or-set_other cs x y v 0 ne) hy) (cases_eq y x)

module _ (g : ℕ → Option Block) where
  pub held : (cs : List ℕ) (h : ℕ → ℕ) (b : ℕ) → Counted g cs h → 0 < h b → 0 < get_or cs b 0
  held cs h b c p = omega (arith, c.eqn b)

  -- one reference fewer to a block that has others
  pub drop_one : (cs : List ℕ) (h : ℕ → ℕ) (x v : ℕ) → Counted g cs (λ b. one x b + h b) → get_or cs x 0 ≡ v + 1 → 0 < v → Counted g (set cs x v) h
  drop_one cs h x v c e p =
      let hx : 0 < get_or cs x 0 = omega arith in
      let lt : x < length cs = within cs x hx in
      let step = λ (b : ℕ). parents_set (λ y. kids_of (g y)) cs x v b lt in
      record {
        eqn = λ b. ⊎_elim
            (λ s. omega (arith, c.eqn b, ap (λ n. get_or cs n 0) s, step b, one_same x b s, at_same cs x v b lt s, live_pos (get_or cs x 0) (occ b (kids_of (g x))) hx, live_pos v (occ b (kids_of (g x))) p))
            (λ ne. omega (arith, c.eqn b, step b, one_other x b ne, get_or-set_other cs x b v 0 ne, live_pos (get_or cs x 0) (occ b (kids_of (g x))) hx, live_pos v (occ b (kids_of (g x))) p))
            (cases_eq b x);
        nodes = λ y a. c.nodes y (alive_set cs x v y hx a);
        lower = λ y z a k. c.lower y z (alive_set cs x v y hx a) k;
      }

  -- the last reference to a block: its own references are dropped next
  pub drop_last : (cs : List ℕ) (h : ℕ → ℕ) (x : ℕ) → Counted g cs (λ b. one x b + h b) → get_or cs x 0 ≡ 1 → Counted g (set cs x 0) (λ b. occ b (kids_of (g x)) + h b)
  drop_last cs h x c e =
      let hx : 0 < get_or cs x 0 = omega arith in
      let lt : x < length cs = within cs x hx in
      let step = λ (b : ℕ). parents_set (λ y. kids_of (g y)) cs x 0 b lt in
      record {
        eqn = λ b. ⊎_elim
            (λ s. omega (arith, c.eqn b, ap (λ n. get_or cs n 0) s, step b, one_same x b s, at_same cs x 0 b lt s, live_pos (get_or cs x 0) (occ b (kids_of (g x))) hx, parents_ge (λ y. kids_of (g y)) cs x b hx))
            (λ ne. omega (arith, c.eqn b, step b, one_other x b ne, get_or-set_other cs x b 0 0 ne, live_pos (get_or cs x 0) (occ b (kids_of (g x))) hx))
            (cases_eq b x);
        nodes = λ y a. c.nodes y (alive_set cs x 0 y hx a);
        lower = λ y z a k. c.lower y z (alive_set cs x 0 y hx a) k;
      }

  -- one reference more to a block that is alive
  pub add_one_more : (cs : List ℕ) (h : ℕ → ℕ) (x : ℕ) → Counted g cs h → 0 < get_or cs x 0 → Counted g (set cs x (get_or cs x 0 + 1)) (λ b. one x b + h b)
  add_one_more cs h x c hx =
      let lt : x < length cs = within cs x hx in
      let v : ℕ = get_or cs x 0 + 1 in
      let step = λ (b : ℕ). parents_set (λ y. kids_of (g y)) cs x (get_or cs x 0 + 1) b lt in
      record {
        eqn = λ b. ⊎_elim
            (λ s. omega (arith, c.eqn b, ap (λ n. get_or cs n 0) s, step b, one_same x b s, at_same cs x (get_or cs x 0 + 1) b lt s, live_pos (get_or cs x 0) (occ b (kids_of (g x))) hx, live_pos (get_or cs x 0 + 1) (occ b (kids_of (g x))) (omega arith)))
            (λ ne. omega (arith, c.eqn b, step b, one_other x b ne, get_or-set_other cs x b (get_or cs x 0 + 1) 0 ne, live_pos (get_or cs x 0) (occ b (kids_of (g x))) hx, live_pos (get_or cs x 0 + 1) (occ b (kids_of (g x))) (omega arith)))
            (cases_eq b x);
        nodes = λ y a. c.nodes y (alive_set cs x (get_or cs x 0 + 1) y hx a);
        lower = λ y z a k. c.lower y z (alive_set cs x (get_or cs x 0 + 1) y hx a) k;
      }

  -- a free block gets a node whose children are held: the node holds them from now on, and someone the block
  pub link_in : (g' : ℕ → Option Block) (cs : List ℕ) (h : ℕ → ℕ) (x : ℕ) → ((y : ℕ) → (y ≡ x → ⊥) → g' y ≡ g y) → get_or cs x 0 ≡ 0 → x < length cs
      → (is_some (g' x) ≡ true) × (level_of (g' x) < 5) → ((y : ℕ) → 0 < occ y (kids_of (g' x)) → level_of (g y) + 1 ≡ level_of (g' x))
      → Counted g cs (λ b. occ b (kids_of (g' x)) + h b) → Counted g' (set cs x 1) (λ b. one x b + h b)
  link_in g' cs h x same free lt node low c =
      let step = λ (b : ℕ). parents_set (λ y. kids_of (g' y)) cs x 1 b lt in
      let dead = λ (b : ℕ). ap (λ n. live n (occ b (kids_of (g' x)))) free in
      let old = λ (b : ℕ). parents_same (λ y. kids_of (g' y)) (λ y. kids_of (g y)) cs b (λ k a. ap kids_of (same k (λ e. absurd (omega (arith, ap (λ n. get_or cs n 0) e))))) in
      record {
        eqn = λ b. ⊎_elim
            (λ s. omega (arith, c.eqn b, ap (λ n. get_or cs n 0) s, step b, dead b, old b, one_same x b s, at_same cs x 1 b lt s))
            (λ ne. omega (arith, c.eqn b, step b, dead b, old b, one_other x b ne, get_or-set_other cs x b 1 0 ne))
            (cases_eq b x);
        nodes = λ y a. ⊎_elim
            (λ s. subst (λ z. (is_some (g' z) ≡ true) × (level_of (g' z) < 5)) (sym s) node)
            (λ ne. subst (λ o. (is_some o ≡ true) × (level_of o < 5)) (sym (same y ne)) (c.nodes y (subst (λ n. 0 < n) (get_or-set_other cs x y 1 0 ne) a)))
            (cases_eq y x);
        lower = λ y z a k.
            let far = λ (p : 0 < get_or cs z 0). ap level_of (same z (λ e. absurd (omega (arith, ap (λ n. get_or cs n 0) e)))) in
            ⊎_elim
            (λ s.
            let k2 : 0 < occ z (kids_of (g' x)) = subst (λ n. 0 < occ z (kids_of (g' n))) s k in
            omega (arith, far (omega (arith, c.eqn z)), low z k2, ap (λ n. level_of (g' n)) s))
            (λ ne.
            let a2 : 0 < get_or cs y 0 = subst (λ n. 0 < n) (get_or-set_other cs x y 1 0 ne) a in
            let k2 : 0 < occ z (kids_of (g y)) = subst (λ o. 0 < occ z (kids_of o)) (same y ne) k in
            omega (arith, far (omega (arith, c.eqn z, parents_ge (λ n. kids_of (g n)) cs y z a2)), c.lower y z a2 k2, ap level_of (same y ne)))
            (cases_eq y x);
      }

  reached_alive : (cs : List ℕ) (h : ℕ → ℕ) → Counted g cs h → (b : ℕ) → Reached g h b → 0 < get_or cs b 0
  reached_alive cs h c b (root p) = omega (arith, c.eqn b)
  reached_alive cs h c b (child {x = x} r k) =
      omega (arith, c.eqn b, parents_ge (λ y. kids_of (g y)) cs x b (reached_alive cs h c x r))

  alive_reached : (cs : List ℕ) (h : ℕ → ℕ) → Counted g cs h → (d b : ℕ) → level_of (g b) + d ≡ 5 → 0 < get_or cs b 0 → Reached g h b
  alive_reached cs h c zero b e a = absurd (omega (arith, (c.nodes b a).1))
  alive_reached cs h c (suc d) b e a =
      ⊎_elim (λ p. root p)
      (λ no.
      let s = parents_some (λ y. kids_of (g y)) cs b (omega (arith, c.eqn b)) in
      child (alive_reached cs h c d s.0 (omega (arith, c.lower s.0 b s.1 s.2)) s.1) s.2)
      (cases_lt 0 (h b))

pub alive_is_reached : AliveIsReached
alive_is_reached g cs h c b =
    (λ a. alive_reached g cs h c (5 - level_of (g b)) b (omega (arith, (c.nodes b a).1)) a, reached_alive g cs h c b)
