-- A child that is filled, case by case.
use Rattle.std.proofs.Common.{◌≡◌, ℕ, zero, suc, ◌+◌, ◌-◌, ◌<◌, ◌≤◌, List, [], ◌∷◌, ◌++◌, length, get_or, take, drop, Some, Option, sym, refl, ap, ◌∙◌, subst, ap₂, ⊎_elim, arith, true, is_some}
use Rattle.std.proofs.lemmas.Bool.{cases_lt}
use Rattle.device.specs.Meaning.{Meaning}
use Rattle.tree.specs.Node.{first}
use Rattle.tree.specs.Tree.{Pay, Tree, Cell}
use Rattle.tree.proofs.Over.{map_length}
use Rattle.tree.proofs.Steps.{map_get, every_get}
use Rattle.page.specs.InUse.{in_use}
use Rattle.page.specs.Block.{Block, block_at, kids_of}
use Rattle.page.specs.View.{pair, view, entries}
use Rattle.page.specs.declared.page.Page.{Page}
use Rattle.page.specs.declared.page.Entry.{Entry}
use Rattle.page.proofs.Pages.{entries_length, entries_at}
use Rattle.counts.specs.Counts.{one, occ, Counted}
use Rattle.counts.proofs.Opens.{recount, open_counted, few_kids, occ_le, held_alive}
use Rattle.counts.specs.Moves.{opening, State, step, Owned}
use Rattle.edit.specs.Plan.{shallow, page, node_of, kids, Stored}
use Rattle.edit.proofs.Downs.{kids_append, kids_around, kids_le, shallow_length}
use Rattle.edit.specs.declared.kids.Rest.TheVariants.{Nothing, After, Before}
use Rattle.removal.specs.Able.{Ready, AbleIndex, At, Filling}
use Rattle.removal.proofs.Indexed.{Covers, cut_two, seg_pair}
use Rattle.removal.proofs.Splits.{right_apart, right_merged, right_moved, left_apart, left_merged, left_moved}
use Rattle.removal.proofs.Flat.{flat_append, flat_take, flat_drop}
use Rattle.removal.proofs.Splicing.{first_small}

module _ (m : Meaning) (cs : List ℕ) (n : Block) (s l : ℕ) (es : List (ℕ × Tree ℕ ℕ l)) (p : Ready (m, cs) n s (suc l) es) where
  abbrev D : ℕ × Tree ℕ ℕ l
  D = (0, (0, []))

  pub entry : (j : ℕ) → get_or n.entries j (0, 0) ≡ ((get_or es j D).0, (get_or es j D).1.0)
  entry j = ap (λ (x : Block). get_or x.entries j (0, 0)) p.is ∙ map_get (λ (c : Tree ℕ ℕ l). c.0) es j D

  pub len : length n.entries ≡ length es
  len = ap (λ (x : Block). length x.entries) p.is ∙ map_length (λ (c : Tree ℕ ℕ l). c.0) es

  pub number : (j key b : ℕ) → get_or n.entries j (0, 0) ≡ (key, b) → b ≡ (get_or es j D).1.0
  number j key b e = ap (λ (x : ℕ × ℕ). x.1) (sym e ∙ entry j)

  covers_of : (i : ℕ) → At n s i → Covers s es i D
  covers_of i a = record {
    within = omega (arith, a.within, len);
    low = λ k h. low k h;
    high = λ h. omega (arith, a.high (omega (arith, len)), ap (λ (x : ℕ × ℕ). x.0) (entry (suc i)));
  }
    where
      start : (es : List (ℕ × Tree ℕ ℕ l)) → Ready (m, cs) n s (suc l) es → (get_or es 0 D).0 ≤ s
      start [] p = omega arith
      start (e ∷ r) p = omega (arith, p.low, p.span.0)

      low : (k : ℕ) → k ≤ i → (get_or es k D).0 ≤ s
      low zero h = start es p
      low (suc k) h = omega (arith, a.low k (omega arith), ap (λ (x : ℕ × ℕ). x.0) (entry (suc k)))

  node : (j : ℕ) → j < length es → block_at m (get_or es j D).1.0 ≡ Some (node_of l (get_or es j D).1.1)
  node j h = (every_get (Stored (block_at m) (suc l)) es j D h p.stored).0

  -- the page of a child
  pub child_is : (j b : ℕ) → j < length es → b ≡ (get_or es j D).1.0 → (x : Block) → block_at m b ≡ Some x → x ≡ node_of l (get_or es j D).1.1
  child_is j b h e x t = let q : Some x ≡ Some (node_of l (get_or es j D).1.1) = sym t ∙ ap (block_at m) e ∙ node j h in cc

  -- one child is held
  pub owned : (j b : ℕ) → j < length es → b ≡ (get_or es j D).1.0 → Owned (m, cs) b
  owned j b h e =
      let rest : ℕ → ℕ = λ c. (occ c (kids (suc l) (take j es)) + occ c (kids (suc l) (drop (suc j) es))) + p.others c in
      record {
        others = rest;
        counted = recount (λ c. occ c (kids (suc l) es) + p.others c) (λ c. one b c + rest c) (λ c. omega (arith, kids_around c l es j D h, ap (λ (z : ℕ). one z c) e)) p.counted;
        modest = λ c. omega (arith, kids_around c l es j D h, kids_le c (suc l) es, p.few, p.modest c);
      }

  -- once it is opened, so is the next
  pub owned_next : (i b b₂ : ℕ) → suc i < length es → b ≡ (get_or es i D).1.0 → b₂ ≡ (get_or es (suc i) D).1.0 → (q : State) → q ≡ step (opening b) (m, cs) → Owned q b₂
  owned_next i b b₂ h e e₂ q eq =
      let sides : ℕ → ℕ = λ c. (occ c (kids (suc l) (take i es)) + occ c (kids (suc l) (drop (suc (suc i)) es))) + p.others c in
      let cut = λ (c : ℕ). ap (λ (z : List (ℕ × Tree ℕ ℕ l)). occ c (kids (suc l) z)) (cut_two es i D h) ∙ kids_append c (suc l) (take i es) (get_or es i D ∷ get_or es (suc i) D ∷ drop (suc (suc i)) es) in
      let h₁ : ℕ → ℕ = λ c. one b₂ c + sides c in
      let c₁ : Counted (block_at m) cs (λ c. one b c + h₁ c) = recount (λ c. occ c (kids (suc l) es) + p.others c) (λ c. one b c + h₁ c) (λ c. omega (arith, cut c, ap (λ (z : ℕ). one z c) e, ap (λ (z : ℕ). one z c) e₂)) p.counted in
      let rest : ℕ → ℕ = λ c. occ c (kids_of (block_at m b)) + sides c in
      subst (λ (z : State). Owned z b₂) (sym eq) (record {
        others = rest;
        counted = recount (λ c. occ c (kids_of (block_at m b)) + h₁ c) (λ c. one b₂ c + rest c) (λ c. omega arith) (open_counted m cs h₁ b c₁);
        modest = λ c. omega (arith, cut c, kids_le c (suc l) es, p.few, p.modest c, occ_le c (kids_of (block_at m b)), few_kids m b);
      })

  same_device : (b : ℕ) (q : State) → q ≡ step (opening b) (m, cs) → q.0 ≡ m
  same_device b q e = ap (λ (z : State). z.0) e

  pub still : (b : ℕ) (q : State) → q ≡ step (opening b) (m, cs) → (c : ℕ) (o : Option Block) → block_at m c ≡ o → block_at q.0 c ≡ o
  still b q e c o t = ap (λ (z : Meaning). block_at z c) (same_device b q e) ∙ t

  pub still_back : (b : ℕ) (q : State) → q ≡ step (opening b) (m, cs) → (c : ℕ) (o : Option Block) → block_at q.0 c ≡ o → block_at m c ≡ o
  still_back b q e c o t = ap (λ (z : Meaning). block_at z c) (sym (same_device b q e)) ∙ t

  -- how many entries a child has
  pub child_len : (j : ℕ) → 2 ≤ length es → j < length es → (x : Page) → view x ≡ node_of l (get_or es j D).1.1 → ((length (in_use x.entries)) ≡ length (get_or es j D).1.1) × (7 ≤ (length (in_use x.entries))) × ((length (in_use x.entries)) ≤ 15) × (x.level ≡ l)
  child_len j two h x e =
      let n : (length (in_use x.entries)) ≡ length (get_or es j D).1.1 = omega (arith, entries_length x, ap (λ (z : Block). length z.entries) e, shallow_length l (get_or es j D).1.1) in
      let c = bounds j h in
      (n, omega (arith, n, c.0), omega (arith, n, c.1), ap (λ (z : Block). z.level) e)
    where
      bounds : (j : ℕ) → j < length es → (7 ≤ length (get_or es j D).1.1) × (length (get_or es j D).1.1 ≤ 15)
      bounds zero h = let q = seg_pair (Cell ℕ ℕ (suc l)) p.lo p.hi es 0 D p.span (omega arith) in (q.0.1, q.0.2)
      bounds (suc j) h = let q = seg_pair (Cell ℕ ℕ (suc l)) p.lo p.hi es j D p.span h in (q.1.1.1, q.1.1.2)

  -- the child is not short
  pub fill_apart : (i key b : ℕ) → At n s i → get_or n.entries i (0, 0) ≡ (key, b) → (x : Page) → block_at m b ≡ Some (view x) → ((length (in_use x.entries)) ≡ 7 → ⊥) → (q : State) → q ≡ step (opening b) (m, cs)
      → (end : ℕ) → end ≡ suc i → Filling (m, cs) q s l es (record { at = i; end = end; part = x; rest = Nothing })
  unfolding right_apart left_apart
  fill_apart i key b a eb x t long q e end past =
      let c = covers_of i a in
      let bi = number i key b eb in
      let v = child_is i b c.within bi (view x) t in
      let two : 2 ≤ length es = p.enough (omega arith) in
      let ln = child_len i two c.within x v in
      let to : q ≡ step (opening (get_or es i D).1.0) (m, cs) = e ∙ ap (λ (z : ℕ). step (opening z) (m, cs)) bi in
      go i past c v (λ o. long (omega (arith, ln.0, o))) to two
    where
      go : (i : ℕ) → end ≡ suc i → Covers s es i D → view x ≡ node_of l (get_or es i D).1.1 → (length (get_or es i D).1.1 ≡ 7 → ⊥) → q ≡ step (opening (get_or es i D).1.0) (m, cs) → 2 ≤ length es → Filling (m, cs) q s l es (record { at = i; end = end; part = x; rest = Nothing })
      go zero past c v o to two = record { split = right_apart s l es 0 p.lo p.hi p.span two c.low (c.high two) o; at = refl; end = past; part = v; rest = λ k made. refl; beside = tt; state = to }
      go (suc i) past c v o to two = ⊎_elim
          (λ r. record { split = right_apart s l es (suc i) p.lo p.hi p.span r c.low (c.high r) o; at = refl; end = past; part = v; rest = λ k made. refl; beside = tt; state = to })
          (λ r. record { split = left_apart s l es i p.lo p.hi p.span (omega (arith, c.within)) c.low p.high o; at = refl; end = past; part = v; rest = λ k made. refl; beside = tt; state = to })
          (cases_lt (suc (suc i)) (length es))

  -- two neighbours, from i on: the pages x and y
  module _ (i key b key₂ b₂ : ℕ) (h : suc i < length es) (eb : get_or n.entries i (0, 0) ≡ (key, b)) (eb₂ : get_or n.entries (suc i) (0, 0) ≡ (key₂, b₂))
      (x y : Page) (t : block_at m b ≡ Some (view x)) (t₂ : block_at m b₂ ≡ Some (view y)) where
    abbrev xs : List (ℕ × Pay ℕ ℕ l)
    xs = (get_or es i D).1.1

    abbrev ys : List (ℕ × Pay ℕ ℕ l)
    ys = (get_or es (suc i) D).1.1

    pub x_is : view x ≡ node_of l xs
    x_is = child_is i b (omega arith) (number i key b eb) (view x) t

    pub y_is : view y ≡ node_of l ys
    y_is = child_is (suc i) b₂ h (number (suc i) key₂ b₂ eb₂) (view y) t₂

    pub x_len : ((length (in_use x.entries)) ≡ length xs) × (7 ≤ (length (in_use x.entries))) × ((length (in_use x.entries)) ≤ 15) × (x.level ≡ l)
    x_len = child_len i (p.enough (omega arith)) (omega arith) x x_is

    pub y_len : ((length (in_use y.entries)) ≡ length ys) × (7 ≤ (length (in_use y.entries))) × ((length (in_use y.entries)) ≤ 15) × (y.level ≡ l)
    y_len = child_len (suc i) (p.enough (omega arith)) h y y_is

    module _ (q₁ q₂ : State) (e₁ : q₁ ≡ step (opening b) (m, cs)) (e₂ : q₂ ≡ step (opening b₂) q₁) where
      both : q₂ ≡ step (opening (get_or es (suc i) D).1.0) (step (opening (get_or es i D).1.0) (m, cs))
      both = e₂ ∙ ap (step (opening b₂)) e₁ ∙ ap₂ (λ (u v : ℕ). step (opening v) (step (opening u) (m, cs))) (number i key b eb) (number (suc i) key₂ b₂ eb₂)

      joined_is : (part : Page) → part.level ≡ l → entries part ≡ entries x ++ entries y → view part ≡ node_of l (xs ++ ys)
      joined_is part lv these = ap₂ page lv (these ∙ ap₂ (λ (u v : Block). u.entries ++ v.entries) x_is y_is ∙ flat_append l xs ys)

      module _ (a : At n s i) (short : (length (in_use x.entries)) ≡ 7) where
        abbrev c : Covers s es i D
        c = covers_of i a

        pub fill_right_merged : (length (in_use y.entries)) ≡ 7 → (part : Page) → part.level ≡ x.level → entries part ≡ entries x ++ entries y → Filling (m, cs) q₂ s l es (record { at = i; end = i + 2; part = part; rest = Nothing })
        unfolding right_merged
        fill_right_merged o part lv these = record {
          split = right_merged s l es i p.lo p.hi p.span h c.low (c.high h) (omega (arith, x_len.0)) (omega (arith, y_len.0));
          at = refl;
          end = omega arith;
          part = joined_is part (lv ∙ x_len.3) these;
          rest = λ k made. refl;
          beside = tt;
          state = both;
        }

        pub fill_right_moved : ((length (in_use y.entries)) ≡ 7 → ⊥) → (part rest : Page) → part.level ≡ x.level → entries part ≡ entries x ++ take 1 (entries y) → rest.level ≡ y.level → entries rest ≡ drop 1 (entries y)
            → (sep : ℕ) → sep ≡ first (entries rest) → Filling (m, cs) q₂ s l es (record { at = i; end = i + 2; part = part; rest = After sep rest })
        unfolding right_moved
        fill_right_moved o part rest lv these lr left sep first_is =
            let ry : entries rest ≡ shallow l (drop 1 ys) = left ∙ ap (λ (u : Block). drop 1 u.entries) y_is ∙ flat_drop l 1 ys in
            record {
              split = right_moved s l es i p.lo p.hi p.span h c.low (c.high h) (omega (arith, x_len.0)) (λ z. o (omega (arith, y_len.0)));
              at = refl;
              end = omega arith;
              part = ap₂ page (lv ∙ x_len.3) (these ∙ ap₂ (λ (u v : Block). u.entries ++ take 1 v.entries) x_is y_is ∙ ap (λ (u : List (ℕ × ℕ)). shallow l xs ++ u) (flat_take l 1 ys) ∙ flat_append l xs (take 1 ys));
              rest = λ k made. ap₂ (λ (i : ℕ) (zs : List (ℕ × ℕ)). (k, made) ∷ (i, zs) ∷ []) (first_is ∙ ap first ry) ry;
              beside = (lr ∙ y_len.3, omega (arith, first_is, first_small rest));
              state = both;
            }

      module _ (a : At n s (suc i)) (last : length es ≡ suc (suc i)) (short : (length (in_use y.entries)) ≡ 7) where
        abbrev c₂ : Covers s es (suc i) D
        c₂ = covers_of (suc i) a

        pub fill_left_merged : (length (in_use x.entries)) ≡ 7 → (part : Page) → part.level ≡ x.level → entries part ≡ entries x ++ entries y → Filling (m, cs) q₂ s l es (record { at = i; end = i + 2; part = part; rest = Nothing })
        unfolding left_merged
        fill_left_merged o part lv these = record {
          split = left_merged s l es i p.lo p.hi p.span last c₂.low p.high (omega (arith, y_len.0)) (omega (arith, x_len.0));
          at = refl;
          end = omega arith;
          part = joined_is part (lv ∙ x_len.3) these;
          rest = λ k made. refl;
          beside = tt;
          state = both;
        }

        pub fill_left_moved : ((length (in_use x.entries)) ≡ 7 → ⊥) → (part rest : Page) → part.level ≡ y.level → entries part ≡ drop (length (entries x) - 1) (entries x) ++ entries y → rest.level ≡ x.level → entries rest ≡ take ((length (in_use x.entries)) - 1) (entries x)
            → (sep : ℕ) → sep ≡ first (entries part) → Filling (m, cs) q₂ s l es (record { at = i; end = i + 2; part = part; rest = Before sep rest })
        unfolding left_moved
        fill_left_moved o part rest lv these lr left sep first_is =
            let k : ℕ = length xs - 1 in
            let nx : length (entries x) ≡ length xs = entries_length x ∙ x_len.0 in
            let pe : entries part ≡ shallow l (drop k xs ++ ys) = these ∙ ap (λ (z : ℕ). drop (z - 1) (entries x) ++ entries y) nx ∙ ap₂ (λ (u v : Block). drop k u.entries ++ v.entries) x_is y_is ∙ ap (λ (u : List (ℕ × ℕ)). u ++ shallow l ys) (flat_drop l k xs) ∙ flat_append l (drop k xs) ys in
            record {
              split = left_moved s l es i p.lo p.hi p.span last c₂.low p.high (omega (arith, y_len.0)) (λ z. o (omega (arith, x_len.0)));
              at = refl;
              end = omega arith;
              part = ap₂ page (lv ∙ y_len.3) pe;
              rest = λ key' made. ap₂ (λ (i : ℕ) (zs : List (ℕ × ℕ)). (key', zs) ∷ (i, made) ∷ []) (first_is ∙ ap first pe)
                  (left ∙ ap (λ (z : ℕ). take (z - 1) (entries x)) x_len.0 ∙ ap (λ (u : Block). take k u.entries) x_is ∙ flat_take l k xs);
              beside = (lr ∙ x_len.3, omega (arith, first_is, first_small part));
              state = both;
            }

-- the entry j of a page, as code reads it
pub entry_read : (p : Page) (j i : ℕ) (d : Entry) (xs : List Entry) → i ≡ j → j < length (in_use p.entries) → xs ≡ (in_use p.entries) → get_or (entries p) j (0, 0) ≡ pair (get_or xs i d)
entry_read p j i d items e h same =
    entries_at p j d h ∙ ap₂ (λ (zs : List Entry) (k : ℕ). pair (get_or zs k d)) (sym same) (sym e)

-- where the level is not named
module _ (m : Meaning) (cs : List ℕ) (n : Block) (s : ℕ) (a : AbleIndex (m, cs) n s) where
  pub two : 2 ≤ length n.entries
  two = omega (arith, a.ready.enough (omega arith), len m cs n s a.l a.es a.ready)

  pub owned_at : (i key b : ℕ) → i < length n.entries → get_or n.entries i (0, 0) ≡ (key, b) → Owned (m, cs) b
  owned_at i key b h e = owned m cs n s a.l a.es a.ready i b (omega (arith, h, len m cs n s a.l a.es a.ready)) (number m cs n s a.l a.es a.ready i key b e)

  pub owned_after : (i key b key₂ b₂ : ℕ) → suc i < length n.entries → get_or n.entries i (0, 0) ≡ (key, b) → get_or n.entries (suc i) (0, 0) ≡ (key₂, b₂) → (q : State) → q ≡ step (opening b) (m, cs) → Owned q b₂
  owned_after i key b key₂ b₂ h e e₂ = owned_next m cs n s a.l a.es a.ready i b b₂ (omega (arith, h, len m cs n s a.l a.es a.ready)) (number m cs n s a.l a.es a.ready i key b e) (number m cs n s a.l a.es a.ready (suc i) key₂ b₂ e₂)

  pub seven : (i key b : ℕ) → i < length n.entries → get_or n.entries i (0, 0) ≡ (key, b) → (x : Page) → block_at m b ≡ Some (view x) → 7 ≤ length (in_use x.entries)
  seven i key b h e x t =
      let lt : i < length a.es = omega (arith, h, len m cs n s a.l a.es a.ready) in
      (child_len m cs n s a.l a.es a.ready i (a.ready.enough (omega arith)) lt x (child_is m cs n s a.l a.es a.ready i b lt (number m cs n s a.l a.es a.ready i key b e) (view x) t)).1

  pub there_is : (i key b : ℕ) → i < length n.entries → get_or n.entries i (0, 0) ≡ (key, b) → is_some (block_at m b) ≡ true
  there_is i key b h e = let o = owned_at i key b h e in (o.counted.nodes b (held_alive (block_at m) cs o.others b o.counted)).0
