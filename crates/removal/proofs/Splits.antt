-- Every removal among the children of a block has a split.
use Rattle.std.proofs.Common.{◌≡◌, ℕ, zero, suc, ◌+◌, ◌-◌, ◌*◌, ◌<◌, ◌≤◌, List, [], ◌∷◌, ◌++◌, length, get_or, take, drop, Some, None, Option, sym, refl, ap, ◌∙◌, ap₂, ⊎_elim, not-suc-le-zero, arith, length-append, length-drop, length-take}
use Rattle.std.proofs.lemmas.List.{drop_all}
use Rattle.std.proofs.lemmas.Bool.{eq-eqb, ne_eqb, lt-ltb, le-ltb, cases_eq, cases_lt}
use Rattle.tree.specs.Node.{first, at, shrink, touch, ready_right, ready_left, map_e}
use Rattle.tree.specs.Tree.{Pay, Tree, Gap, Cell, Span, over}
use Rattle.tree.specs.Stored.{same}
use Rattle.tree.proofs.Over.{map-append, map_take, map_drop, map_length, map_first}
use Rattle.tree.proofs.Kept.{every_append, every_take, every_drop}
use Rattle.tree.proofs.Segs.{seg_join}
use Rattle.tree.proofs.Puts.{gap_trans, span_cut}
use Rattle.tree.proofs.Removes.{cell_le}
use Rattle.counts.specs.Moves.{Move}
use Rattle.edit.specs.Plan.{Stored}
use Rattle.edit.specs.Remove.{edit_moves, alone_n, right_n, left_n, alone_m, right_m, left_m, shrink_n, shrink_m}
use Rattle.edit.proofs.Downs.{kids_append}
use Rattle.edit.proofs.Removes.{kids_nil, halves}
use Rattle.edit.proofs.Rems.{sep_right, sep_left}
use Rattle.removal.specs.Split.{apart, merged, after, before, olds, Split}
use Rattle.removal.proofs.Indexed.{Covers, covers, cut_one, cut_two, drop_one, take_one, seg_pair, beside_right, beside_left, moves_right, moves_left, right_mapped, left_mapped}

pub first_join : {X : Type 0} (us vs : List (ℕ × X)) → 0 < length us → first (us ++ vs) ≡ first us
first_join [] vs h = absurd (not-suc-le-zero h)
first_join (u ∷ us) vs h = refl

pub take_map : {X Y : Type 0} (F : X → Y) (es : List (ℕ × X)) (i : ℕ) (d : ℕ × X) (vs : List (ℕ × Y)) → i < length es → map_e F (take (suc i) es) ++ vs ≡ map_e F (take i es) ++ (((get_or es i d).0, F (get_or es i d).1) ∷ vs)
take_map F [] i d vs h = absurd (not-suc-le-zero h)
take_map F (e ∷ r) zero d vs h = refl
take_map {X} {Y} F (e ∷ r) (suc i) d vs h = ap (λ (z : List (ℕ × Y)). (e.0, F e.1) ∷ z) (take_map F r i d vs (omega arith))

abbrev O : Type 0
O = Option ℕ

module _ (s l : ℕ) where
  abbrev D : ℕ × Tree ℕ ℕ l
  D = (0, (0, []))

  abbrev Up : (ℕ × Tree ℕ ℕ l) → (ℕ × Tree O ℕ l)
  Up e = (e.0, over Some same (suc l) e.1)

  -- the three functions at a place with a right neighbour
  module _ (es : List (ℕ × Tree ℕ ℕ l)) (i : ℕ) (h : suc i < length es) (low : (k : ℕ) → k ≤ i → (get_or es k D).0 ≤ s) (high : s < (get_or es (suc i) D).0) where
    pub n_right : (gs : List ℕ) (g : List (ℕ × Pay ℕ ℕ l) → List (ℕ × Pay ℕ ℕ l)) → shrink_n gs s l g es ≡ take i es ++ (right_n gs s l g (get_or es i D) (get_or es (suc i) D) ++ drop (suc (suc i)) es)
    n_right gs g = go es h low high
      where
        go : (es : List (ℕ × Tree ℕ ℕ l)) → suc i < length es → ((k : ℕ) → k ≤ i → (get_or es k D).0 ≤ s) → s < (get_or es (suc i) D).0 → shrink_n gs s l g es ≡ take i es ++ (right_n gs s l g (get_or es i D) (get_or es (suc i) D) ++ drop (suc (suc i)) es)
        go [] h low high = absurd (not-suc-le-zero h)
        go (e ∷ r) h low high = beside_right s (alone_n gs s l g) (right_n gs s l g) (left_n gs s l g) D e r i h low high

    pub m_right : (gs : List ℕ) (g : List (ℕ × Pay ℕ ℕ l) → List (ℕ × Pay ℕ ℕ l)) (ms : List (ℕ × Pay ℕ ℕ l) → List Move) → shrink_m gs s l g ms es ≡ right_m gs s l g ms (get_or es i D) (get_or es (suc i) D)
    m_right gs g ms = go es h low high
      where
        go : (es : List (ℕ × Tree ℕ ℕ l)) → suc i < length es → ((k : ℕ) → k ≤ i → (get_or es k D).0 ≤ s) → s < (get_or es (suc i) D).0 → shrink_m gs s l g ms es ≡ right_m gs s l g ms (get_or es i D) (get_or es (suc i) D)
        go [] h low high = absurd (not-suc-le-zero h)
        go (e ∷ r) h low high = moves_right s (alone_m gs s l g ms) (right_m gs s l g ms) (left_m gs s l g ms) D e r i h low high

    pub p_right : (g : List (ℕ × Pay O ℕ l) → List (ℕ × Pay O ℕ l)) → shrink None s g (olds (suc l) es) ≡ olds (suc l) (take i es) ++ (at s (touch None g) (ready_right None (Up (get_or es i D)) (Up (get_or es (suc i) D))) ++ olds (suc l) (drop (suc (suc i)) es))
    p_right g = go es h low high
      where
        go : (es : List (ℕ × Tree ℕ ℕ l)) → suc i < length es → ((k : ℕ) → k ≤ i → (get_or es k D).0 ≤ s) → s < (get_or es (suc i) D).0
            → shrink None s g (olds (suc l) es) ≡ olds (suc l) (take i es) ++ (at s (touch None g) (ready_right None (Up (get_or es i D)) (Up (get_or es (suc i) D))) ++ olds (suc l) (drop (suc (suc i)) es))
        go [] h low high = absurd (not-suc-le-zero h)
        go (e ∷ r) h low high = right_mapped (over Some same (suc l)) s (touch None g) (λ e d. at s (touch None g) (ready_right None e d)) (λ e d. at s (touch None g) (ready_left None e d)) D e r i h low high

  -- and at the last place
  module _ (es : List (ℕ × Tree ℕ ℕ l)) (i : ℕ) (h : length es ≡ suc (suc i)) (low : (k : ℕ) → k ≤ suc i → (get_or es k D).0 ≤ s) where
    pub n_left : (gs : List ℕ) (g : List (ℕ × Pay ℕ ℕ l) → List (ℕ × Pay ℕ ℕ l)) → shrink_n gs s l g es ≡ take i es ++ left_n gs s l g (get_or es i D) (get_or es (suc i) D)
    n_left gs g = go es h low
      where
        go : (es : List (ℕ × Tree ℕ ℕ l)) → length es ≡ suc (suc i) → ((k : ℕ) → k ≤ suc i → (get_or es k D).0 ≤ s) → shrink_n gs s l g es ≡ take i es ++ left_n gs s l g (get_or es i D) (get_or es (suc i) D)
        go [] h low = absurd (omega arith)
        go (e ∷ r) h low = beside_left s (alone_n gs s l g) (right_n gs s l g) (left_n gs s l g) D e r i h low

    pub m_left : (gs : List ℕ) (g : List (ℕ × Pay ℕ ℕ l) → List (ℕ × Pay ℕ ℕ l)) (ms : List (ℕ × Pay ℕ ℕ l) → List Move) → shrink_m gs s l g ms es ≡ left_m gs s l g ms (get_or es i D) (get_or es (suc i) D)
    m_left gs g ms = go es h low
      where
        go : (es : List (ℕ × Tree ℕ ℕ l)) → length es ≡ suc (suc i) → ((k : ℕ) → k ≤ suc i → (get_or es k D).0 ≤ s) → shrink_m gs s l g ms es ≡ left_m gs s l g ms (get_or es i D) (get_or es (suc i) D)
        go [] h low = absurd (omega arith)
        go (e ∷ r) h low = moves_left s (alone_m gs s l g ms) (right_m gs s l g ms) (left_m gs s l g ms) D e r i h low

    pub p_left : (g : List (ℕ × Pay O ℕ l) → List (ℕ × Pay O ℕ l)) → shrink None s g (olds (suc l) es) ≡ olds (suc l) (take i es) ++ at s (touch None g) (ready_left None (Up (get_or es i D)) (Up (get_or es (suc i) D)))
    p_left g = go es h low
      where
        go : (es : List (ℕ × Tree ℕ ℕ l)) → length es ≡ suc (suc i) → ((k : ℕ) → k ≤ suc i → (get_or es k D).0 ≤ s)
            → shrink None s g (olds (suc l) es) ≡ olds (suc l) (take i es) ++ at s (touch None g) (ready_left None (Up (get_or es i D)) (Up (get_or es (suc i) D)))
        go [] h low = absurd (omega arith)
        go (e ∷ r) h low = left_mapped (over Some same (suc l)) s (touch None g) (λ e d. at s (touch None g) (ready_right None e d)) (λ e d. at s (touch None g) (ready_left None e d)) D e r i h low

  module _ (es : List (ℕ × Tree ℕ ℕ l)) (i lo hi : ℕ) (p : Span ℕ ℕ (suc l) lo hi es) where
    abbrev e : ℕ × Tree ℕ ℕ l
    e = get_or es i D

    abbrev d : ℕ × Tree ℕ ℕ l
    d = get_or es (suc i) D

    abbrev xs : List (ℕ × Pay ℕ ℕ l)
    xs = e.1.1

    abbrev ys : List (ℕ × Pay ℕ ℕ l)
    ys = d.1.1

    abbrev F : Pay ℕ ℕ l → Pay O ℕ l
    F = over Some same l

    abbrev J : (lo mid hi : ℕ) (us vs : List (ℕ × Pay ℕ ℕ l)) → Span ℕ ℕ l lo mid us → Span ℕ ℕ l mid hi vs → Span ℕ ℕ l lo hi (us ++ vs)
    J = seg_join (Gap l) (Cell ℕ ℕ l) (gap_trans l)

    -- the child at i, with its right neighbour
    module _ (h : suc i < length es) (low : (k : ℕ) → k ≤ i → (get_or es k D).0 ≤ s) (high : s < (get_or es (suc i) D).0) where
      unfoldable pub right_apart : (length xs ≡ 7 → ⊥) → Split s l es
      right_apart m =
          let q = seg_pair (Cell ℕ ℕ (suc l)) lo hi es i D p h in
          let post : List (ℕ × Tree ℕ ℕ l) = drop (suc (suc i)) es in
          let dr : drop (suc i) es ≡ d ∷ post = drop_one es (suc i) D h in
          record {
            at = i;
            mid = e ∷ [];
            work = xs;
            side = apart;
            within = omega arith;
            around = cut_one es i D (omega arith);
            held = λ b. omega (arith, kids_nil b l);
            stored = λ g st. st.0.1;
            lo = e.0;
            hi = d.0;
            span = q.0.0;
            low = low i (omega arith);
            high = high;
            enough = omega (arith, q.0.1, m);
            few = q.0.2;
            rest_few = omega arith;
            shrinks = λ gs g.
                let x = get_or gs (2 * l) 0 in
                let r : right_n gs s l g e d ≡ (e.0, (x, g xs)) ∷ d ∷ [] = rw (ne_eqb (length xs) 7 m) in
                n_right es i h low high gs g ∙ ap (λ (z : List (ℕ × Tree ℕ ℕ l)). take i es ++ (z ++ post)) r ∙ ap (λ (z : List (ℕ × Tree ℕ ℕ l)). take i es ++ ((e.0, (x, g xs)) ∷ z)) (sym dr);
            moves = λ gs g ms. m_right es i h low high gs g ms ∙ rw (ne_eqb (length xs) 7 m);
            plain = λ g.
                let r : at s (touch None g) (ready_right None (Up e) (Up d)) ≡ (e.0, (None, g (olds l xs))) ∷ Up d ∷ [] = rw (map_length F xs, ne_eqb (length xs) 7 m, lt-ltb s d.0 high) in
                p_right es i h low high g ∙ ap (λ (z : List (ℕ × Tree O ℕ l)). olds (suc l) (take i es) ++ (z ++ olds (suc l) post)) r
                ∙ ap (λ (z : List (ℕ × Tree ℕ ℕ l)). olds (suc l) (take i es) ++ ((e.0, (None, g (olds l xs))) ∷ olds (suc l) z)) (sym dr);
          }

      unfoldable pub right_merged : length xs ≡ 7 → length ys ≡ 7 → Split s l es
      right_merged m o =
          let q = seg_pair (Cell ℕ ℕ (suc l)) lo hi es i D p h in
          let post : List (ℕ × Tree ℕ ℕ l) = drop (suc (suc i)) es in
          record {
            at = i;
            mid = e ∷ d ∷ [];
            work = xs ++ ys;
            side = merged;
            within = h;
            around = cut_two es i D h;
            held = λ b. omega (arith, kids_nil b l, kids_append b l xs ys);
            stored = λ g st. every_append (Stored g l) xs ys st.0.1 st.1.0.1;
            lo = e.0;
            hi = q.1.0;
            span = J e.0 d.0 q.1.0 xs ys q.0.0 q.1.1.0;
            low = low i (omega arith);
            high = omega (arith, cell_le ℕ ℕ (suc l) d.0 q.1.0 d.1 q.1.1);
            enough = omega (arith, length-append xs ys);
            few = omega (arith, length-append xs ys);
            rest_few = omega arith;
            shrinks = λ gs g. n_right es i h low high gs g ∙ rw (eq-eqb (length xs) 7 m, eq-eqb (length ys) 7 o);
            moves = λ gs g ms. m_right es i h low high gs g ms ∙ rw (eq-eqb (length xs) 7 m, eq-eqb (length ys) 7 o);
            plain = λ g.
                let r : at s (touch None g) (ready_right None (Up e) (Up d)) ≡ (e.0, (None, g (olds l (xs ++ ys)))) ∷ [] = rw (map_length F xs, map_length F ys, eq-eqb (length xs) 7 m, eq-eqb (length ys) 7 o, ← map-append F xs ys) in
                p_right es i h low high g ∙ ap (λ (z : List (ℕ × Tree O ℕ l)). olds (suc l) (take i es) ++ (z ++ olds (suc l) post)) r;
          }

      unfoldable pub right_moved : length xs ≡ 7 → (length ys ≡ 7 → ⊥) → Split s l es
      right_moved m o =
          let q = seg_pair (Cell ℕ ℕ (suc l)) lo hi es i D p h in
          let post : List (ℕ × Tree ℕ ℕ l) = drop (suc (suc i)) es in
          let cut = span_cut ℕ ℕ l d.0 q.1.0 1 ys (omega (arith, q.1.1.1)) q.1.1.0 in
          let one : length (take 1 ys) ≡ 1 = omega (arith, length-take 1 ys, q.1.1.1) in
          record {
            at = i;
            mid = e ∷ d ∷ [];
            work = xs ++ take 1 ys;
            side = after (drop 1 ys);
            within = h;
            around = cut_two es i D h;
            held = λ b. omega (arith, kids_append b l xs (take 1 ys), halves b l 1 ys);
            stored = λ g st. every_append (Stored g l) xs (take 1 ys) st.0.1 (every_take (Stored g l) 1 ys st.1.0.1);
            lo = e.0;
            hi = first (drop 1 ys);
            span = J e.0 d.0 (first (drop 1 ys)) xs (take 1 ys) q.0.0 cut.0;
            low = low i (omega arith);
            high = sep_right l e.0 d.0 q.1.0 xs ys q.0.0 q.1.1.0 q.0.1 q.1.1.1 s high;
            enough = omega (arith, length-append xs (take 1 ys), one);
            few = omega (arith, length-append xs (take 1 ys), one);
            rest_few = omega (arith, length-drop 1 ys, q.1.1.2);
            shrinks = λ gs g. n_right es i h low high gs g ∙ rw (eq-eqb (length xs) 7 m, ne_eqb (length ys) 7 o);
            moves = λ gs g ms. m_right es i h low high gs g ms ∙ rw (eq-eqb (length xs) 7 m, ne_eqb (length ys) 7 o);
            plain = λ g.
                let sep = sep_right l e.0 d.0 q.1.0 xs ys q.0.0 q.1.1.0 q.0.1 q.1.1.1 s high in
                let r : at s (touch None g) (ready_right None (Up e) (Up d)) ≡ (e.0, (None, g (olds l (xs ++ take 1 ys)))) ∷ (first (drop 1 ys), (None, olds l (drop 1 ys))) ∷ [] =
                rw (map_length F xs, map_length F ys, eq-eqb (length xs) 7 m, ne_eqb (length ys) 7 o, ← map_drop F 1 ys, ← map_take F 1 ys, ← map-append F xs (take 1 ys), map_first F (drop 1 ys), lt-ltb s (first (drop 1 ys)) sep) in
                p_right es i h low high g ∙ ap (λ (z : List (ℕ × Tree O ℕ l)). olds (suc l) (take i es) ++ (z ++ olds (suc l) post)) r
                ∙ ap (λ (k : ℕ). olds (suc l) (take i es) ++ ((e.0, (None, g (olds l (xs ++ take 1 ys)))) ∷ (k, (None, olds l (drop 1 ys))) ∷ olds (suc l) post)) (sym (map_first F (drop 1 ys)));
          }

    -- the last child, with its left neighbour at i
    module _ (h : length es ≡ suc (suc i)) (low : (k : ℕ) → k ≤ suc i → (get_or es k D).0 ≤ s) (high : s < hi) where
      pub none : drop (suc (suc i)) es ≡ []
      none = drop_all (suc (suc i)) es (omega arith)

      unfoldable pub left_apart : (length ys ≡ 7 → ⊥) → Split s l es
      left_apart m =
          let q = seg_pair (Cell ℕ ℕ (suc l)) lo hi es i D p (omega arith) in
          let eq : q.1.0 ≡ hi = q.1.2 h in
          record {
            at = suc i;
            mid = d ∷ [];
            work = ys;
            side = apart;
            within = omega arith;
            around = cut_one es (suc i) D (omega arith);
            held = λ b. omega (arith, kids_nil b l);
            stored = λ g st. st.0.1;
            lo = d.0;
            hi = q.1.0;
            span = q.1.1.0;
            low = low (suc i) (omega arith);
            high = omega arith;
            enough = omega (arith, q.1.1.1, m);
            few = q.1.1.2;
            rest_few = omega arith;
            shrinks = λ gs g.
                let x = get_or gs (2 * l) 0 in
                let r : left_n gs s l g e d ≡ e ∷ (d.0, (x, g ys)) ∷ [] = rw (ne_eqb (length ys) 7 m) in
                n_left es i h low gs g ∙ ap (λ (z : List (ℕ × Tree ℕ ℕ l)). take i es ++ z) r ∙ sym (take_one es i D ((d.0, (x, g ys)) ∷ []) (omega arith))
                ∙ ap (λ (z : List (ℕ × Tree ℕ ℕ l)). take (suc i) es ++ ((d.0, (x, g ys)) ∷ z)) (sym none);
            moves = λ gs g ms. m_left es i h low gs g ms ∙ rw (ne_eqb (length ys) 7 m);
            plain = λ g.
                let r : at s (touch None g) (ready_left None (Up e) (Up d)) ≡ Up e ∷ (d.0, (None, g (olds l ys))) ∷ [] = rw (map_length F ys, ne_eqb (length ys) 7 m, le-ltb s d.0 (low (suc i) (omega arith))) in
                p_left es i h low g ∙ ap (λ (z : List (ℕ × Tree O ℕ l)). olds (suc l) (take i es) ++ z) r ∙ sym (take_map (over Some same (suc l)) es i D ((d.0, (None, g (olds l ys))) ∷ []) (omega arith))
                ∙ ap (λ (z : List (ℕ × Tree ℕ ℕ l)). olds (suc l) (take (suc i) es) ++ ((d.0, (None, g (olds l ys))) ∷ olds (suc l) z)) (sym none);
          }

      unfoldable pub left_merged : length ys ≡ 7 → length xs ≡ 7 → Split s l es
      left_merged m o =
          let q = seg_pair (Cell ℕ ℕ (suc l)) lo hi es i D p (omega arith) in
          let eq : q.1.0 ≡ hi = q.1.2 h in
          record {
            at = i;
            mid = e ∷ d ∷ [];
            work = xs ++ ys;
            side = merged;
            within = omega arith;
            around = cut_two es i D (omega arith);
            held = λ b. omega (arith, kids_nil b l, kids_append b l xs ys);
            stored = λ g st. every_append (Stored g l) xs ys st.0.1 st.1.0.1;
            lo = e.0;
            hi = q.1.0;
            span = J e.0 d.0 q.1.0 xs ys q.0.0 q.1.1.0;
            low = low i (omega arith);
            high = omega arith;
            enough = omega (arith, length-append xs ys);
            few = omega (arith, length-append xs ys);
            rest_few = omega arith;
            shrinks = λ gs g.
                let x = get_or gs (2 * l) 0 in
                let r : left_n gs s l g e d ≡ (e.0, (x, g (xs ++ ys))) ∷ [] = rw (eq-eqb (length ys) 7 m, eq-eqb (length xs) 7 o) in
                n_left es i h low gs g ∙ ap (λ (z : List (ℕ × Tree ℕ ℕ l)). take i es ++ z) r ∙ ap (λ (z : List (ℕ × Tree ℕ ℕ l)). take i es ++ ((e.0, (x, g (xs ++ ys))) ∷ z)) (sym none);
            moves = λ gs g ms. m_left es i h low gs g ms ∙ rw (eq-eqb (length ys) 7 m, eq-eqb (length xs) 7 o);
            plain = λ g.
                let r : at s (touch None g) (ready_left None (Up e) (Up d)) ≡ (e.0, (None, g (olds l (xs ++ ys)))) ∷ [] = rw (map_length F xs, map_length F ys, eq-eqb (length ys) 7 m, eq-eqb (length xs) 7 o, ← map-append F xs ys) in
                p_left es i h low g ∙ ap (λ (z : List (ℕ × Tree O ℕ l)). olds (suc l) (take i es) ++ z) r
                ∙ ap (λ (z : List (ℕ × Tree ℕ ℕ l)). olds (suc l) (take i es) ++ ((e.0, (None, g (olds l (xs ++ ys)))) ∷ olds (suc l) z)) (sym none);
          }

      unfoldable pub left_moved : length ys ≡ 7 → (length xs ≡ 7 → ⊥) → Split s l es
      left_moved m o =
          let q = seg_pair (Cell ℕ ℕ (suc l)) lo hi es i D p (omega arith) in
          let eq : q.1.0 ≡ hi = q.1.2 h in
          let n : ℕ = length xs - 1 in
          let cut = span_cut ℕ ℕ l e.0 d.0 n xs (omega (arith, q.0.1)) q.0.0 in
          let us : List (ℕ × Pay ℕ ℕ l) = drop n xs in
          let one : length us ≡ 1 = omega (arith, length-drop n xs, q.0.1) in
          let key : first us ≡ first (us ++ ys) = sym (first_join us ys (omega arith)) in
          let sep : first us ≤ s = sep_left l e.0 d.0 q.1.0 xs ys q.0.0 q.1.1.0 q.0.1 q.1.1.1 s (low (suc i) (omega arith)) in
          record {
            at = i;
            mid = e ∷ d ∷ [];
            work = us ++ ys;
            side = before (take n xs);
            within = omega arith;
            around = cut_two es i D (omega arith);
            held = λ b. omega (arith, kids_append b l us ys, halves b l n xs);
            stored = λ g st. every_append (Stored g l) us ys (every_drop (Stored g l) n xs st.0.1) st.1.0.1;
            lo = first us;
            hi = q.1.0;
            span = J (first us) d.0 q.1.0 us ys cut.1 q.1.1.0;
            low = sep;
            high = omega arith;
            enough = omega (arith, length-append us ys);
            few = omega (arith, length-append us ys);
            rest_few = omega (arith, length-take n xs, q.0.2);
            shrinks = λ gs g.
                let x = get_or gs (2 * l) 0 in
                let y = get_or gs (2 * l + 1) 0 in
                let r : left_n gs s l g e d ≡ (e.0, (x, take n xs)) ∷ (first us, (y, g (us ++ ys))) ∷ [] = rw (eq-eqb (length ys) 7 m, ne_eqb (length xs) 7 o) in
                n_left es i h low gs g ∙ ap (λ (z : List (ℕ × Tree ℕ ℕ l)). take i es ++ z) r
                ∙ ap₂ (λ (k : ℕ) (z : List (ℕ × Tree ℕ ℕ l)). take i es ++ ((e.0, (x, take n xs)) ∷ (k, (y, g (us ++ ys))) ∷ z)) key (sym none);
            moves = λ gs g ms.
                let r : left_m gs s l g ms e d ≡ edit_moves gs s l g ms (e ∷ d ∷ []) (us ++ ys) ((e.0, take n xs) ∷ (first us, g (us ++ ys)) ∷ []) = rw (eq-eqb (length ys) 7 m, ne_eqb (length xs) 7 o) in
                m_left es i h low gs g ms ∙ r ∙ ap (λ (k : ℕ). edit_moves gs s l g ms (e ∷ d ∷ []) (us ++ ys) ((e.0, take n xs) ∷ (k, g (us ++ ys)) ∷ [])) key;
            plain = λ g.
                let r : at s (touch None g) (ready_left None (Up e) (Up d)) ≡ (e.0, (None, olds l (take n xs))) ∷ (first us, (None, g (olds l (us ++ ys)))) ∷ [] =
                rw (map_length F xs, map_length F ys, eq-eqb (length ys) 7 m, ne_eqb (length xs) 7 o, ← map_drop F n xs, ← map_take F n xs, ← map-append F (drop n xs) ys, map_first F (drop n xs), le-ltb s (first (drop n xs)) sep) in
                p_left es i h low g ∙ ap (λ (z : List (ℕ × Tree O ℕ l)). olds (suc l) (take i es) ++ z) r
                ∙ ap₂ (λ (k : ℕ) (z : List (ℕ × Tree ℕ ℕ l)). olds (suc l) (take i es) ++ ((e.0, (None, olds l (take n xs))) ∷ (k, (None, g (olds l (us ++ ys)))) ∷ olds (suc l) z)) (key ∙ sym (map_first F (us ++ ys))) (sym none);
          }

-- of every covering place
pub split_at : (s l lo hi i : ℕ) (es : List (ℕ × Tree ℕ ℕ l)) → Span ℕ ℕ (suc l) lo hi es → s < hi → 2 ≤ length es → Covers s es i (0, (0, [])) → Split s l es
split_at s l lo hi i es p up two c = ⊎_elim
    (λ r. ⊎_elim
    (λ m. ⊎_elim (λ o. right_merged s l es i lo hi p r c.low (c.high r) m o) (λ o. right_moved s l es i lo hi p r c.low (c.high r) m o) (cases_eq (length (get_or es (suc i) (0, (0, []))).1.1) 7))
    (λ m. right_apart s l es i lo hi p r c.low (c.high r) m)
    (cases_eq (length (get_or es i (0, (0, []))).1.1) 7))
    (λ r. last i (omega (arith, c.within)) c.low)
    (cases_lt (suc i) (length es))
  where
    last : (i : ℕ) → length es ≡ suc i → ((k : ℕ) → k ≤ i → (get_or es k (0, (0, []))).0 ≤ s) → Split s l es
    last zero n low = absurd (omega arith)
    last (suc i) n low = ⊎_elim
        (λ m. ⊎_elim (λ o. left_merged s l es i lo hi p n low up m o) (λ o. left_moved s l es i lo hi p n low up m o) (cases_eq (length (get_or es i (0, (0, []))).1.1) 7))
        (λ m. left_apart s l es i lo hi p n low up m)
        (cases_eq (length (get_or es (suc i) (0, (0, []))).1.1) 7)

-- one of them there is
pub splits : (s l lo hi : ℕ) (es : List (ℕ × Tree ℕ ℕ l)) → Span ℕ ℕ (suc l) lo hi es → lo ≤ s → s < hi → 2 ≤ length es → Split s l es
splits s l lo hi [] p low up two = absurd (omega arith)
splits s l lo hi (e ∷ r) p low up two =
    let c = covers s e r (0, (0, [])) (omega (arith, p.0)) in
    split_at s l lo hi c.0 (e ∷ r) p up two c.1
