-- The removal on numbered blocks is that of the trees, its new blocks numbered by level; and what it writes are these numbers.
use Rattle.std.proofs.Common.{◌≡◌, ℕ, zero, suc, ◌+◌, ◌*◌, ◌<◌, ◌≤◌, List, [], ◌∷◌, ◌++◌, map, length, get_or, take, drop, Some, None, Option, sym, refl, ap, ◌∙◌, ap₂, arith}
use Rattle.tree.specs.Node.{del, first, map_e}
use Rattle.tree.specs.Tree.{Pay, Tree, Span, over, rem_e, lower}
use Rattle.tree.specs.Stored.{same}
use Rattle.tree.specs.Numbered.{beside, numbers, numbered}
use Rattle.tree.specs.Apart.{along, collect, its_place}
use Rattle.tree.proofs.Over.{map_first}
use Rattle.counts.specs.Counts.{occ}
use Rattle.counts.specs.Moves.{Move, opening, linking}
use Rattle.edit.specs.Plan.{shallow, placed, links}
use Rattle.edit.specs.Fill.{opens}
use Rattle.edit.specs.Remove.{rem_n, rem_moves}
use Rattle.edit.proofs.Downs.{map_same}
use Rattle.edit.proofs.Traces.{linked}
use Rattle.removal.specs.Split.{Side, apart, merged, after, before, past, parts, over_side, olds, news, key_at}
use Rattle.removal.proofs.Splits.{splits}

abbrev O : Type 0
O = Option ℕ

pub occ_linked : (b : ℕ) (us vs : List Move) → occ b (linked (us ++ vs)) ≡ occ b (linked us) + occ b (linked vs)
occ_linked b [] vs = omega arith
occ_linked b (opening x ∷ us) vs = occ_linked b us vs
occ_linked b (linking x n ∷ us) vs = omega (arith, occ_linked b us vs)

linked_opens : {X : Type 0} (b : ℕ) (es : List (ℕ × (ℕ × X))) → occ b (linked (opens es)) ≡ 0
linked_opens b [] = refl
linked_opens b (e ∷ r) = linked_opens b r

module _ (pick : ℕ → ℕ) where
  abbrev N : (l : ℕ) → List (ℕ × Pay O ℕ l) → List (ℕ × Pay ℕ ℕ l)
  N l es = numbers ℕ pick l es

  old_beside : (l : ℕ) → ((es : List (ℕ × Pay ℕ ℕ l)) → N l (olds l es) ≡ es) → (i j : ℕ) (es : List (ℕ × Tree ℕ ℕ l)) → beside pick (N l) i j (olds (suc l) es) ≡ es
  old_beside l ih i j [] = refl
  old_beside l ih i j (e ∷ r) = ap₂ (λ (u : List (ℕ × Pay ℕ ℕ l)) (v : List (ℕ × Tree ℕ ℕ l)). (e.0, (e.1.0, u)) ∷ v) (ih e.1.1) (old_beside l ih i j r)

  old_all : (l : ℕ) (es : List (ℕ × Pay ℕ ℕ l)) → N l (olds l es) ≡ es
  old_all zero es = sym (map_same es)
  old_all (suc l) es = old_beside l (old_all l) (2 * l) (2 * l + 1) es

  old_front : (l i j : ℕ) (es : List (ℕ × Tree ℕ ℕ l)) (rest : List (ℕ × Tree O ℕ l)) → beside pick (N l) i j (olds (suc l) es ++ rest) ≡ es ++ beside pick (N l) i j rest
  old_front l i j [] rest = refl
  old_front l i j (e ∷ r) rest = ap₂ (λ (u : List (ℕ × Pay ℕ ℕ l)) (v : List (ℕ × Tree ℕ ℕ l)). (e.0, (e.1.0, u)) ∷ v) (old_all l e.1.1) (old_front l i j r rest)

  new_parts : (l i j k : ℕ) (side : Side (Pay ℕ ℕ l)) (work : List (ℕ × Pay ℕ ℕ l)) (made : List (ℕ × Pay O ℕ l)) (post : List (ℕ × Tree ℕ ℕ l))
      → beside pick (N l) i j (news (parts k (over_side (olds l) side) (olds l work) made) ++ olds (suc l) post) ≡ placed (pick i) (pick j) (parts k side work (N l made)) ++ post
  new_parts l i j k apart work made post = ap (λ (z : List (ℕ × Tree ℕ ℕ l)). (k, (pick i, N l made)) ∷ z) (old_beside l (old_all l) j j post)
  new_parts l i j k merged work made post = ap (λ (z : List (ℕ × Tree ℕ ℕ l)). (k, (pick i, N l made)) ∷ z) (old_beside l (old_all l) j j post)
  new_parts l i j k (after rest) work made post =
      ap (λ (z : List (ℕ × Tree ℕ ℕ l)). (k, (pick i, N l made)) ∷ (first (olds l rest), (pick j, N l (olds l rest))) ∷ z) (old_beside l (old_all l) j j post)
      ∙ ap₂ (λ (q : ℕ) (z : List (ℕ × Pay ℕ ℕ l)). (k, (pick i, N l made)) ∷ (q, (pick j, z)) ∷ post) (map_first (over Some same l) rest) (old_all l rest)
  new_parts l i j k (before rest) work made post =
      ap (λ (z : List (ℕ × Tree ℕ ℕ l)). (k, (pick i, N l (olds l rest))) ∷ (first (olds l work), (pick j, N l made)) ∷ z) (old_beside l (old_all l) j j post)
      ∙ ap₂ (λ (q : ℕ) (z : List (ℕ × Pay ℕ ℕ l)). (k, (pick i, z)) ∷ (q, (pick j, N l made)) ∷ post) (map_first (over Some same l) work) (old_all l rest)

  pub number_is : (gs : List ℕ) (s l lo hi : ℕ) (es : List (ℕ × Pay ℕ ℕ l)) → Span ℕ ℕ l lo hi es → lo ≤ s → s < hi → (0 < l → 2 ≤ length es) → ((j : ℕ) → j < 2 * l → pick j ≡ get_or gs j 0)
      → N l (rem_e O ℕ None s l (olds l es)) ≡ rem_n gs s l es
  number_is gs s zero lo hi es p low high two f = ap (del s) (sym (map_same es))
  number_is gs s (suc l) lo hi es p low high two f =
      let S = splits s l lo hi es p low high (two (omega arith)) in
      let ih = number_is gs s l S.lo S.hi S.work S.span S.low S.high (λ z. omega (arith, S.enough)) (λ j h. f j (omega arith)) in
      let made = rem_e O ℕ None s l (olds l S.work) in
      let pre = take S.at es in
      let post = drop (past S.at S.side) es in
      let k = key_at l es S.at in
      ap (beside pick (N l) (2 * l) (2 * l + 1)) (S.plain (rem_e O ℕ None s l))
      ∙ old_front l (2 * l) (2 * l + 1) pre (news (parts k (over_side (olds l) S.side) (olds l S.work) made) ++ olds (suc l) post)
      ∙ ap (λ (z : List (ℕ × Tree ℕ ℕ l)). pre ++ z) (new_parts l (2 * l) (2 * l + 1) k S.side S.work made post)
      ∙ ap (λ (z : List (ℕ × Pay ℕ ℕ l)). pre ++ (placed (pick (2 * l)) (pick (2 * l + 1)) (parts k S.side S.work z) ++ post)) ih
      ∙ ap₂ (λ (x y : ℕ). pre ++ (placed x y (parts k S.side S.work (rem_n gs s l S.work)) ++ post)) (f (2 * l) (omega arith)) (f (2 * l + 1) (omega arith))
      ∙ sym (S.shrinks gs (rem_n gs s l))

  -- the places of new blocks
  abbrev C : (l : ℕ) → List (ℕ × Pay O ℕ l) → List ℕ
  C l es = collect ℕ ℕ (its_place ℕ) l es

  occ_map : (b : ℕ) (xs ys : List ℕ) → occ b (map pick (xs ++ ys)) ≡ occ b (map pick xs) + occ b (map pick ys)
  occ_map b [] ys = omega arith
  occ_map b (x ∷ xs) ys = omega (arith, occ_map b xs ys)

  no_along : (l : ℕ) → ((es : List (ℕ × Pay ℕ ℕ l)) → C l (olds l es) ≡ []) → (i j : ℕ) (es : List (ℕ × Tree ℕ ℕ l)) (rest : List (ℕ × Tree O ℕ l)) → along (its_place ℕ l) (C l) i j (olds (suc l) es ++ rest) ≡ along (its_place ℕ l) (C l) i j rest
  no_along l ih i j [] rest = refl
  no_along l ih i j (e ∷ r) rest = ap (λ (z : List ℕ). z ++ along (its_place ℕ l) (C l) i j (olds (suc l) r ++ rest)) (ih e.1.1) ∙ no_along l ih i j r rest

  no_last : (l : ℕ) → ((es : List (ℕ × Pay ℕ ℕ l)) → C l (olds l es) ≡ []) → (i j : ℕ) (es : List (ℕ × Tree ℕ ℕ l)) → along (its_place ℕ l) (C l) i j (olds (suc l) es) ≡ []
  no_last l ih i j [] = refl
  no_last l ih i j (e ∷ r) = ap (λ (z : List ℕ). z ++ along (its_place ℕ l) (C l) i j (olds (suc l) r)) (ih e.1.1) ∙ no_last l ih i j r

  no_new : (l : ℕ) (es : List (ℕ × Pay ℕ ℕ l)) → C l (olds l es) ≡ []
  no_new zero es = refl
  no_new (suc l) es = no_last l (no_new l) (2 * l) (2 * l + 1) es

  part_places : (b l i j k : ℕ) (side : Side (Pay ℕ ℕ l)) (work : List (ℕ × Pay ℕ ℕ l)) (made : List (ℕ × Pay O ℕ l)) (post : List (ℕ × Tree ℕ ℕ l)) (us : List (ℕ × Pay ℕ ℕ l))
      → occ b (map pick (along (its_place ℕ l) (C l) i j (news (parts k (over_side (olds l) side) (olds l work) made) ++ olds (suc l) post)))
      ≡ occ b (map pick (C l made)) + occ b (linked (links l (map_e (λ c. (c.0, shallow l c.1)) (placed (pick i) (pick j) (parts k side work us)))))
  part_places b l i j k apart work made post us =
      let last = ap (λ (z : List ℕ). occ b (map pick z)) (no_last l (no_new l) j j post) in
      omega (arith, last, occ_map b (C l made) (along (its_place ℕ l) (C l) j j (olds (suc l) post)))
  part_places b l i j k merged work made post us =
      let last = ap (λ (z : List ℕ). occ b (map pick z)) (no_last l (no_new l) j j post) in
      omega (arith, last, occ_map b (C l made) (along (its_place ℕ l) (C l) j j (olds (suc l) post)))
  part_places b l i j k (after rest) work made post us =
      let last = ap (λ (z : List ℕ). occ b (map pick z)) (no_last l (no_new l) j j post) in
      let none = ap (λ (z : List ℕ). occ b (map pick z)) (no_new l rest) in
      omega (arith, last, none, occ_map b (C l made) (j ∷ (C l (olds l rest) ++ along (its_place ℕ l) (C l) j j (olds (suc l) post))), occ_map b (C l (olds l rest)) (along (its_place ℕ l) (C l) j j (olds (suc l) post)))
  part_places b l i j k (before rest) work made post us =
      let last = ap (λ (z : List ℕ). occ b (map pick z)) (no_last l (no_new l) j j post) in
      let none = ap (λ (z : List ℕ). occ b (map pick z)) (no_new l rest) in
      omega (arith, last, none, occ_map b (C l (olds l rest)) (j ∷ (C l made ++ along (its_place ℕ l) (C l) j j (olds (suc l) post))), occ_map b (C l made) (along (its_place ℕ l) (C l) j j (olds (suc l) post)))

  pub place_is : (gs : List ℕ) (s l lo hi : ℕ) (es : List (ℕ × Pay ℕ ℕ l)) → Span ℕ ℕ l lo hi es → lo ≤ s → s < hi → (0 < l → 2 ≤ length es) → ((j : ℕ) → j < 2 * l → pick j ≡ get_or gs j 0)
      → (b : ℕ) → occ b (map pick (C l (rem_e O ℕ None s l (olds l es)))) ≡ occ b (linked (rem_moves gs s l es))
  place_is gs s zero lo hi es p low high two f b = refl
  place_is gs s (suc l) lo hi es p low high two f b =
      let S = splits s l lo hi es p low high (two (omega arith)) in
      let ih = place_is gs s l S.lo S.hi S.work S.span S.low S.high (λ z. omega (arith, S.enough)) (λ j h. f j (omega arith)) b in
      let made = rem_e O ℕ None s l (olds l S.work) in
      let us = rem_n gs s l S.work in
      let pre = take S.at es in
      let post = drop (past S.at S.side) es in
      let k = key_at l es S.at in
      let ls = λ (x y : ℕ). links l (map_e (λ c. (c.0, shallow l c.1)) (placed x y (parts k S.side S.work us))) in
      let q : occ b (map pick (C (suc l) (rem_e O ℕ None s (suc l) (olds (suc l) es)))) ≡ occ b (map pick (C l made)) + occ b (linked (ls (pick (2 * l)) (pick (2 * l + 1)))) =
      ap (λ (z : List (ℕ × Tree O ℕ l)). occ b (map pick (along (its_place ℕ l) (C l) (2 * l) (2 * l + 1) z))) (S.plain (rem_e O ℕ None s l))
      ∙ ap (λ (z : List ℕ). occ b (map pick z)) (no_along l (no_new l) (2 * l) (2 * l + 1) pre (news (parts k (over_side (olds l) S.side) (olds l S.work) made) ++ olds (suc l) post))
      ∙ part_places b l (2 * l) (2 * l + 1) k S.side S.work made post us in
      let at : occ b (linked (ls (pick (2 * l)) (pick (2 * l + 1)))) ≡ occ b (linked (ls (get_or gs (2 * l) 0) (get_or gs (2 * l + 1) 0))) = ap₂ (λ (x y : ℕ). occ b (linked (ls x y))) (f (2 * l) (omega arith)) (f (2 * l + 1) (omega arith)) in
      let ms = rem_moves gs s l S.work in
      let end = ls (get_or gs (2 * l) 0) (get_or gs (2 * l + 1) 0) in
      let mv : occ b (linked (rem_moves gs s (suc l) es)) ≡ occ b (linked (opens S.mid ++ (ms ++ end))) = ap (λ (z : List Move). occ b (linked z)) (S.moves gs (rem_n gs s l) (rem_moves gs s l)) in
      omega (arith, q, at, ih, mv, occ_linked b (opens S.mid) (ms ++ end), occ_linked b ms end, linked_opens b S.mid)

  -- the root
  pub root_number : (l : ℕ) (us : List (ℕ × Pay O ℕ l)) → numbered ℕ pick (lower O ℕ l (None, us)) ≡ lower ℕ ℕ l (pick (2 * l), N l us)
  root_number zero us = refl
  root_number (suc l) [] = refl
  root_number (suc l) (e ∷ []) = refl
  root_number (suc l) (e ∷ d ∷ r) = refl
