-- Remove on numbered blocks.
use Rattle.std.specs.Prelude.{◌≡◌, ℕ, zero, suc, ◌+◌, ◌-◌, ◌*◌, ◌<◌, ◌≤◌, Bool, true, false, cond, List, [], ◌∷◌, ◌++◌, length, take, drop, Some, None, Option, ◌==◌, nat_lt, slice_index}
use Rattle.tree.specs.Node.{del, first, is_nil, beside, Every, map_e}
use Rattle.tree.specs.Tree.{Pay, Tree, Span, over, rem_e}
use Rattle.tree.specs.Stored.{forget, same, Numbers}
use Rattle.page.specs.Block.{block_at}
use Rattle.counts.specs.Counts.{occ, Counted}
use Rattle.edit.specs.Plan.{shallow, kids, Stored, placed, links}
use Rattle.counts.specs.Moves.{Move, State, run, Laid}
use Rattle.edit.specs.Kept.{Free, Stands}
use Rattle.edit.specs.Fill.{opens}

module _ {X : Type 0} where
  abbrev pub short : List (ℕ × X) → Bool
  short es = length es == 7

  -- A child xs with its right neighbour ys: where the work goes on, and the parts that stand for the two.
  abbrev pub work_r : List (ℕ × X) → List (ℕ × X) → List (ℕ × X)
  work_r xs ys = cond (short xs) (cond (short ys) (xs ++ ys) (xs ++ take 1 ys)) xs

  abbrev pub parts_r : ℕ → List (ℕ × X) → List (ℕ × X) → List (ℕ × X) → List (ℕ × List (ℕ × X))
  parts_r k xs ys made = cond (short xs) (cond (short ys) ((k, made) ∷ []) ((k, made) ∷ (first (drop 1 ys), drop 1 ys) ∷ [])) ((k, made) ∷ [])

  -- The last child ys with its left neighbour xs.
  abbrev pub work_l : List (ℕ × X) → List (ℕ × X) → List (ℕ × X)
  work_l xs ys = cond (short ys) (cond (short xs) (xs ++ ys) (drop (length xs - 1) xs ++ ys)) ys

  abbrev pub parts_l : ℕ → ℕ → List (ℕ × X) → List (ℕ × X) → List (ℕ × X) → List (ℕ × List (ℕ × X))
  parts_l k j xs ys made = cond (short ys) (cond (short xs) ((k, made) ∷ []) ((k, take (length xs - 1) xs) ∷ (first (drop (length xs - 1) xs), made) ∷ [])) ((j, made) ∷ [])

abbrev pub beside_m : {X : Type 0} → ℕ → (ℕ × X → List Move) → ((ℕ × X) → (ℕ × X) → List Move) → ((ℕ × X) → (ℕ × X) → List Move) → (ℕ × X) → List (ℕ × X) → List Move
beside_m s f fR fL e [] = f e
beside_m s f fR fL e (d ∷ r) = cond (nat_lt s d.0) (fR e d) (cond (is_nil r) (fL e d) (beside_m s f fR fL d r))

module _ (gs : List ℕ) (s : ℕ) where
  module _ (l : ℕ) (g : List (ℕ × Pay ℕ ℕ l) → List (ℕ × Pay ℕ ℕ l)) where
    abbrev pub put2 : List (ℕ × List (ℕ × Pay ℕ ℕ l)) → List (ℕ × Tree ℕ ℕ l)
    put2 ps = placed (slice_index gs (2 * l)) (slice_index gs (2 * l + 1)) ps

    abbrev pub alone_n : ℕ → Tree ℕ ℕ l → List (ℕ × Tree ℕ ℕ l)
    alone_n k t = put2 ((k, g t.1) ∷ [])

    abbrev pub right_n : (ℕ × Tree ℕ ℕ l) → (ℕ × Tree ℕ ℕ l) → List (ℕ × Tree ℕ ℕ l)
    right_n e d = put2 (parts_r e.0 e.1.1 d.1.1 (g (work_r e.1.1 d.1.1))) ++ cond (short e.1.1) [] (d ∷ [])

    abbrev pub left_n : (ℕ × Tree ℕ ℕ l) → (ℕ × Tree ℕ ℕ l) → List (ℕ × Tree ℕ ℕ l)
    left_n e d = cond (short d.1.1) [] (e ∷ []) ++ put2 (parts_l e.0 d.0 e.1.1 d.1.1 (g (work_l e.1.1 d.1.1)))

    module _ (ms : List (ℕ × Pay ℕ ℕ l) → List Move) where
      abbrev pub edit_moves : List (ℕ × Tree ℕ ℕ l) → List (ℕ × Pay ℕ ℕ l) → List (ℕ × List (ℕ × Pay ℕ ℕ l)) → List Move
      edit_moves mid work ps = opens mid ++ (ms work ++ links l (map_e (λ c. (c.0, shallow l c.1)) (put2 ps)))

      abbrev pub alone_m : (ℕ × Tree ℕ ℕ l) → List Move
      alone_m e = edit_moves (e ∷ []) e.1.1 ((e.0, g e.1.1) ∷ [])

      abbrev pub right_m : (ℕ × Tree ℕ ℕ l) → (ℕ × Tree ℕ ℕ l) → List Move
      right_m e d = edit_moves (cond (short e.1.1) (e ∷ d ∷ []) (e ∷ [])) (work_r e.1.1 d.1.1) (parts_r e.0 e.1.1 d.1.1 (g (work_r e.1.1 d.1.1)))

      abbrev pub left_m : (ℕ × Tree ℕ ℕ l) → (ℕ × Tree ℕ ℕ l) → List Move
      left_m e d = edit_moves (cond (short d.1.1) (e ∷ d ∷ []) (d ∷ [])) (work_l e.1.1 d.1.1) (parts_l e.0 d.0 e.1.1 d.1.1 (g (work_l e.1.1 d.1.1)))

  abbrev pub shrink_n : (l : ℕ) → (List (ℕ × Pay ℕ ℕ l) → List (ℕ × Pay ℕ ℕ l)) → List (ℕ × Tree ℕ ℕ l) → List (ℕ × Tree ℕ ℕ l)
  shrink_n l g [] = []
  shrink_n l g (e ∷ r) = beside s (alone_n l g) (right_n l g) (left_n l g) e r

  abbrev pub shrink_m : (l : ℕ) → (List (ℕ × Pay ℕ ℕ l) → List (ℕ × Pay ℕ ℕ l)) → (List (ℕ × Pay ℕ ℕ l) → List Move) → List (ℕ × Tree ℕ ℕ l) → List Move
  shrink_m l g ms [] = []
  shrink_m l g ms (e ∷ r) = beside_m s (alone_m l g ms) (right_m l g ms) (left_m l g ms) e r

  abbrev pub rem_n : (l : ℕ) → List (ℕ × Pay ℕ ℕ l) → List (ℕ × Pay ℕ ℕ l)
  rem_n zero es = del s es
  rem_n (suc l) es = shrink_n l (rem_n l) es

  abbrev pub rem_moves : (l : ℕ) → List (ℕ × Pay ℕ ℕ l) → List Move
  rem_moves zero es = []
  rem_moves (suc l) es = shrink_m l (rem_n l) (rem_moves l) es

-- Remove's moves keep the counts' equation, what they make is stored, and blocks outside the places stay as they are.
abbrev pub RemoveKeeps : Type 0
RemoveKeeps = (gs : List ℕ) (s N l : ℕ) (es : List (ℕ × Pay ℕ ℕ l)) (q : State) (h : ℕ → ℕ) → Every (Stored (block_at q.0) l) es → Counted (block_at q.0) q.1 (λ b. occ b (kids l es) + h b) → Free q gs N → 2 * l ≤ N
    → Laid q.0.width (rem_moves gs s l es) → Stands gs l h q (run (rem_moves gs s l es) q) (rem_n gs s l es)

-- Remove on numbers is remove, with the numbers of the grant forgotten.
abbrev pub Removes : Type 0
Removes = (fresh : ℕ → Bool) (gs : List ℕ) (s l lo hi : ℕ) (es : List (ℕ × Pay ℕ ℕ l)) → Span ℕ ℕ l lo hi es → ((j : ℕ) → j < 2 * l → fresh (slice_index gs j) ≡ true) → Every (Numbers ℕ (λ b. fresh b ≡ false) l) es
    → map_e (over (forget fresh) same l) (rem_n gs s l es) ≡ rem_e (Option ℕ) ℕ None s l (map_e (over Some same l) es)
