-- Entries with their children's numbers alone.
use Rattle.std.proofs.Common.{◌≡◌, ℕ, zero, suc, List, [], ◌∷◌, ◌++◌, take, drop, sym, refl, ap}
use Rattle.tree.specs.Node.{first, Every, map_e}
use Rattle.tree.specs.Tree.{Pay, Tree}
use Rattle.tree.proofs.Over.{map-append, map_take, map_drop, map_first}
use Rattle.edit.specs.Plan.{shallow}
use Rattle.removal.specs.Split.{Side, apart, merged, after, before, past, parts, over_side}

pub flat_append : (l : ℕ) (xs ys : List (ℕ × Pay ℕ ℕ l)) → shallow l xs ++ shallow l ys ≡ shallow l (xs ++ ys)
flat_append zero xs ys = refl
flat_append (suc l) xs ys = sym (map-append (λ (c : Tree ℕ ℕ l). c.0) xs ys)

pub flat_take : (l n : ℕ) (xs : List (ℕ × Pay ℕ ℕ l)) → take n (shallow l xs) ≡ shallow l (take n xs)
flat_take zero n xs = refl
flat_take (suc l) n xs = sym (map_take (λ (c : Tree ℕ ℕ l). c.0) n xs)

pub flat_drop : (l n : ℕ) (xs : List (ℕ × Pay ℕ ℕ l)) → drop n (shallow l xs) ≡ shallow l (drop n xs)
flat_drop zero n xs = refl
flat_drop (suc l) n xs = sym (map_drop (λ (c : Tree ℕ ℕ l). c.0) n xs)

flat_first : (l : ℕ) (xs : List (ℕ × Pay ℕ ℕ l)) → first (shallow l xs) ≡ first xs
flat_first zero xs = refl
flat_first (suc l) xs = map_first (λ (c : Tree ℕ ℕ l). c.0) xs

pub flat_parts : (l k : ℕ) (side : Side (Pay ℕ ℕ l)) (work made : List (ℕ × Pay ℕ ℕ l)) → parts k (over_side (shallow l) side) (shallow l work) (shallow l made) ≡ map_e (shallow l) (parts k side work made)
flat_parts l k apart work made = refl
flat_parts l k merged work made = refl
flat_parts l k (after rest) work made = ap (λ (j : ℕ). (k, shallow l made) ∷ (j, shallow l rest) ∷ []) (flat_first l rest)
flat_parts l k (before rest) work made = ap (λ (j : ℕ). (k, shallow l rest) ∷ (j, shallow l made) ∷ []) (flat_first l work)

pub flat_past : (l i : ℕ) (side : Side (Pay ℕ ℕ l)) → past i (over_side (shallow l) side) ≡ past i side
flat_past l i apart = refl
flat_past l i merged = refl
flat_past l i (after rest) = refl
flat_past l i (before rest) = refl

pub every_inner : {X : Type 0} (P : X → Type 0) (pre mid post : List (ℕ × X)) → Every P (pre ++ (mid ++ post)) → Every P mid
every_inner P [] [] post e = tt
every_inner P [] (x ∷ mid) post e = (e.0, every_inner P [] mid post e.1)
every_inner P (x ∷ pre) mid post e = every_inner P pre mid post e.1
