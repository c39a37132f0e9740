-- Lists that are made from a function of the index, and rows of one width.
use Rattle.std.proofs.Common.{◌≡◌, ℕ, zero, suc, ◌+◌, ◌*◌, ◌<◌, ◌≤◌, List, [], ◌∷◌, map, length, get_or, set, sym, refl, ap, ◌∙◌, ⊎_elim, arith, add-mul}
use Rattle.std.specs.List.{range_with_len, AllByRecursion}
use Rattle.std.proofs.lemmas.List.{same_lists, get_or-set_same, get_or-set_other, length-set}
use Rattle.std.proofs.lemmas.Bool.{cases_eq}
use Rattle.std.proofs.lemmas.Nat.{mul-le}
use Rattle.std.proofs.lemmas.List.FromFn.{length-map-range_with_len, get_or-map-range_with_len}

-- the rows before row b end where it begins
pub rows : (k b w : ℕ) → k < b → k * w + w ≤ b * w
rows k b w h = omega (arith, mul-le (k + 1) w b w (omega arith) (omega arith), add-mul k 1 w)

pub map_map : {X Y Z : Type 0} (f : Y → Z) (g : X → Y) (xs : List X) → map f (map g xs) ≡ map (λ x. f (g x)) xs
map_map f g [] = refl
map_map f g (x ∷ xs) = ap (λ t. f (g x) ∷ t) (map_map f g xs)

module _ {X : Type 0} where
  pub get_or_table : (f : ℕ → X) (n i : ℕ) (d : X) → i < n → get_or (map f (range_with_len 0 n)) i d ≡ f i
  get_or_table f n i d h = get_or-map-range_with_len f 0 n i i d h (omega arith)

  -- a table after a change at b
  pub set_table : (f g : ℕ → X) (n b : ℕ) (v : X) → b < n → g b ≡ v → ((k : ℕ) → k < n → (k ≡ b → ⊥) → g k ≡ f k)
      → map g (range_with_len 0 n) ≡ set (map f (range_with_len 0 n)) b v
  set_table f g n b v h at_b others =
      same_lists _ _ (length-map-range_with_len g 0 n ∙ sym (length-set (map f (range_with_len 0 n)) b v ∙ length-map-range_with_len f 0 n))
      (λ k d in'.
      let k< : k < n = omega (arith, length-map-range_with_len g 0 n) in
      let b< : b < length (map f (range_with_len 0 n)) = omega (arith, length-map-range_with_len f 0 n) in
      get_or_table g n k d k< ∙
      ⊎_elim
      (λ (e : k ≡ b). ap g e ∙ at_b ∙ sym (get_or-set_same (map f (range_with_len 0 n)) b v d b<) ∙ ap (λ j. get_or (set (map f (range_with_len 0 n)) b v) j d) (sym e))
      (λ (ne : k ≡ b → ⊥). others k k< ne ∙ sym (get_or-set_other (map f (range_with_len 0 n)) b k v d ne ∙ get_or_table f n k d k<))
      (cases_eq k b))

  pub same_table : (f g : ℕ → X) (n : ℕ) → ((k : ℕ) → k < n → g k ≡ f k) → map g (range_with_len 0 n) ≡ map f (range_with_len 0 n)
  same_table f g n h =
      same_lists _ _ (length-map-range_with_len g 0 n ∙ sym (length-map-range_with_len f 0 n))
      (λ k d in'. let k< : k < n = omega (arith, length-map-range_with_len g 0 n) in get_or_table g n k d k< ∙ h k k< ∙ sym (get_or_table f n k d k<))

  all_from : (P : X → Type 0) (f : ℕ → X) (a m : ℕ) → ((k : ℕ) → a ≤ k → k < a + m → P (f k)) → AllByRecursion P (map f (range_with_len a m))
  all_from P f a zero h = tt
  all_from P f a (suc m) h = (h a (omega arith) (omega arith), all_from P f (a + 1) m (λ k low high. h k (omega arith) (omega arith)))

  pub all_table : (P : X → Type 0) (f : ℕ → X) (n : ℕ) → ((k : ℕ) → k < n → P (f k)) → AllByRecursion P (map f (range_with_len 0 n))
  all_table P f n h = all_from P f 0 n (λ k low high. h k (omega arith))
