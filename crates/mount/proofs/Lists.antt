-- A list that is gone through, taken apart at a place.
use Rattle.std.proofs.Common.{◌≡◌, ℕ, zero, suc, ◌+◌, ◌<◌, Bool, true, List, [], ◌∷◌, map, length, get_or, drop, sym, refl, ap, ◌∙◌}
use Rattle.std.proofs.lemmas.Bool.{and_parts}
use Rattle.std.proofs.lemmas.List.{drop_more, drop-map}
use Rattle.page.specs.Slot.{every}

module _ {A B : Type 0} (f : A → B) (xs : List A) (i : ℕ) where
  pub drop_at : (d : A) → i < length xs → drop i (map f xs) ≡ f (get_or xs i d) ∷ drop (i + 1) (map f xs)
  drop_at d h = drop-map f i xs ∙ ap (map f) (drop_more xs i d h) ∙ ap (λ ys. f (get_or xs i d) ∷ ys) (sym (drop-map f (i + 1) xs))

-- what each keeps, the one at this place keeps
module _ {A : Type 0} (f : A → Bool) where
  every_drop : (i : ℕ) (xs : List A) → every f xs ≡ true → every f (drop i xs) ≡ true
  every_drop zero xs h = h
  every_drop (suc i) [] h = refl
  every_drop (suc i) (x ∷ xs) h = every_drop i xs (and_parts (f x) (every f xs) h).1

  pub every_at : (i : ℕ) (xs rest : List A) (x : A) → every f xs ≡ true → drop i xs ≡ x ∷ rest → f x ≡ true
  every_at i xs rest x h e = (and_parts (f x) (every f rest) (ap (every f) (sym e) ∙ every_drop i xs h)).0
