-- The rows on either side of a speed, with one more row at the end.
use Rattle.std.proofs.Common.{◌≡◌, ℕ, ◌<◌, ◌≤◌, List, [], ◌∷◌, ◌++◌, Bool, true, false, ltb, cond, ℤ, Some, None, Option, sym, refl, ap, ◌∙◌}
use Rattle.std.specs.Option.{option_or}
use Rattle.std.proofs.lemmas.Bool.{lt-ltb, le-ltb}
use Rattle.table.specs.Angles.{later, up_to, past}

module _ (s : ℕ) (e : ℕ × ℤ) where
  past_more : (rs : List (ℕ × ℤ)) → past s (rs ++ e ∷ []) ≡ option_or (past s rs) (past s (e ∷ []))
  past_more [] = refl
  past_more (r ∷ rs) = go (ltb s r.0) (past_more rs)
    where
      go : (t : Bool) → past s (rs ++ e ∷ []) ≡ option_or (past s rs) (past s (e ∷ [])) → cond t (Some r) (past s (rs ++ e ∷ [])) ≡ option_or (cond t (Some r) (past s rs)) (past s (e ∷ []))
      go true p = refl
      go false p = p

  -- the last row at or below, by the first above before
  abbrev below_by : Option (ℕ × ℤ) → Option (ℕ × ℤ) → Option (ℕ × ℤ)
  below_by None x = later x (up_to s (e ∷ []))
  below_by (Some a) x = x

  later_by : (r : ℕ × ℤ) (a x : Option (ℕ × ℤ)) → later (Some r) (below_by a x) ≡ below_by a (later (Some r) x)
  later_by r None x = go x (up_to s (e ∷ []))
    where
      go : (x y : Option (ℕ × ℤ)) → later (Some r) (later x y) ≡ later (later (Some r) x) y
      go x None = refl
      go None (Some y) = refl
      go (Some z) (Some y) = refl
  later_by r (Some a) x = refl

  up_more : (rs : List (ℕ × ℤ)) → up_to s (rs ++ e ∷ []) ≡ below_by (past s rs) (up_to s rs)
  up_more [] = none (up_to s (e ∷ []))
    where
      none : (x : Option (ℕ × ℤ)) → x ≡ later None x
      none None = refl
      none (Some y) = refl
  up_more (r ∷ rs) = go (ltb s r.0) (up_more rs)
    where
      go : (t : Bool) → up_to s (rs ++ e ∷ []) ≡ below_by (past s rs) (up_to s rs)
          → cond t None (later (Some r) (up_to s (rs ++ e ∷ []))) ≡ below_by (cond t (Some r) (past s rs)) (cond t None (later (Some r) (up_to s rs)))
      go true p = refl
      go false p = ap (later (Some r)) p ∙ later_by r (past s rs) (up_to s rs)

  -- the sides of rows with e after them: where a row above was seen, where e is the first such row, and where there is none
  pub seen : (rs : List (ℕ × ℤ)) (b a : Option (ℕ × ℤ)) (x : ℕ × ℤ) → a ≡ Some x → (b ≡ up_to s rs) × (a ≡ past s rs) → (b ≡ up_to s (rs ++ e ∷ [])) × (a ≡ past s (rs ++ e ∷ []))
  seen rs b a x q h =
      let p = sym h.1 ∙ q in
      (h.0 ∙ sym (up_more rs ∙ ap (λ y. below_by y (up_to s rs)) p), q ∙ sym (past_more rs ∙ ap (λ y. option_or y (past s (e ∷ []))) p))

  pub first_above : (rs : List (ℕ × ℤ)) (b a : Option (ℕ × ℤ)) → a ≡ None → (b ≡ up_to s rs) × (a ≡ past s rs) → s < e.0 → (b ≡ up_to s (rs ++ e ∷ [])) × (Some e ≡ past s (rs ++ e ∷ []))
  first_above rs b a q h lt =
      let p = sym h.1 ∙ q in
      let t = lt-ltb s e.0 lt in
      (h.0 ∙ sym (up_more rs ∙ ap (λ y. below_by y (up_to s rs)) p ∙ rw t refl), sym (past_more rs ∙ ap (λ y. option_or y (past s (e ∷ []))) p ∙ rw t refl))

  pub last_below : (rs : List (ℕ × ℤ)) (b a : Option (ℕ × ℤ)) → a ≡ None → (b ≡ up_to s rs) × (a ≡ past s rs) → e.0 ≤ s → (Some e ≡ up_to s (rs ++ e ∷ [])) × (a ≡ past s (rs ++ e ∷ []))
  last_below rs b a q h le =
      let p = sym h.1 ∙ q in
      let t = le-ltb s e.0 le in
      (sym (up_more rs ∙ ap (λ y. below_by y (up_to s rs)) p ∙ rw t refl), q ∙ sym (past_more rs ∙ ap (λ y. option_or y (past s (e ∷ []))) p ∙ rw t refl))

-- once a row above is seen, no later one counts
pub settled : (s : ℕ) (a : ℕ × ℤ) (xs ys : List (ℕ × ℤ)) → past s xs ≡ Some a → (up_to s (xs ++ ys) ≡ up_to s xs) × (past s (xs ++ ys) ≡ past s xs)
settled s a [] ys h = absurd (let z : ◌≡◌ {A = Option (ℕ × ℤ)} None (Some a) = h in cc)
settled s a (x ∷ xs) ys h = go (ltb s x.0) (settled s a xs ys) h
  where
    Same : Type 0
    Same = (up_to s (xs ++ ys) ≡ up_to s xs) × (past s (xs ++ ys) ≡ past s xs)

    go : (t : Bool) → (past s xs ≡ Some a → Same) → cond t (Some x) (past s xs) ≡ Some a
        → (cond t None (later (Some x) (up_to s (xs ++ ys))) ≡ cond t None (later (Some x) (up_to s xs))) × (cond t (Some x) (past s (xs ++ ys)) ≡ cond t (Some x) (past s xs))
    go true _ _ = (refl, refl)
    go false more h = (ap (later (Some x)) (more h).0, (more h).1)
