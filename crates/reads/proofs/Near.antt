-- The last row at or below a speed and the first above it, in rows that are cut where a descent comes to.
use Rattle.std.proofs.Common.{◌≡◌, ℕ, ◌<◌, ◌≤◌, ◌⊎◌, List, [], ◌∷◌, ◌++◌, length, cond, ltb, eqb, Some, None, Option, inl, inr, sym, refl, ap, ◌∙◌, subst, ⊎_elim, not-suc-le-zero, arith}
use Rattle.std.proofs.lemmas.Bool.{lt-ltb, le-ltb, ne_eqb, cases_lt}
use Rattle.std.proofs.lemmas.Option.{none-some}
use Rattle.std.specs.Option.{option_map, option_or}
use Rattle.device.specs.Meaning.{Content}
use Rattle.page.specs.Block.{Block, block_in}
use Rattle.tree.specs.Node.{map_e}
use Rattle.tree.specs.Reads.{look}
use Rattle.tree.proofs.Over.{cond_map}
use Rattle.table.specs.Angles.{later, up_to, past}
use Rattle.model.specs.TreeBlocks.{entries_in, Each}
use Rattle.reads.specs.Sound.{rows_in, rows_of_block, rows_at, FullAt}
use Rattle.reads.specs.Descent.{Ends, Begins, Found, Beside, rows_beside}
use Rattle.reads.proofs.Lists.{each_left, each_right}
use Rattle.reads.proofs.Children.{full_rows}

module _ {P : Type 0} (s : ℕ) where
  abbrev Below : List (ℕ × P) → Type 0
  Below xs = Each (λ (r : ℕ × P). r.0 < s) xs

  abbrev Above : List (ℕ × P) → Type 0
  Above xs = Each (λ (r : ℕ × P). s < r.0) xs

  pub later_none : (x : Option (ℕ × P)) → later None x ≡ x
  later_none None = refl
  later_none (Some y) = refl

  later_later : (x y z : Option (ℕ × P)) → later x (later y z) ≡ later (later x y) z
  later_later x None None = refl
  later_later x (Some y) None = refl
  later_later x None (Some z) = refl
  later_later x (Some y) (Some z) = refl

  pub up_split : (xs ys : List (ℕ × P)) → Below xs → up_to s (xs ++ ys) ≡ later (up_to s xs) (up_to s ys)
  up_split [] ys b = sym (later_none (up_to s ys))
  up_split (e ∷ r) ys b = rw (le-ltb s e.0 (omega (arith, b.0))) (ap (later (Some e)) (up_split r ys b.1) ∙ later_later (Some e) (up_to s r) (up_to s ys))

  pub up_none : (xs ys : List (ℕ × P)) → Above ys → up_to s (xs ++ ys) ≡ up_to s xs
  up_none [] [] a = refl
  up_none [] (e ∷ r) a = rw (lt-ltb s e.0 a.0)
  up_none (e ∷ r) ys a = ap (λ (z : Option (ℕ × P)). cond (ltb s e.0) None (later (Some e) z)) (up_none r ys a)

  pub up_some : (xs : List (ℕ × P)) → 1 ≤ length xs → Below xs → (e : ℕ × P) × (up_to s xs ≡ Some e)
  up_some [] h b = absurd (not-suc-le-zero h)
  up_some (e ∷ r) h b = rw (le-ltb s e.0 (omega (arith, b.0))) (go (up_to s r))
    where
      go : (o : Option (ℕ × P)) → (d : ℕ × P) × (later (Some e) o ≡ Some d)
      go None = (e, refl)
      go (Some d) = (d, refl)

  pub past_skip : (xs ys : List (ℕ × P)) → Below xs → past s (xs ++ ys) ≡ past s ys
  past_skip [] ys b = refl
  past_skip (e ∷ r) ys b = rw (le-ltb s e.0 (omega (arith, b.0))) (past_skip r ys b.1)

  pub past_split : (xs ys : List (ℕ × P)) → past s (xs ++ ys) ≡ option_or (past s xs) (past s ys)
  past_split [] ys = refl
  past_split (e ∷ r) ys = sym (cond_map (λ (z : Option (ℕ × P)). option_or z (past s ys)) (ltb s e.0) (Some e) (past s r) (Some e) (past s (r ++ ys)) refl (sym (past_split r ys)))

  pub past_some : (xs : List (ℕ × P)) → 1 ≤ length xs → Above xs → (e : ℕ × P) × (past s xs ≡ Some e)
  past_some [] h a = absurd (not-suc-le-zero h)
  past_some (e ∷ r) h a = (e, rw (lt-ltb s e.0 a.0) refl)

  pub look_skip : (xs ys : List (ℕ × P)) → Below xs → look s (xs ++ ys) ≡ look s ys
  look_skip [] ys b = refl
  look_skip (e ∷ r) ys b = rw (ne_eqb s e.0 (omega (arith, b.0))) (look_skip r ys b.1)

  pub look_cut : (xs ys : List (ℕ × P)) → Above ys → look s (xs ++ ys) ≡ look s xs
  look_cut [] [] a = refl
  look_cut [] (e ∷ r) a = rw (ne_eqb s e.0 (omega (arith, a.0))) (look_cut [] r a.1)
  look_cut (e ∷ r) ys a = ap (cond (eqb s e.0) (Some e.1)) (look_cut r ys a)

  pub both_sides : (xs : List (ℕ × P)) → Below xs → Above xs → xs ≡ []
  both_sides [] b a = refl
  both_sides (e ∷ r) b a = absurd (omega (arith, b.0, a.0))

option_or_none : {A : Type 0} (o : Option A) → option_or o None ≡ o
option_or_none None = refl
option_or_none (Some x) = refl

module _ {P Q : Type 0} (f : P → Q) (s : ℕ) where
  abbrev pub over : ℕ × P → ℕ × Q
  over e = (e.0, f e.1)

  pub look_map : (xs : List (ℕ × P)) → look s (map_e f xs) ≡ option_map f (look s xs)
  look_map [] = refl
  look_map (e ∷ r) = sym (cond_map (option_map f) (eqb s e.0) (Some e.1) (look s r) (Some (f e.1)) (look s (map_e f r)) refl (sym (look_map r)))

  later_map : (e : ℕ × P) (o : Option (ℕ × P)) → option_map over (later (Some e) o) ≡ later (Some (over e)) (option_map over o)
  later_map e None = refl
  later_map e (Some d) = refl

  pub up_map : (xs : List (ℕ × P)) → up_to s (map_e f xs) ≡ option_map over (up_to s xs)
  up_map [] = refl
  up_map (e ∷ r) =
      sym (cond_map (option_map over) (ltb s e.0) None (later (Some e) (up_to s r)) None (later (Some (over e)) (up_to s (map_e f r))) refl (later_map e (up_to s r) ∙ ap (later (Some (over e))) (sym (up_map r))))

  pub past_map : (xs : List (ℕ × P)) → past s (map_e f xs) ≡ option_map over (past s xs)
  past_map [] = refl
  past_map (e ∷ r) = sym (cond_map (option_map over) (ltb s e.0) (Some e) (past s r) (Some (over e)) (past s (map_e f r)) refl (sym (past_map r)))

module _ (c : ℕ → Content) (x s : ℕ) (found : List (ℕ × ℕ)) (left right : Option ℕ) (f : Found c x s found left right) where
  pub look_found : look s (rows_at c x) ≡ look s found
  look_found = ap (look s) f.cut ∙ look_skip s f.before (found ++ f.after) f.low ∙ look_cut s found f.after f.high

  pub up_found : up_to s (rows_at c x) ≡ later (up_to s f.before) (up_to s found)
  up_found = ap (up_to s) f.cut ∙ up_split s f.before (found ++ f.after) f.low ∙ ap (later (up_to s f.before)) (up_none s found f.after f.high)

  pub past_found : past s (rows_at c x) ≡ option_or (past s found) (past s f.after)
  past_found = ap (past s) f.cut ∙ past_skip s f.before (found ++ f.after) f.low ∙ past_split s found f.after

-- a block whose rows are all on one side of s
module _ (c : ℕ → Content) (x s : ℕ) (found : List (ℕ × ℕ)) (left right : Option ℕ) (f : Found c x s found left right) (full : FullAt c x) where
  filled : 1 ≤ length found
  filled = f.some (rw full.sound.stands full.some)

  module _ (low : Each (λ (r : ℕ × ℕ). r.0 < s) (rows_at c x)) where
    low_parts : Each (λ (r : ℕ × ℕ). r.0 < s) (f.before ++ (found ++ f.after))
    low_parts = subst (Each (λ (r : ℕ × ℕ). r.0 < s)) f.cut low

    found_low : Each (λ (r : ℕ × ℕ). r.0 < s) found
    found_low = each_left _ found f.after (each_right _ f.before (found ++ f.after) low_parts)

    none_after : f.after ≡ []
    none_after = both_sides s f.after (each_right _ found f.after (each_right _ f.before (found ++ f.after) low_parts)) f.high

    pub up_low : up_to s (rows_at c x) ≡ up_to s found
    up_low = let e = up_some s found filled found_low in up_found c x s found left right f ∙ rw e.1 refl

    pub past_low : past s (rows_at c x) ≡ past s found
    past_low = past_found c x s found left right f ∙ rw none_after (option_or_none (past s found))

  module _ (high : Each (λ (r : ℕ × ℕ). s < r.0) (rows_at c x)) where
    high_parts : Each (λ (r : ℕ × ℕ). s < r.0) (f.before ++ (found ++ f.after))
    high_parts = subst (Each (λ (r : ℕ × ℕ). s < r.0)) f.cut high

    found_high : Each (λ (r : ℕ × ℕ). s < r.0) found
    found_high = each_left _ found f.after (each_right _ f.before (found ++ f.after) high_parts)

    none_before : f.before ≡ []
    none_before = both_sides s f.before f.low (each_left _ f.before (found ++ f.after) high_parts)

    pub up_high : up_to s (rows_at c x) ≡ up_to s found
    up_high = up_found c x s found left right f ∙ rw none_before (later_none s (up_to s found))

    pub past_high : past s (rows_at c x) ≡ past s found
    past_high = let e = past_some s found filled found_high in past_found c x s found left right f ∙ rw e.1 refl

-- the nearest rows of the whole, by the leaf that a descent came to and the blocks beside the way
module _ (c : ℕ → Content) (x s : ℕ) (found : List (ℕ × ℕ)) (left right : Option ℕ) (f : Found c x s found left right) where
  up_ends : (o : Option ℕ) (xs : List (ℕ × ℕ)) → Each (λ (r : ℕ × ℕ). r.0 < s) xs → Ends c o xs → up_to s xs ≡ up_to s (rows_beside c o)
  up_ends None xs b e = ap (up_to s) e
  up_ends (Some y) xs b e =
      let low : Each (λ (r : ℕ × ℕ). r.0 < s) (e.1.0 ++ rows_at c y) = subst (Each (λ (r : ℕ × ℕ). r.0 < s)) e.1.1 b in
      let d = up_some s (rows_at c y) (full_rows c y e.0) (each_right _ e.1.0 (rows_at c y) low) in
      ap (up_to s) e.1.1 ∙ up_split s e.1.0 (rows_at c y) (each_left _ e.1.0 (rows_at c y) low) ∙ rw d.1 refl

  past_begins : (o : Option ℕ) (xs : List (ℕ × ℕ)) → Each (λ (r : ℕ × ℕ). s < r.0) xs → Begins c o xs → past s xs ≡ past s (rows_beside c o)
  past_begins None xs a e = ap (past s) e
  past_begins (Some y) xs a e =
      let high : Each (λ (r : ℕ × ℕ). s < r.0) (rows_at c y ++ e.1.0) = subst (Each (λ (r : ℕ × ℕ). s < r.0)) e.1.1 a in
      let d = past_some s (rows_at c y) (full_rows c y e.0) (each_left _ (rows_at c y) e.1.0 high) in
      ap (past s) e.1.1 ∙ past_split s (rows_at c y) e.1.0 ∙ rw d.1 refl

  pub up_whole : up_to s (rows_at c x) ≡ later (up_to s (rows_beside c left)) (up_to s found)
  up_whole = up_found c x s found left right f ∙ ap (λ (z : Option (ℕ × ℕ)). later z (up_to s found)) (up_ends left f.before f.low f.ends)

  pub past_whole : past s (rows_at c x) ≡ option_or (past s found) (past s (rows_beside c right))
  past_whole = past_found c x s found left right f ∙ ap (option_or (past s found)) (past_begins right f.after f.high f.begins)

  pub beside_left : Beside c s left
  beside_left = go left f.before f.low f.ends
    where
      go : (o : Option ℕ) (xs : List (ℕ × ℕ)) → Each (λ (r : ℕ × ℕ). r.0 < s) xs → Ends c o xs → Beside c s o
      go None xs b e = tt
      go (Some y) xs b e = (e.0, inl (each_right _ e.1.0 (rows_at c y) (subst (Each (λ (r : ℕ × ℕ). r.0 < s)) e.1.1 b)))

  pub beside_right : Beside c s right
  beside_right = go right f.after f.high f.begins
    where
      go : (o : Option ℕ) (xs : List (ℕ × ℕ)) → Each (λ (r : ℕ × ℕ). s < r.0) xs → Begins c o xs → Beside c s o
      go None xs a e = tt
      go (Some y) xs a e = (e.0, inr (each_left _ (rows_at c y) e.1.0 (subst (Each (λ (r : ℕ × ℕ). s < r.0)) e.1.1 a)))

-- the same with what f makes of the rows' values
module _ {Q : Type 0} (v : ℕ → Q) (c : ℕ → Content) (s : ℕ) where
  abbrev up : List (ℕ × ℕ) → Option (ℕ × Q)
  up xs = up_to s (map_e v xs)

  abbrev first : List (ℕ × ℕ) → Option (ℕ × Q)
  first xs = past s (map_e v xs)

  later_over : (a b : Option (ℕ × ℕ)) → option_map (over v s) (later a b) ≡ later (option_map (over v s) a) (option_map (over v s) b)
  later_over a None = refl
  later_over a (Some y) = refl

  or_over : (a b : Option (ℕ × ℕ)) → option_map (over v s) (option_or a b) ≡ option_or (option_map (over v s) a) (option_map (over v s) b)
  or_over None b = refl
  or_over (Some y) b = refl

  -- a block whose rows are all on one side
  pub near_up : (o : Option ℕ) (y : ℕ) (found : List (ℕ × ℕ)) (left right : Option ℕ) → o ≡ Some y → Beside c s o → Found c y s found left right → up found ≡ up (rows_beside c o)
  near_up o y found left right e b f =
      let d : Beside c s (Some y) = subst (Beside c s) e b in
      up_map v s found ∙ ap (option_map (over v s)) (go d.0 d.1) ∙ sym (up_map v s (rows_at c y)) ∙ ap (λ (z : Option ℕ). up (rows_beside c z)) (sym e)
    where
      go : FullAt c y → Each (λ (r : ℕ × ℕ). r.0 < s) (rows_at c y) ⊎ Each (λ (r : ℕ × ℕ). s < r.0) (rows_at c y) → up_to s found ≡ up_to s (rows_at c y)
      go q (inl low) = sym (up_low c y s found left right f q low)
      go q (inr high) = sym (up_high c y s found left right f q high)

  pub near_past : (o : Option ℕ) (y : ℕ) (found : List (ℕ × ℕ)) (left right : Option ℕ) → o ≡ Some y → Beside c s o → Found c y s found left right → first found ≡ first (rows_beside c o)
  near_past o y found left right e b f =
      let d : Beside c s (Some y) = subst (Beside c s) e b in
      past_map v s found ∙ ap (option_map (over v s)) (go d.0 d.1) ∙ sym (past_map v s (rows_at c y)) ∙ ap (λ (z : Option ℕ). first (rows_beside c z)) (sym e)
    where
      go : FullAt c y → Each (λ (r : ℕ × ℕ). r.0 < s) (rows_at c y) ⊎ Each (λ (r : ℕ × ℕ). s < r.0) (rows_at c y) → past s found ≡ past s (rows_at c y)
      go q (inl low) = sym (past_low c y s found left right f q low)
      go q (inr high) = sym (past_high c y s found left right f q high)

  module _ (x : ℕ) (found : List (ℕ × ℕ)) (left right : Option ℕ) (f : Found c x s found left right) where
    pub up_by : up (rows_at c x) ≡ later (up (rows_beside c left)) (up found)
    up_by = up_map v s (rows_at c x) ∙ ap (option_map (over v s)) (up_whole c x s found left right f) ∙ later_over (up_to s (rows_beside c left)) (up_to s found) ∙ rw (up_map v s (rows_beside c left), up_map v s found) refl

    pub past_by : first (rows_at c x) ≡ option_or (first found) (first (rows_beside c right))
    past_by = past_map v s (rows_at c x) ∙ ap (option_map (over v s)) (past_whole c x s found left right f) ∙ or_over (past s found) (past s (rows_beside c right)) ∙ rw (past_map v s (rows_beside c right), past_map v s found) refl

    none_found : length found ≤ 0 → rows_at c x ≡ []
    none_found h = go (block_in (c x)) f.some
      where
        go : (o : Option Block) → (1 ≤ length (entries_in o) → 1 ≤ length found) → rows_of_block c o ≡ []
        go None g = refl
        go (Some b) g = nothing b.level b.entries (λ k. omega (arith, g k, h))
          where
            nothing : (l : ℕ) (es : List (ℕ × ℕ)) → (1 ≤ length es → ⊥) → rows_in c l es ≡ []
            nothing l [] k = refl
            nothing l (e ∷ r) k = absurd (k (omega arith))

    -- where the leaf has no row at or below s, it has the first one above, if there is one; and the other way round
    pub past_alone : up found ≡ None → first (rows_at c x) ≡ first found
    past_alone h = go found h none_found past_by
      where
        go : (es : List (ℕ × ℕ)) → up es ≡ None → (length es ≤ 0 → rows_at c x ≡ []) → first (rows_at c x) ≡ option_or (first es) (first (rows_beside c right)) → first (rows_at c x) ≡ first es
        go [] h n e = ap first (n (omega arith))
        go (d ∷ r) h n e = e ∙ ⊎_elim (λ l. rw (lt-ltb s d.0 l) refl) (λ l. absurd (lost (up r) (rw (le-ltb s d.0 l) at h))) (cases_lt s d.0)
          where
            lost : (o : Option (ℕ × Q)) → later (Some (d.0, v d.1)) o ≡ None → ⊥
            lost None q = none-some (d.0, v d.1) (sym q)
            lost (Some z) q = none-some z (sym q)

    pub up_alone : first found ≡ None → up (rows_at c x) ≡ up found
    up_alone h = go found h none_found up_by
      where
        go : (es : List (ℕ × ℕ)) → first es ≡ None → (length es ≤ 0 → rows_at c x ≡ []) → up (rows_at c x) ≡ later (up (rows_beside c left)) (up es) → up (rows_at c x) ≡ up es
        go [] h n e = ap up (n (omega arith))
        go (d ∷ r) h n e = e ∙ ⊎_elim (λ l. absurd (none-some (d.0, v d.1) (sym (rw (lt-ltb s d.0 l) at h)))) (λ l. rw (le-ltb s d.0 l) (kept (up r))) (cases_lt s d.0)
          where
            kept : (o : Option (ℕ × Q)) → later (up (rows_beside c left)) (later (Some (d.0, v d.1)) o) ≡ later (Some (d.0, v d.1)) o
            kept None = refl
            kept (Some z) = refl
