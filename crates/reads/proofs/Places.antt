-- A descent, block by block.
use Rattle.std.proofs.Common.{◌≡◌, ℕ, zero, suc, ◌<◌, ◌≤◌, ◌⊎◌, List, [], ◌∷◌, ◌++◌, length, take, drop, Some, None, Option, inl, inr, sym, refl, ap, ◌∙◌, subst, not-suc-le-zero, arith, append_assoc, append-nil}
use Rattle.std.proofs.ByRecursion.{All-append}
use Rattle.std.proofs.lemmas.Bool.{cases_lt}
use Rattle.std.proofs.lemmas.Option.{same_Some}
use Rattle.std.specs.Option.{option_or}
use Rattle.device.specs.Meaning.{Content}
use Rattle.page.specs.Block.{Block, block_in, level_of}
use Rattle.model.specs.TreeBlocks.{entries_in, Each}
use Rattle.reads.specs.Sound.{Valid, rows_in, rows_at, Sound, FullAt}
use Rattle.reads.specs.Descent.{child, child_before, Ends, Begins, Found}
use Rattle.reads.proofs.Children as kids
use Rattle.reads.proofs.Children.{inside, key, to, Kid, leaf, split, rows_more, rows_split, rows_before, rows_after}

module _ (c : ℕ → Content) where
  child_is : (es : List (ℕ × ℕ)) (i : ℕ) → i < length es → child es i ≡ Some (to c es i)
  child_is [] i h = absurd (not-suc-le-zero h)
  child_is (e ∷ r) zero h = refl
  child_is (e ∷ r) (suc i) h = child_is r i (omega arith)

  no_child : (es : List (ℕ × ℕ)) (i : ℕ) → length es ≤ i → child es i ≡ None
  no_child [] i h = refl
  no_child (e ∷ r) zero h = absurd (omega arith)
  no_child (e ∷ r) (suc i) h = no_child r i (omega arith)

  -- the rows before a place end with those of the child before it
  ends_take : (l : ℕ) (es : List (ℕ × ℕ)) (i : ℕ) → i < length es → Sound c (suc l) es → Ends c (child_before es i) (rows_in c (suc l) (take i es))
  ends_take l es zero h p = refl
  ends_take l es (suc i) h p =
      let k = kids.child c l es i (omega arith) p in
      let e : rows_in c (suc l) (take (suc i) es) ≡ rows_in c (suc l) (take i es) ++ rows_at c (to c es i) = rows_more c l es i (omega arith) ∙ ap (λ (z : List (ℕ × ℕ)). rows_in c (suc l) (take i es) ++ z) (sym k.rows) in
      rw (child_is es i (omega arith)) (k.full, (rows_in c (suc l) (take i es), e))

  -- the rows after a place begin with those of the child there
  begins_drop : (l : ℕ) (es : List (ℕ × ℕ)) (i : ℕ) → Sound c (suc l) es → (i < length es) ⊎ (length es ≤ i) → Begins c (child es i) (rows_in c (suc l) (drop i es))
  begins_drop l es i p (inl h) =
      let k = kids.child c l es i h p in
      let e : rows_in c (suc l) (drop i es) ≡ rows_at c (to c es i) ++ rows_in c (suc l) (drop (suc i) es) = first_of es i h ∙ ap (λ (z : List (ℕ × ℕ)). z ++ rows_in c (suc l) (drop (suc i) es)) (sym k.rows) in
      rw (child_is es i h) (k.full, (rows_in c (suc l) (drop (suc i) es), e))
    where
      first_of : (es : List (ℕ × ℕ)) (i : ℕ) → i < length es → rows_in c (suc l) (drop i es) ≡ rows_in c l (inside c (to c es i)) ++ rows_in c (suc l) (drop (suc i) es)
      first_of [] i h = absurd (not-suc-le-zero h)
      first_of (e ∷ r) zero h = refl
      first_of (e ∷ r) (suc i) h = first_of r i (omega arith)
  begins_drop l es i p (inr h) = rw (no_child es i h, none_left es i h) refl
    where
      none_left : (es : List (ℕ × ℕ)) (i : ℕ) → length es ≤ i → drop i es ≡ []
      none_left [] zero h = refl
      none_left [] (suc i) h = refl
      none_left (e ∷ r) zero h = absurd (omega arith)
      none_left (e ∷ r) (suc i) h = none_left r i (omega arith)

  ends_more : (left other : Option ℕ) (xs ys : List (ℕ × ℕ)) → Ends c other xs → Ends c left ys → Ends c (option_or left other) (xs ++ ys)
  ends_more None other xs ys a b = subst (Ends c other) (sym (append-nil xs) ∙ ap (λ (z : List (ℕ × ℕ)). xs ++ z) (sym b)) a
  ends_more (Some x) other xs ys a b = (b.0, (xs ++ b.1.0, ap (λ (z : List (ℕ × ℕ)). xs ++ z) b.1.1 ∙ sym (append_assoc xs b.1.0 (rows_at c x))))

  begins_more : (right other : Option ℕ) (xs ys : List (ℕ × ℕ)) → Begins c right xs → Begins c other ys → Begins c (option_or right other) (xs ++ ys)
  begins_more None other xs ys a b = subst (λ (z : List (ℕ × ℕ)). Begins c other (z ++ ys)) (sym a) b
  begins_more (Some x) other xs ys a b = (a.0, (a.1.0 ++ ys, ap (λ (z : List (ℕ × ℕ)). z ++ ys) a.1.1 ∙ append_assoc (rows_at c x) a.1.0 ys))

  around : (bs xs leaf ys zs : List (ℕ × ℕ)) → bs ++ ((xs ++ (leaf ++ ys)) ++ zs) ≡ (bs ++ xs) ++ (leaf ++ (ys ++ zs))
  around bs xs leaf ys zs =
      ap (λ (z : List (ℕ × ℕ)). bs ++ z) (append_assoc xs (leaf ++ ys) zs ∙ ap (λ (z : List (ℕ × ℕ)). xs ++ z) (append_assoc leaf ys zs)) ∙ sym (append_assoc bs xs (leaf ++ (ys ++ zs)))

  -- On the way from block x down to speed s, at a block of level n with entries es: its rows stand between rows below s, which end with
  -- those of the block on the left, and rows above s, which begin with those of the block on the right.
  pub record Way (x s n : ℕ) (es : List (ℕ × ℕ)) (left right : Option ℕ) : Type 0 where
    pub sound : Sound c n es
    pub before : List (ℕ × ℕ)
    pub after : List (ℕ × ℕ)
    pub cut : rows_at c x ≡ before ++ (rows_in c n es ++ after)
    pub low : Each (λ (r : ℕ × ℕ). r.0 < s) before
    pub high : Each (λ (r : ℕ × ℕ). s < r.0) after
    pub ends : Ends c left before
    pub begins : Begins c right after
    pub some : 1 ≤ length (entries_in (block_in (c x))) → 1 ≤ length es

  pub way_start : (x s : ℕ) (b : Block) → block_in (c x) ≡ Some b → Sound c b.level b.entries → Way x s b.level b.entries None None
  way_start x s b st p = record {
    sound = p;
    before = [];
    after = [];
    cut = rw st (sym (append-nil (rows_in c b.level b.entries)));
    low = tt;
    high = tt;
    ends = refl;
    begins = refl;
    some = rw st (λ h. h);
  }

  -- one level down, to the child d that covers the speed
  pub way_step : (x s n : ℕ) (es : List (ℕ × ℕ)) (left right : Option ℕ) (i : ℕ) (d : Block) → Way x s n es left right → 0 < n → i < length es
      → ((k : ℕ) → k < i → key c es (suc k) ≤ s) → (suc i < length es → s < key c es (suc i)) → block_in (c (to c es i)) ≡ Some d
      → Way x s d.level d.entries (option_or (child_before es i) left) (option_or (child es (suc i)) right) × (d.level < n)
  way_step x s zero es left right i d w u h past high st = absurd (omega (arith, u))
  way_step x s (suc l) es left right i d w u h past high st =
      let k = kids.child c l es i h w.sound in
      let bs = rows_in c (suc l) (take i es) in
      let ys = rows_in c (suc l) (drop (suc i) es) in
      subst (λ (d : Block). Way x s d.level d.entries (option_or (child_before es i) left) (option_or (child es (suc i)) right) × (d.level < suc l)) (same_Some (kids.block c l (to c es i)) d (sym k.stands ∙ st)) (
        record {
          sound = k.sound;
          before = w.before ++ bs;
          after = ys ++ w.after;
          cut = w.cut ∙ ap (λ (z : List (ℕ × ℕ)). w.before ++ (z ++ w.after)) (split c l es i h) ∙ around w.before bs (rows_in c l (inside c (to c es i))) ys w.after;
          low = All-append _ w.before bs w.low (rows_before c l s es i h w.sound past);
          high = All-append _ ys w.after (rows_after c l s es i h w.sound high) w.high;
          ends = ends_more (child_before es i) left w.before bs w.ends (ends_take l es i h w.sound);
          begins = begins_more (child es (suc i)) right ys w.after (begins_drop l es (suc i) w.sound (cases_lt (suc i) (length es))) w.begins;
          some = λ _. k.some;
        },
        omega arith,
      )

  pub way_end : (x s n : ℕ) (es : List (ℕ × ℕ)) (left right : Option ℕ) → n ≡ 0 → Way x s n es left right → Found c x s es left right
  way_end x s zero es left right e w = record {
    before = w.before;
    after = w.after;
    cut = w.cut ∙ ap (λ (z : List (ℕ × ℕ)). w.before ++ (z ++ w.after)) (leaf c es);
    low = w.low;
    high = w.high;
    ends = w.ends;
    begins = w.begins;
    valid = subst (Each Valid) (leaf c es) w.sound.valid;
    some = w.some;
  }
  way_end x s (suc l) es left right e w = absurd (omega (arith, e))

  pub some_entries : (n : ℕ) (es : List (ℕ × ℕ)) → 0 < n → Sound c n es → 1 ≤ length es
  some_entries zero es h p = absurd (omega arith)
  some_entries (suc l) es h p = omega (arith, p.enough)

  pub child_full : (n : ℕ) (es : List (ℕ × ℕ)) (i : ℕ) → 0 < n → i < length es → Sound c n es → FullAt c (to c es i) × (suc (level_of (block_in (c (to c es i)))) ≡ n)
  child_full zero es i u h p = absurd (omega arith)
  child_full (suc l) es i u h p = let k = kids.child c l es i h p in (k.full, ap (λ (b : Option Block). suc (level_of b)) k.stands)
