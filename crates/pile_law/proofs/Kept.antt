-- What a cut's choice is at the top, by what it is below.
use Rattle.std.proofs.Common.{◌≡◌, ℕ, zero, suc, ◌≤◌, max, ◌&&◌, ◌||◌, Bool, true, false, List, [], ◌∷◌, sym, refl, ap, ◌∙◌, ap₂, arith}
use Rattle.device.specs.declared.LayerMark.{LayerMark}
use Rattle.device.specs.Meaning.{Content, words, damaged, Cell}
use Rattle.device.specs.Mapped.{mapped_cell}
use Rattle.device.specs.Cuts.{Choice, Choice.persisted, Choice.current, Choice.other, keeps_persisted, remains}
use Rattle.mirror.specs.Mirrored.{One, pick, mirrored_cell}
use Rattle.pile_law.specs.TwoPiles.{DamageCounts}

-- x is left of the cell by a choice that keeps the old content or does not
abbrev pub Kept : Bool → Cell → Content → Type 0
Kept β c x = (k : Choice) × (keeps_persisted k ≡ β) × (x ≡ remains c.mark k c)

-- a layer that shows each content by a function of it
module _ (f : Content → Content) where
  abbrev map_choice : Choice → Choice
  map_choice persisted = persisted
  map_choice current = current
  map_choice (other x) = other (f x)

  keeps_map : (k : Choice) → keeps_persisted (map_choice k) ≡ keeps_persisted k
  keeps_map persisted = refl
  keeps_map current = refl
  keeps_map (other x) = refl

  remains_map : (n : ℕ) (k : Choice) (c : Cell) → f (remains n k c) ≡ remains n (map_choice k) (mapped_cell f c)
  remains_map zero k c = refl
  remains_map (suc zero) persisted c = refl
  remains_map (suc zero) current c = refl
  remains_map (suc zero) (other x) c = refl
  remains_map (suc (suc n)) persisted c = refl
  remains_map (suc (suc n)) current c = refl
  remains_map (suc (suc n)) (other x) c = refl

  pub kept_map : (β : Bool) (c : Cell) (x : Content) → Kept β c x → Kept β (mapped_cell f c) (f x)
  kept_map β c x h = (map_choice h.0, keeps_map h.0 ∙ h.1, ap f h.2 ∙ remains_map c.mark h.0 c)

abbrev chosen : Choice → Content → Content → Content
chosen persisted p u = p
chosen current p u = u
chosen (other x) p u = u

one_chosen : (k : Choice) (c : Cell) → remains 1 k c ≡ chosen k c.persisted c.current
one_chosen persisted c = refl
one_chosen current c = refl
one_chosen (other x) c = refl

pub at_two : (n : ℕ) (c : Cell) (x : Content) → 2 ≤ n → remains n (other x) c ≡ x
at_two zero c x h = absurd (omega arith)
at_two (suc zero) c x h = absurd (omega arith)
at_two (suc (suc n)) c x h = refl

-- is a content not damaged?
abbrev pub is_words : Content → Bool
is_words (words ws) = true
is_words (damaged j) = false

-- a mirror's choice: a block written once is old if the first side kept it and shows it, or both kept it
abbrev picked : Content → Choice → Choice → Choice
picked (words a) persisted l = persisted
picked (words a) current l = current
picked (words a) (other x) l = current
picked (damaged j) persisted persisted = persisted
picked (damaged j) persisted current = current
picked (damaged j) persisted (other y) = current
picked (damaged j) current l = current
picked (damaged j) (other x) l = current

keeps_picked : (p : Content) (k l : Choice) → keeps_persisted (picked p k l) ≡ (keeps_persisted k && (is_words p || keeps_persisted l))
keeps_picked (words a) persisted l = refl
keeps_picked (words a) current l = refl
keeps_picked (words a) (other x) l = refl
keeps_picked (damaged j) persisted persisted = refl
keeps_picked (damaged j) persisted current = refl
keeps_picked (damaged j) persisted (other y) = refl
keeps_picked (damaged j) current l = refl
keeps_picked (damaged j) (other x) l = refl

module _ (q u v : Content) (ws : List ℕ) (e : u ≡ words ws) (f : v ≡ words ws) where
  front : (y : Content) → pick u y ≡ pick u v
  front y = ap (λ t. pick t y) e ∙ sym (ap (λ t. pick t v) e)

  back : (j : LayerMark) → pick (damaged j) v ≡ pick u v
  back j = ap (pick (damaged j)) f ∙ sym (ap (λ t. pick t v) e)

  once : (p : Content) (k l : Choice) → pick (chosen k p u) (chosen l q v) ≡ chosen (picked p k l) (pick p q) (pick u v)
  once (words a) persisted l = refl
  once (words a) current l = front (chosen l q v)
  once (words a) (other x) l = front (chosen l q v)
  once (damaged j) persisted persisted = refl
  once (damaged j) persisted current = back j
  once (damaged j) persisted (other y) = back j
  once (damaged j) current l = front (chosen l q v)
  once (damaged j) (other x) l = front (chosen l q v)

abbrev pub rest_bit : ℕ → Bool → Bool → Bool → Bool
rest_bit zero h β γ = β
rest_bit (suc zero) h β γ = β && (h || γ)
rest_bit (suc (suc n)) h β γ = false

module _ (c d : Cell) (same : c.mark ≡ d.mark) where
  -- both sides at the same point
  pub rest_kept : (1 ≤ c.mark → One c.current d.current) → (β γ : Bool) (x y : Content) → Kept β c x → Kept γ d y
      → Kept (rest_bit c.mark (is_words c.persisted) β γ) (mirrored_cell c d) (pick x y)
  rest_kept one β γ x y h i = go c.mark refl
    where
      go : (n : ℕ) → c.mark ≡ n → Kept (rest_bit n (is_words c.persisted) β γ) (mirrored_cell c d) (pick x y)
      go zero e =
          let m : max c.mark d.mark ≡ 0 = omega arith in
          (h.0, h.1, ap₂ pick (h.2 ∙ ap (λ n. remains n h.0 c) e) (i.2 ∙ ap (λ n. remains n i.0 d) (sym same ∙ e)) ∙ sym (ap (λ n. remains n h.0 (mirrored_cell c d)) m))
      go (suc zero) e =
          let m : max c.mark d.mark ≡ 1 = omega arith in
          let o = one (omega arith) in
          let r = picked c.persisted h.0 i.0 in (
            r,
            keeps_picked c.persisted h.0 i.0 ∙ ap₂ (λ a b. a && (is_words c.persisted || b)) h.1 i.1,
            ap₂ pick (h.2 ∙ ap (λ n. remains n h.0 c) e ∙ one_chosen h.0 c) (i.2 ∙ ap (λ n. remains n i.0 d) (sym same ∙ e) ∙ one_chosen i.0 d)
                ∙ once d.persisted c.current d.current o.0 o.1 o.2 c.persisted h.0 i.0
                ∙ sym (one_chosen r (mirrored_cell c d))
                ∙ sym (ap (λ n. remains n r (mirrored_cell c d)) m),
          )
      go (suc (suc n)) e = (other (pick x y), refl, sym (at_two (max c.mark d.mark) (mirrored_cell c d) (pick x y) (omega arith)))

pub damage_counts : DamageCounts
damage_counts persisted persisted e p q = let z : ◌≡◌ {A = Content} (words (2 ∷ [])) (words (1 ∷ [])) = p in cc
damage_counts persisted current e p q = let z : ◌≡◌ {A = Bool} true false = e in cc
damage_counts persisted (other x) e p q = let z : ◌≡◌ {A = Bool} true false = e in cc
damage_counts current persisted e p q = let z : ◌≡◌ {A = Bool} false true = e in cc
damage_counts (other x) persisted e p q = let z : ◌≡◌ {A = Bool} false true = e in cc
damage_counts current current e p q = let z : ◌≡◌ {A = Content} (words (1 ∷ [])) (words (2 ∷ [])) = q in cc
damage_counts current (other x) e p q = let z : ◌≡◌ {A = Content} (words (1 ∷ [])) (words (2 ∷ [])) = q in cc
damage_counts (other x) current e p q = let z : ◌≡◌ {A = Content} (words (1 ∷ [])) (words (2 ∷ [])) = q in cc
damage_counts (other x) (other y) e p q = let z : ◌≡◌ {A = Content} (words (1 ∷ [])) (words (2 ∷ [])) = q in cc
