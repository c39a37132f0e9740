-- The same choices at the bottoms of two piles come out at the top as one cut of two runs.
use Rattle.std.proofs.Common.{◌≡◌, ℕ, zero, suc, ◌-◌, ◌<◌, ◌≤◌, min, cond, ltb, ◌||◌, Bool, true, false, List, [], sym, refl, ap, ◌∙◌, subst, subst₂, ap₂, arith}
use Rattle.std.proofs.lemmas.List.{length-map}
use Rattle.device.specs.Meaning.{Meaning, Content, Cell, Lawful, Cut, raised, flushed, flushed_cell, blocks_of, cell_at, current_at, shown_of}
use Rattle.device.specs.Mapped.{mapped_cell}
use Rattle.device.specs.Cuts.{Op, Op.write, Op.flush, Choice, Choice.persisted, Choice.current, Choice.other, Cutting, Fits, keeps_persisted, apply, remains, cut}
use Rattle.device.proofs.Choices.{cuts_agree, cut_at, flush_at, blocks_apply}
use Rattle.check_layer.specs.Checked.{checked, checked_cell, checked_content, below_op}
use Rattle.quota.specs.Limited as quotas
use Rattle.quota.specs.Limited.{limited, limited_blocks, raised_content}
use Rattle.quota.proofs.Follows.{cell_limited}
use Rattle.mirror.specs.Mirrored.{mirrored, mirrored_blocks, mirrored_cell, pick, Alike}
use Rattle.mirror.proofs.Follows.{cell_mirrored}
use Rattle.piles.specs.Piles.{Pile, Pile.bottom, Pile.check, Pile.quota, Pile.mirror, shows, Built, PerBottom, on, if_done, part, whole, of_sides, counts, counted, Accepts, Cuts, anew}
use Rattle.piles.proofs.Devices.{check_accepts, quota_accepts, first_accepts, second_accepts, apply_lawful, width_apply, shows_whole, built_whole}
use Rattle.piles.proofs.Rise.{Shape, made, rest, flushes, in_write, in_flush, not_begun, all_flushed}
use Rattle.pile_law.specs.TwoPiles.{KinBlock, KinPile, SameCall, cut_bottoms, Fitting, SameChoices, OneCut, Slots, SameRises}
use Rattle.pile_law.proofs.Kept.{Kept, kept_map, is_words, rest_bit, rest_kept}
use Rattle.pile_law.proofs.Kin.{kin_words, cell_checked, blocks_checked, kin_shows, kin_whole, KinChoice, KinCuts, kin_bottoms, kin_anew}
use Rattle.pile_law.proofs.Late.{same_cut, late_write, late_flush, cut_in_write, cut_in_flush, kin_same, kin_in_write, kin_in_flush}

-- both runs' choices keep the old content, or neither does
abbrev Both : Cell → Cell → Content → Content → Type 0
Both c d x y = (β : Bool) × Kept β c x × Kept β d y

both_moved : {c c' d d' : Cell} {x x' y y' : Content} → c' ≡ c → d' ≡ d → x' ≡ x → y' ≡ y → Both c d x y → Both c' d' x' y'
both_moved e f g h b = (b.0, subst₂ (Kept b.0) (sym e) (sym g) b.1, subst₂ (Kept b.0) (sym f) (sym h) b.2)

-- the pile that is built anew over what a cut leaves
abbrev left_by : PerBottom Cutting → Pile → Pile
left_by K p = anew (cut_bottoms K p)

-- one layer in one run: what is left of a block
module _ (b : ℕ) (m : Meaning) (r : Pile) (u : Built r) (z : Shape m (shows r)) (h : b < blocks_of m) where
  check_left : current_at (shows (check (whole flush r))) b ≡ checked_content (m.width - 1) (current_at (shows r) b)
  check_left =
      ap (λ x. current_at (checked x) b) (flushes r u)
      ∙ ap (λ (c : Cell). c.current) (cell_checked (flushed (shows r)) b (omega (arith, z.blocks, length-map (shows r).cells flushed_cell)))
      ∙ ap (λ (c : Cell). checked_content ((shows r).width - 1) c.current) (flush_at (shows r) b)
      ∙ ap (λ w. checked_content (w - 1) (current_at (shows r) b)) z.width

  quota_left : (n : ℕ) (w : quotas.Allowed n (shown_of m)) → b < n → current_at (shows (quota n (whole flush r))) b ≡ raised_content (current_at (shows r) b)
  quota_left n w i =
      ap (λ x. current_at (limited n x) b) (flushes r u)
      ∙ ap (λ (c : Cell). c.current) (cell_limited n (flushed (shows r)) (omega (arith, quotas.enough n m w, z.blocks, length-map (shows r).cells flushed_cell)) b i)
      ∙ ap (λ (c : Cell). raised_content c.current) (flush_at (shows r) b)

  mirror_left : (t : Pile) → Built t → current_at (shows (mirror (whole flush r) (whole flush t))) b ≡ pick (current_at (shows r) b) (current_at (shows t) b)
  mirror_left t v =
      ap₂ (λ x y. current_at (mirrored x y) b) (flushes r u) (flushes t v)
      ∙ ap (λ (c : Cell). c.current) (cell_mirrored (flushed (shows r)) (flushed (shows t)) b (omega (arith, z.blocks, length-map (shows r).cells flushed_cell)))
      ∙ ap₂ (λ (c d : Cell). pick c.current d.current) (flush_at (shows r) b) (flush_at (shows t) b)

both_map : (f : Content → Content) (c d : Cell) (x y : Content) → Both c d x y → Both (mapped_cell f c) (mapped_cell f d) (f x) (f y)
both_map f c d x y h = (h.0, kept_map f h.0 c x h.1, kept_map f h.0 d y h.2)

-- a mirror in both runs
module _ (b n : ℕ) (m m₂ r r₂ : Meaning) (h : b < blocks_of m) (a : Alike m r) (a₂ : Alike m₂ r₂) (k : KinBlock b n m m₂) where
  h₂ : b < blocks_of m₂
  h₂ = omega (arith, k.blocks)

  mirror_both : {x x₂ y y₂ : Content} → Both (cell_at m b) (cell_at m₂ b) x x₂ → Both (cell_at r b) (cell_at r₂ b) y y₂
      → Both (cell_at (mirrored m r) b) (cell_at (mirrored m₂ r₂) b) (pick x y) (pick x₂ y₂)
  mirror_both {x} {x₂} {y} {y₂} i j =
      let c = cell_at m b in
      let c₂ = cell_at m₂ b in
      let e : rest_bit c₂.mark (is_words c₂.persisted) i.0 j.0 ≡ rest_bit c.mark (is_words c.persisted) i.0 j.0
      = ap₂ (λ n w. rest_bit n w i.0 j.0) (sym k.cell.mark) (sym (kin_words m.width n c.persisted c₂.persisted k.cell.persisted)) in
      both_moved (cell_mirrored m r b h) (cell_mirrored m₂ r₂ b h₂) refl refl (
        rest_bit c.mark (is_words c.persisted) i.0 j.0,
        rest_kept c (cell_at r b) (a.marks b h) (a.currents b h) i.0 j.0 x y i.1 j.1,
        subst (λ β. Kept β (mirrored_cell c₂ (cell_at r₂ b)) (pick x₂ y₂)) e (rest_kept c₂ (cell_at r₂ b) (a₂.marks b h₂) (a₂.currents b h₂) i.0 j.0 x₂ y₂ i.2 j.2),
      )

-- choices of one kind keep the old content in both runs or in neither
kin_keeps : (w n : ℕ) (k k₂ : Choice) → KinChoice w n k k₂ → keeps_persisted k₂ ≡ keeps_persisted k
kin_keeps w n persisted persisted e = refl
kin_keeps w n current current e = refl
kin_keeps w n (other x) (other y) e = refl
kin_keeps w n persisted current e = absurd e
kin_keeps w n persisted (other y) e = absurd e
kin_keeps w n current persisted e = absurd e
kin_keeps w n current (other y) e = absurd e
kin_keeps w n (other x) persisted e = absurd e
kin_keeps w n (other x) current e = absurd e

-- the choice at the top, layer by layer
joint : (b n : ℕ) (p p₂ : Pile) (K K₂ : PerBottom Cutting) → Built p → Built p₂ → b < blocks_of (shows p) → KinPile b n p p₂
    → Cuts p (cut_bottoms K p) → Cuts p₂ (cut_bottoms K₂ p₂) → KinCuts b n K K₂ p
    → Both (cell_at (shows p) b) (cell_at (shows p₂) b) (current_at (shows (left_by K p)) b) (current_at (shows (left_by K₂ p₂)) b)
joint b n (bottom m) (bottom m₂) K K₂ u v h x c c₂ e = (
  keeps_persisted ((K []).choice b),
  ((K []).choice b, refl, ap (λ (c : Cell). c.current) (cut_at (K []) m b)),
  ((K₂ []).choice b, kin_keeps m.width n ((K []).choice b) ((K₂ []).choice b) e.choice, ap (λ (c : Cell). c.current) (cut_at (K₂ []) m₂ b)),
)
joint b n (check p) (check q) K K₂ u v h x c c₂ e =
    let m = shows p in
    let m₂ = shows q in
    let h' : b < blocks_of m = omega (arith, blocks_checked m) in
    let w = kin_shows b (suc n) p q u.0 v.0 h' x in
    let h₂ : b < blocks_of m₂ = omega (arith, w.blocks) in
    let i = joint b (suc n) p q K K₂ u.0 v.0 h' x c c₂ e in
    let r = left_by K p in
    let r₂ = left_by K₂ q in
    let z = made p (cut_bottoms K p) u.0 c in
    let z₂ = made q (cut_bottoms K₂ q) v.0 c₂ in
    both_moved
    (cell_checked m b h')
    (cell_checked m₂ b h₂ ∙ ap (λ w. checked_cell (w - 1) (cell_at m₂ b)) (sym w.width))
    (check_left b m r z.0 z.1 h')
    (check_left b m₂ r₂ z₂.0 z₂.1 h₂ ∙ ap (λ w. checked_content (w - 1) (current_at (shows r₂) b)) (sym w.width))
    (both_map (checked_content (m.width - 1)) (cell_at m b) (cell_at m₂ b) (current_at (shows r) b) (current_at (shows r₂) b) i)
joint b n (quota l p) (quota j q) K K₂ u v h x c c₂ e =
    let m = shows p in
    let m₂ = shows q in
    let few : l ≤ blocks_of m = quotas.enough l m u.1 in
    let b< : b < l = omega (arith, limited_blocks l m few) in
    let h' : b < blocks_of m = omega (arith, few) in
    let w = kin_shows b n p q u.0 v.0 h' x.1 in
    let h₂ : b < blocks_of m₂ = omega (arith, w.blocks) in
    let b<₂ : b < j = omega (arith, x.0) in
    let i = joint b n p q K K₂ u.0 v.0 h' x.1 c.1 c₂.1 e in
    let r = left_by K p in
    let r₂ = left_by K₂ q in
    let z = made p (cut_bottoms K p) u.0 c.1 in
    let z₂ = made q (cut_bottoms K₂ q) v.0 c₂.1 in
    both_moved (cell_limited l m few b b<) (cell_limited j m₂ (quotas.enough j m₂ v.1) b b<₂) (quota_left b m r z.0 z.1 h' l u.1 b<) (quota_left b m₂ r₂ z₂.0 z₂.1 h₂ j v.1 b<₂)
    (both_map raised_content (cell_at m b) (cell_at m₂ b) (current_at (shows r) b) (current_at (shows r₂) b) i)
joint b n (mirror p q) (mirror p₂ q₂) K K₂ u v h x c c₂ e =
    let m = shows p in
    let m₂ = shows p₂ in
    let r = shows q in
    let r₂ = shows q₂ in
    let h' : b < blocks_of m = omega (arith, mirrored_blocks m r) in
    let w = kin_shows b n p p₂ u.0 v.0 h' x.0 in
    let h₂ : b < blocks_of m₂ = omega (arith, w.blocks) in
    let i = joint b n p p₂ (on false K) (on false K₂) u.0 v.0 h' x.0 c.0 c₂.0 e.0 in
    let j = joint b n q q₂ (on true K) (on true K₂) u.1 v.1 (omega (arith, u.2.shape.0)) x.1 c.1 c₂.1 e.1 in
    let z = made p (cut_bottoms (on false K) p) u.0 c.0 in
    let z₂ = made p₂ (cut_bottoms (on false K₂) p₂) v.0 c₂.0 in
    let y = made q (cut_bottoms (on true K) q) u.1 c.1 in
    let y₂ = made q₂ (cut_bottoms (on true K₂) q₂) v.1 c₂.1 in
    both_moved {c = cell_at (mirrored m r) b} {d = cell_at (mirrored m₂ r₂) b} refl refl
    (mirror_left b m (left_by (on false K) p) z.0 z.1 h' (left_by (on true K) q) y.0)
    (mirror_left b m₂ (left_by (on false K₂) p₂) z₂.0 z₂.1 h₂ (left_by (on true K₂) q₂) y₂.0)
    (mirror_both b n m m₂ r r₂ h' u.2 v.2 w i j)
joint b n p p₂ K K₂ u v h x c c₂ e = absurd x

-- the writes left, and the layer that sets them
record SameLeft (m n : Meaning) : Type 0 where
  pub left : m.left ≡ n.left
  pub left_mark : m.left_mark ≡ n.left_mark

left_check : (m n : Meaning) → SameLeft m n → SameLeft (checked m) (checked n)
left_check m n e = record { left = e.left; left_mark = ap raised e.left_mark }

left_quota : (i j : ℕ) (m n : Meaning) → SameLeft m n → SameLeft (limited i m) (limited j n)
left_quota i j m n e = record { left = e.left; left_mark = ap raised e.left_mark }

left_mirror : (m n r s : Meaning) → SameLeft m r → SameLeft n s → SameLeft (mirrored m n) (mirrored r s)
left_mirror m n r s e f = record {
  left = ap₂ min e.left f.left;
  left_mark = ap raised (λ i. cond (ltb (f.left i) (e.left i)) (f.left_mark i) (e.left_mark i));
}

-- the layers flush what is below, and that leaves as many writes
flush_left : (p q : Pile) → SameLeft (shows p) (shows q) → Built p → Built q → SameLeft (shows (whole flush p)) (shows (whole flush q))
flush_left p q e u v = subst₂ SameLeft (sym (flushes p u)) (sym (flushes q v)) (record { left = e.left; left_mark = e.left_mark })

same_left : (b n : ℕ) (K K₂ : PerBottom Cutting) (p q : Pile) → Built p → Built q → Cuts p (cut_bottoms K p) → Cuts q (cut_bottoms K₂ q) → KinCuts b n K K₂ p → KinPile b n p q
    → SameLeft (shows (left_by K p)) (shows (left_by K₂ q))
same_left b n K K₂ (bottom m) (bottom m₂) u v c d e x = record { left = e.left; left_mark = e.left_mark }
same_left b n K K₂ (check p) (check q) u v c d e x =
    left_check (shows (whole flush (left_by K p))) (shows (whole flush (left_by K₂ q)))
    (flush_left (left_by K p) (left_by K₂ q) (same_left b (suc n) K K₂ p q u.0 v.0 c d e x) (made p (cut_bottoms K p) u.0 c).0 (made q (cut_bottoms K₂ q) v.0 d).0)
same_left b n K K₂ (quota i p) (quota j q) u v c d e x =
    left_quota i j (shows (whole flush (left_by K p))) (shows (whole flush (left_by K₂ q)))
    (flush_left (left_by K p) (left_by K₂ q) (same_left b n K K₂ p q u.0 v.0 c.1 d.1 e x.1) (made p (cut_bottoms K p) u.0 c.1).0 (made q (cut_bottoms K₂ q) v.0 d.1).0)
same_left b n K K₂ (mirror p q) (mirror p₂ q₂) u v c d e x =
    let r = left_by (on false K) p in
    let s = left_by (on false K₂) p₂ in
    let t = left_by (on true K) q in
    let w = left_by (on true K₂) q₂ in
    left_mirror (shows (whole flush r)) (shows (whole flush t)) (shows (whole flush s)) (shows (whole flush w))
    (flush_left r s (same_left b n (on false K) (on false K₂) p p₂ u.0 v.0 c.0 d.0 e.0 x.0) (made p (cut_bottoms (on false K) p) u.0 c.0).0 (made p₂ (cut_bottoms (on false K₂) p₂) v.0 d.0).0)
    (flush_left t w (same_left b n (on true K) (on true K₂) q q₂ u.1 v.1 c.1 d.1 e.1 x.1) (made q (cut_bottoms (on true K) q) u.1 c.1).0 (made q₂ (cut_bottoms (on true K₂) q₂) v.1 d.1).0)
same_left b n K K₂ p q u v c d e x = absurd x

-- A cut with other choices for the slots that come to the same.
over : Choice → Choice → (ℕ → Choice) → ℕ → Choice
over a c f zero = a
over a c f (suc zero) = c
over a c f (suc (suc b)) = f (suc (suc b))

module _ (m n : Meaning) (κ : Cutting) (e : n ≡ cut κ m) (β γ : Bool) (a : Kept β (cell_at m 0) (current_at n 0)) (c : Kept γ (cell_at m 1) (current_at n 1)) where
  slotted : Cutting
  slotted = record { choice = over a.0 c.0 κ.choice; left = n.left; left_mark = n.left_mark }

  left_of : (b : ℕ) → current_at n b ≡ remains (cell_at m b).mark (κ.choice b) (cell_at m b)
  left_of b = ap (λ x. current_at x b) e ∙ ap (λ (c : Cell). c.current) (cut_at κ m b)

  slotted_cut : n ≡ cut slotted m
  unfolding slotted over
  slotted_cut = e ∙ same_cut m m κ slotted refl refl (sym (ap (λ x. x.left) e)) (sym (ap (λ x. x.left_mark) e)) (λ b h. sym (at b))
    where
      at : (b : ℕ) → remains (cell_at m b).mark (over a.0 c.0 κ.choice b) (cell_at m b) ≡ remains (cell_at m b).mark (κ.choice b) (cell_at m b)
      at zero = sym a.2 ∙ left_of 0
      at (suc zero) = sym c.2 ∙ left_of 1
      at (suc (suc b)) = refl

slots_same : (f g : ℕ → Choice) → keeps_persisted (f 0) ≡ keeps_persisted (g 0) → keeps_persisted (f 1) ≡ keeps_persisted (g 1) → (b : ℕ) → b < 2 → keeps_persisted (f b) ≡ keeps_persisted (g b)
slots_same f g p q zero h = p
slots_same f g p q (suc zero) h = q
slots_same f g p q (suc (suc b)) h = absurd (omega arith)

one_cut : (m m₂ n n₂ : Meaning) → (κ : Cutting) → n ≡ cut κ m → (κ₂ : Cutting) → n₂ ≡ cut κ₂ m₂ → SameLeft n n₂
    → Both (cell_at m 0) (cell_at m₂ 0) (current_at n 0) (current_at n₂ 0)
    → Both (cell_at m 1) (cell_at m₂ 1) (current_at n 1) (current_at n₂ 1)
    → OneCut m m₂ n n₂
unfolding slotted over
one_cut m m₂ n n₂ κ e κ₂ e₂ l i j = record {
  first = slotted m n κ e i.0 j.0 i.1 j.1;
  second = slotted m₂ n₂ κ₂ e₂ i.0 j.0 i.2 j.2;
  first_cut = slotted_cut m n κ e i.0 j.0 i.1 j.1;
  second_cut = slotted_cut m₂ n₂ κ₂ e₂ i.0 j.0 i.2 j.2;
  same = record {
    slots = slots_same (over i.1.0 j.1.0 κ.choice) (over i.2.0 j.2.0 κ₂.choice) (i.1.1 ∙ sym i.2.1) (j.1.1 ∙ sym j.2.1);
    left = l.left;
    left_mark = l.left_mark;
  };
}

-- two cuts of two piles at rest
abbrev pub OneLeft : Meaning → Meaning → Pile → Pile → Type 0
OneLeft m m₂ q q₂ = OneCut m m₂ (shows (anew q)) (shows (anew q₂)) × Slots (anew q) (anew q₂)

at_rest : (p p₂ : Pile) (K K₂ : PerBottom Cutting) → Built p → Built p₂ → 2 ≤ blocks_of (shows p) → Slots p p₂ → Cuts p (cut_bottoms K p) → Cuts p₂ (cut_bottoms K₂ p₂)
    → ((b : ℕ) → b < 2 → KinCuts b 0 K K₂ p) → OneLeft (shows p) (shows p₂) (cut_bottoms K p) (cut_bottoms K₂ p₂)
at_rest p p₂ K K₂ u v two x c c₂ e =
    let q = cut_bottoms K p in
    let q₂ = cut_bottoms K₂ p₂ in
    let κ = cuts_agree.1 (shows p) (shows (anew q)) (rest p q u c) in
    let κ₂ = cuts_agree.1 (shows p₂) (shows (anew q₂)) (rest p₂ q₂ v c₂) in
    let top : (b : ℕ) → b < 2 → Both (cell_at (shows p) b) (cell_at (shows p₂) b) (current_at (shows (anew q)) b) (current_at (shows (anew q₂)) b)
    = λ b h. joint b 0 p p₂ K K₂ u v (omega (arith, two)) (x b h) c c₂ (e b h) in (
      one_cut (shows p) (shows p₂) (shows (anew q)) (shows (anew q₂)) κ.0 κ.2 κ₂.0 κ₂.2
          (same_left 0 0 K K₂ p p₂ u v c c₂ (e 0 (omega arith)) (x 0 (omega arith))) (top 0 (omega arith)) (top 1 (omega arith)),
      (λ b h. kin_anew b 0 q q₂ (kin_bottoms b 0 K K₂ p p₂ (e b h) (x b h))),
    )

-- what fitting choices leave of the bottoms is a cut of them
fitting_bottom : (o : Op) (d : Bool) (κ : Cutting) (m : Meaning) → Lawful m → Accepts m o → ((b : ℕ) → Fits m.width (κ.choice b)) → κ.left ≤ 4294967295 → κ.left_mark.depth ≤ 255 → Cut (if_done d o m) (cut κ (if_done d o m))
fitting_bottom o false κ m l a f h i = cuts_agree.0 κ m l f h i
fitting_bottom o true κ m l a f h i = cuts_agree.0 κ (apply o m) (apply_lawful o m a l) (λ b. subst (λ w. Fits w (κ.choice b)) (sym (width_apply o m)) (f b)) h i

pub fitting : (o : Op) (d : PerBottom Bool) (K : PerBottom Cutting) (p : Pile) → Built p → Accepts (shows p) o → Fitting K p → Cuts (part o d p) (cut_bottoms K (part o d p))
fitting o d K (bottom m) u a f = fitting_bottom o (d []) (K []) m u a f.0 f.1 f.2
fitting o d K (check p) u a f = fitting (below_op o) d K p u.0 (check_accepts (shows p) u.1 o a) f
fitting o d K (quota n p) u a f = (refl, fitting o d K p u.0 (quota_accepts n (shows p) u.1 o a) f)
fitting o d K (mirror p q) u a f = (
  fitting o (on false d) (on false K) p u.0 (first_accepts (shows p) (shows q) u.2 o a) f.0,
  fitting o (on true d) (on true K) q u.1 (second_accepts (shows p) (shows q) u.2 o a) f.1,
)

-- both runs' calls count as done or neither does
same_counts : (b n : ℕ) (o : Op) (d : PerBottom Bool) (p p₂ : Pile) → KinPile b n p p₂ → counts o d p₂ ≡ counts o d p
same_counts b n o d (bottom m) (bottom m₂) x = refl
same_counts b n o d (check p) (check q) x = same_counts b (suc n) o d p q x
same_counts b n o d (quota i p) (quota j q) x = same_counts b n o d p q x.1
same_counts b n o d (mirror p q) (mirror r s) x = ap₂ (of_sides o) (same_counts b n o (on false d) p r x.0) (same_counts b n o (on true d) q s x.1)
same_counts b n o d p q x = absurd x

counts_writes : (b x : ℕ) (us vs : List ℕ) (d : PerBottom Bool) (p : Pile) → counts (write b us) d p ≡ counts (write x vs) d p
counts_writes b x us vs d (bottom m) = refl
counts_writes b x us vs d (check p) = counts_writes b x us vs d p
counts_writes b x us vs d (quota n p) = counts_writes b x us vs d p
counts_writes b x us vs d (mirror p q) = ap₂ (λ a c. a || c) (counts_writes b x us vs (on false d) p) (counts_writes b x us vs (on true d) q)

pub same_count : (b n : ℕ) (o o₂ : Op) (d : PerBottom Bool) (p p₂ : Pile) → KinPile b n p p₂ → SameCall b n o o₂ → counts o₂ d p₂ ≡ counts o d p
same_count b n (write x us) (write y vs) d p p₂ k s = same_counts b n (write y vs) d p p₂ k ∙ counts_writes y x vs us d p
same_count b n flush flush d p p₂ k s = same_counts b n flush d p p₂ k
same_count b n (write x us) flush d p p₂ k s = absurd s
same_count b n flush (write y vs) d p p₂ k s = absurd s

-- two runs at a moment of a call
module _ (p p₂ : Pile) (d : PerBottom Bool) (K K₂ : PerBottom Cutting) (u : Built p) (v : Built p₂) (two : 2 ≤ blocks_of (shows p)) (x : Slots p p₂)
    (f : Fitting K p) (f₂ : Fitting K₂ p₂) (e : (s : List Bool) → SameChoices (K s) (K₂ s)) where
  -- the cut piles
  abbrev halves : Op → Op → Meaning → Meaning → Type 0
  halves o o₂ m m₂ = OneLeft m m₂ (cut_bottoms K (part o d p)) (cut_bottoms K₂ (part o₂ d p₂))

  -- no bottom has done its part, or all have
  nowhere : (o o₂ : Op) → Accepts (shows p) o → Accepts (shows p₂) o₂ → part o d p ≡ p → part o₂ d p₂ ≡ p₂ → halves o o₂ (shows p) (shows p₂)
  nowhere o o₂ a a₂ i i₂ =
      let c = subst (λ y. Cuts y (cut_bottoms K y)) i (fitting o d K p u a f) in
      let c₂ = subst (λ y. Cuts y (cut_bottoms K₂ y)) i₂ (fitting o₂ d K₂ p₂ v a₂ f₂) in
      subst₂ (λ y y₂. OneLeft (shows p) (shows p₂) (cut_bottoms K y) (cut_bottoms K₂ y₂)) (sym i) (sym i₂)
      (at_rest p p₂ K K₂ u v two x c c₂ (λ b h. kin_same b 0 K K₂ p h e))

  -- after a call of both runs
  module _ (o o₂ : Op) (a : Accepts (shows p) o) (a₂ : Accepts (shows p₂) o₂) (s : (b : ℕ) → b < 2 → SameCall b 0 o o₂) where
    later : (L L₂ : PerBottom Cutting) → ((b : ℕ) → b < 2 → KinCuts b 0 L L₂ (whole o p)) → Cuts (whole o p) (cut_bottoms L (whole o p)) → Cuts (whole o₂ p₂) (cut_bottoms L₂ (whole o₂ p₂))
        → OneLeft (apply o (shows p)) (apply o₂ (shows p₂)) (cut_bottoms L (whole o p)) (cut_bottoms L₂ (whole o₂ p₂))
    later L L₂ k c c₂ =
        let i = shows_whole o p u a in
        let i₂ = shows_whole o₂ p₂ v a₂ in
        subst₂ (λ m m₂. OneLeft m m₂ (cut_bottoms L (whole o p)) (cut_bottoms L₂ (whole o₂ p₂))) i i₂
        (at_rest (whole o p) (whole o₂ p₂) L L₂ (built_whole o p u a) (built_whole o₂ p₂ v a₂)
        (omega (arith, two, ap (λ (m : Meaning). blocks_of m) i, blocks_apply o (shows p)))
        (λ b h. kin_whole b 0 p p₂ o o₂ u v (omega (arith, two)) (x b h) a a₂ (s b h)) c c₂ k)

  in_writes : (b c : ℕ) (us vs : List ℕ) → Accepts (shows p) (write b us) → Accepts (shows p₂) (write c vs) → ((i : ℕ) → i < 2 → SameCall i 0 (write b us) (write c vs))
      → halves (write b us) (write c vs) (apply (write b us) (shows p)) (apply (write c vs) (shows p₂))
  in_writes b c us vs a a₂ s =
      let i = cut_in_write b us d p K u a in
      let i₂ = cut_in_write c vs d p₂ K₂ v a₂ in
      let k = subst (Cuts (whole (write b us) p)) i (in_write b us d p (cut_bottoms K (part (write b us) d p)) u (fitting (write b us) d K p u a f)) in
      let k₂ = subst (Cuts (whole (write c vs) p₂)) i₂ (in_write c vs d p₂ (cut_bottoms K₂ (part (write c vs) d p₂)) v (fitting (write c vs) d K₂ p₂ v a₂ f₂)) in
      subst₂ (OneLeft (apply (write b us) (shows p)) (apply (write c vs) (shows p₂))) (sym i) (sym i₂)
      (later (write b us) (write c vs) a a₂ s (late_write b d p K) (late_write c d p₂ K₂) (λ j h. kin_in_write j 0 b c us vs d p p₂ K K₂ h (x j h) (s j h) e) k k₂)

  in_flushes : halves flush flush (shows p) (shows p₂)
  in_flushes =
      let i = cut_in_flush d p K in
      let i₂ = cut_in_flush d p₂ K₂ in
      let k = subst (Cuts p) i (in_flush d p (cut_bottoms K (part flush d p)) u (fitting flush d K p u tt f)) in
      let k₂ = subst (Cuts p₂) i₂ (in_flush d p₂ (cut_bottoms K₂ (part flush d p₂)) v (fitting flush d K₂ p₂ v tt f₂)) in
      subst₂ (OneLeft (shows p) (shows p₂)) (sym i) (sym i₂)
      (at_rest p p₂ (late_flush d p K) (late_flush d p₂ K₂) u v two x k k₂ (λ j h. kin_in_flush j 0 d p p₂ K K₂ h (x j h) e))

  all_flushes : counts flush d p ≡ true → halves flush flush (flushed (shows p)) (flushed (shows p₂))
  all_flushes all =
      let i = all_flushed d p all in
      let i₂ = all_flushed d p₂ (same_counts 0 0 flush d p p₂ (x 0 (omega arith)) ∙ all) in
      let c = subst (λ y. Cuts y (cut_bottoms K y)) i (fitting flush d K p u tt f) in
      let c₂ = subst (λ y. Cuts y (cut_bottoms K₂ y)) i₂ (fitting flush d K₂ p₂ v tt f₂) in
      subst₂ (λ y y₂. OneLeft (flushed (shows p)) (flushed (shows p₂)) (cut_bottoms K y) (cut_bottoms K₂ y₂)) (sym i) (sym i₂)
      (later flush flush tt tt (λ b h. tt) K K₂ (λ b h. kin_same b 0 K K₂ (whole flush p) h e) c c₂)

  moments : (o o₂ : Op) → Accepts (shows p) o → Accepts (shows p₂) o₂ → ((b : ℕ) → b < 2 → SameCall b 0 o o₂) → halves o o₂ (counted o d p) (counted o₂ d p₂)
  moments (write b us) (write c vs) a a₂ s =
      go (counts (write b us) d p) (counts (write c vs) d p₂) refl refl (same_count 0 0 (write b us) (write c vs) d p p₂ (x 0 (omega arith)) (s 0 (omega arith)))
    where
      go : (y z : Bool) → counts (write b us) d p ≡ y → counts (write c vs) d p₂ ≡ z → z ≡ y
          → halves (write b us) (write c vs) (if_done y (write b us) (shows p)) (if_done z (write c vs) (shows p₂))
      go true true i j k = in_writes b c us vs a a₂ s
      go false false i j k = nowhere (write b us) (write c vs) a a₂ (not_begun b us d p i) (not_begun c vs d p₂ j)
      go true false i j k = absurd (let z : ◌≡◌ {A = Bool} false true = k in cc)
      go false true i j k = absurd (let z : ◌≡◌ {A = Bool} true false = k in cc)
  moments flush flush a a₂ s = go (counts flush d p) (counts flush d p₂) refl (same_counts 0 0 flush d p p₂ (x 0 (omega arith)))
    where
      go : (y z : Bool) → counts flush d p ≡ y → z ≡ counts flush d p → halves flush flush (if_done y flush (shows p)) (if_done z flush (shows p₂))
      go true true i k = all_flushes i
      go false false i k = in_flushes
      go true false i k = absurd (let z : ◌≡◌ {A = Bool} false true = k ∙ i in cc)
      go false true i k = absurd (let z : ◌≡◌ {A = Bool} true false = k ∙ i in cc)
  moments (write b us) flush a a₂ s = absurd (s 0 (omega arith))
  moments flush (write c vs) a a₂ s = absurd (s 0 (omega arith))

pub same_rises : SameRises
same_rises p p₂ o o₂ d K K₂ u v two x a a₂ s f = moments p p₂ d K K₂ u v two x f.0 f.1 f.2 o o₂ a a₂ s
