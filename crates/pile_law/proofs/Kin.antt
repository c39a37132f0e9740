-- What two runs hold alike of one block of their bottoms, they hold alike at every layer, and after every call and cut.
use Rattle.std.proofs.Common.{◌≡◌, ℕ, zero, suc, ◌+◌, ◌-◌, ◌<◌, ◌≤◌, max, min, true, false, List, [], ◌∷◌, length, sym, refl, ap, ◌∙◌, subst, subst₂, ap₂, inl, inr, ⊎_elim, arith}
use Rattle.std.proofs.lemmas.List.{length-map, length-append}
use Rattle.device.specs.Meaning.{Meaning, Content, words, damaged, Cell, flushed, flushed_cell, written, written_cell, blocks_of, cell_at}
use Rattle.device.specs.Cuts.{Op, Op.write, Op.flush, Choice, Choice.persisted, Choice.current, Choice.other, Cutting, apply, remains, cut}
use Rattle.device.proofs.Choices.{cut_at, cut_blocks, flush_at, write_at, write_off, blocks_apply}
use Rattle.check_layer.specs.Checked.{checked, checked_cell, checked_content, check_of, with_check, below_op}
use Rattle.check_layer.proofs.Follows as checks
use Rattle.check_layer.proofs.Follows.{content_written}
use Rattle.quota.specs.Limited.{limited, limited_blocks, raised_content, enough}
use Rattle.quota.proofs.Follows.{cell_limited}
use Rattle.mirror.specs.Mirrored.{mirrored, mirrored_blocks, pick}
use Rattle.mirror.proofs.Follows.{cell_mirrored}
use Rattle.piles.specs.Piles.{Pile, Pile.bottom, Pile.check, Pile.quota, Pile.mirror, shows, Built, PerBottom, on, whole, Accepts, anew}
use Rattle.piles.proofs.Devices.{check_accepts, quota_accepts, first_accepts, second_accepts}
use Rattle.pile_law.specs.TwoPiles.{through, Kin, KinCell, KinBlock, KinPile, SameCall, cut_bottoms}
use Rattle.pile_law.proofs.Kept.{is_words}

-- contents
pub kin_words : (w n : ℕ) (x y : Content) → Kin w n x y → is_words x ≡ is_words y
kin_words w n x y = ⊎_elim (λ e. ap is_words e) (λ h. ap is_words h.4 ∙ sym (ap is_words h.5))

kin_raised : (w n : ℕ) (x y : Content) → Kin w n x y → Kin w n (raised_content x) (raised_content y)
kin_raised w n x y = ⊎_elim (λ e. inl (ap raised_content e)) (λ h. inr (h.0, h.1, h.2, h.3, ap raised_content h.4, ap raised_content h.5))

shorter : (w : ℕ) (ws : List ℕ) → length (with_check ws) ≡ w → length ws ≡ w - 1
shorter w ws e = let l = length-append ws (check_of ws ∷ []) in omega arith

kin_checked : (w n : ℕ) (x y : Content) → Kin w (suc n) x y → Kin (w - 1) n (checked_content (w - 1) x) (checked_content (w - 1) y)
kin_checked w n x y =
    ⊎_elim
    (λ e. inl (ap (checked_content (w - 1)) e))
    (λ h.
    let l = shorter w (through n h.0) h.2 in
    let l' = shorter w (through n h.1) h.3 in
    inr (
      h.0,
      h.1,
      l,
      l',
      ap (checked_content (w - 1)) h.4 ∙ content_written (w - 1) (through n h.0) l,
      ap (checked_content (w - 1)) h.5 ∙ content_written (w - 1) (through n h.1) l',
    ))

pick_same : (w n : ℕ) (x u v : Content) → Kin w n u v → Kin w n (pick x u) (pick x v)
pick_same w n (words ws) u v h = inl refl
pick_same w n (damaged j) u v h =
    ⊎_elim (λ e. inl (ap (pick (damaged j)) e)) (λ h. inr (h.0, h.1, h.2, h.3, ap (pick (damaged j)) h.4, ap (pick (damaged j)) h.5)) h

kin_pick : (w n : ℕ) (x y u v : Content) → Kin w n x y → Kin w n u v → Kin w n (pick x u) (pick y v)
kin_pick w n x y u v h k =
    ⊎_elim
    (λ e. subst (λ z. Kin w n (pick x u) (pick z v)) e (pick_same w n x u v k))
    (λ h. inr (h.0, h.1, h.2, h.3, ap (λ z. pick z u) h.4, ap (λ z. pick z v) h.5))
    h

-- cells of the layers
pub cell_checked : (m : Meaning) (b : ℕ) → b < blocks_of m → cell_at (checked m) b ≡ checked_cell (m.width - 1) (cell_at m b)
cell_checked m b h = checks.cell_checked m b (m.width - 1) h refl

pub blocks_checked : (m : Meaning) → blocks_of (checked m) ≡ blocks_of m
blocks_checked m = length-map m.cells (checked_cell (m.width - 1))

kin_cells : (w n : ℕ) {c c' d d' : Cell} → c' ≡ c → d' ≡ d → KinCell w n c d → KinCell w n c' d'
kin_cells w n e f k = subst₂ (KinCell w n) (sym e) (sym f) k

module _ (b n : ℕ) (m m₂ : Meaning) (h : b < blocks_of m) where
  kin_check : KinBlock b (suc n) m m₂ → KinBlock b n (checked m) (checked m₂)
  kin_check k =
      let c = k.cell in
      let f = subst (λ w. cell_at (checked m₂) b ≡ checked_cell (w - 1) (cell_at m₂ b)) (sym k.width) (cell_checked m₂ b (omega (arith, k.blocks))) in
      record {
        width = ap (λ w. w - 1) k.width;
        blocks = blocks_checked m ∙ k.blocks ∙ sym (blocks_checked m₂);
        cell = kin_cells (m.width - 1) n (cell_checked m b h) f (record {
          mark = c.mark;
          persisted = kin_checked m.width n (cell_at m b).persisted (cell_at m₂ b).persisted c.persisted;
          current = kin_checked m.width n (cell_at m b).current (cell_at m₂ b).current c.current;
        });
      }

  kin_quota : (i : ℕ) → i ≤ blocks_of m → b < i → KinBlock b n m m₂ → KinBlock b n (limited i m) (limited i m₂)
  kin_quota i few j k =
      let c = k.cell in
      let few' : i ≤ blocks_of m₂ = omega (arith, k.blocks) in
      record {
        width = k.width;
        blocks = limited_blocks i m few ∙ sym (limited_blocks i m₂ few');
        cell = kin_cells m.width n (cell_limited i m few b j) (cell_limited i m₂ few' b j) (record {
          mark = c.mark;
          persisted = kin_raised m.width n (cell_at m b).persisted (cell_at m₂ b).persisted c.persisted;
          current = kin_raised m.width n (cell_at m b).current (cell_at m₂ b).current c.current;
        });
      }

  kin_mirror : (r r₂ : Meaning) → m.width ≡ r.width → KinBlock b n m m₂ → KinBlock b n r r₂ → KinBlock b n (mirrored m r) (mirrored m₂ r₂)
  kin_mirror r r₂ e k l =
      let c = k.cell in
      let d = subst (λ w. KinCell w n (cell_at r b) (cell_at r₂ b)) (sym e) l.cell in
      record {
        width = k.width;
        blocks = mirrored_blocks m r ∙ k.blocks ∙ sym (mirrored_blocks m₂ r₂);
        cell = kin_cells m.width n (cell_mirrored m r b h) (cell_mirrored m₂ r₂ b (omega (arith, k.blocks))) (record {
          mark = ap₂ max c.mark d.mark;
          persisted = kin_pick m.width n (cell_at m b).persisted (cell_at m₂ b).persisted (cell_at r b).persisted (cell_at r₂ b).persisted c.persisted d.persisted;
          current = kin_pick m.width n (cell_at m b).current (cell_at m₂ b).current (cell_at r b).current (cell_at r₂ b).current c.current d.current;
        });
      }

-- a pile shows alike what its bottoms hold alike
pub kin_shows : (b n : ℕ) (p p₂ : Pile) → Built p → Built p₂ → b < blocks_of (shows p) → KinPile b n p p₂ → KinBlock b n (shows p) (shows p₂)
kin_shows b n (bottom m) (bottom m₂) u v h k = k
kin_shows b n (check p) (check q) u v h k =
    let h' : b < blocks_of (shows p) = omega (arith, blocks_checked (shows p)) in
    kin_check b n (shows p) (shows q) h' (kin_shows b (suc n) p q u.0 v.0 h' k)
kin_shows b n (quota i p) (quota j q) u v h k =
    let few : i ≤ blocks_of (shows p) = enough i (shows p) u.1 in
    let h' : b < i = omega (arith, limited_blocks i (shows p) few) in
    let h'' : b < blocks_of (shows p) = omega arith in
    subst (λ j. KinBlock b n (limited i (shows p)) (limited j (shows q))) k.0
    (kin_quota b n (shows p) (shows q) h'' i few h' (kin_shows b n p q u.0 v.0 h'' k.1))
kin_shows b n (mirror p q) (mirror r s) u v h k =
    let h' : b < blocks_of (shows p) = omega (arith, mirrored_blocks (shows p) (shows q)) in
    kin_mirror b n (shows p) (shows r) h' (shows q) (shows s) u.2.shape.1
    (kin_shows b n p r u.0 v.0 h' k.0) (kin_shows b n q s u.1 v.1 (omega (arith, u.2.shape.0)) k.1)
kin_shows b n p q u v h k = absurd k

pub same_below : (b n : ℕ) (o o₂ : Op) → SameCall b n o o₂ → SameCall b (suc n) (below_op o) (below_op o₂)
same_below b n (write x us) (write y vs) h =
    ⊎_elim
    (λ h. inl (h.0, h.1, (h.2.0, ap with_check h.2.1), (h.3.0, ap with_check h.3.1)))
    (λ h. inr h)
    h
same_below b n flush flush h = tt
same_below b n (write x us) flush h = absurd h
same_below b n flush (write y vs) h = absurd h

-- after a call
kin_flush : (b n : ℕ) (m m₂ : Meaning) → KinBlock b n m m₂ → KinBlock b n (flushed m) (flushed m₂)
kin_flush b n m m₂ k = record {
  width = k.width;
  blocks = length-map m.cells flushed_cell ∙ k.blocks ∙ sym (length-map m₂.cells flushed_cell);
  cell = kin_cells m.width n (flush_at m b) (flush_at m₂ b) (record { mark = refl; persisted = k.cell.current; current = k.cell.current });
}

pub kin_apply : (b n : ℕ) (m m₂ : Meaning) (o o₂ : Op) → b < blocks_of m → Accepts m o → Accepts m₂ o₂ → SameCall b n o o₂ → KinBlock b n m m₂ → KinBlock b n (apply o m) (apply o₂ m₂)
kin_apply b n m m₂ flush flush h a a₂ s k = kin_flush b n m m₂ k
kin_apply b n m m₂ (write x us) flush h a a₂ s k = absurd s
kin_apply b n m m₂ flush (write y vs) h a a₂ s k = absurd s
kin_apply b n m m₂ (write x us) (write y vs) h a a₂ s k = record {
  width = k.width;
  blocks = blocks_apply (write x us) m ∙ k.blocks ∙ sym (blocks_apply (write y vs) m₂);
  cell =
      ⊎_elim
      (λ s.
      kin_cells m.width n
      (subst (λ x. cell_at (written m x us) b ≡ written_cell us (cell_at m b)) (sym s.0) (write_at m b us h))
      (subst (λ y. cell_at (written m₂ y vs) b ≡ written_cell vs (cell_at m₂ b)) (sym s.1) (write_at m₂ b vs (omega (arith, k.blocks))))
      (record {
        mark = ap (λ i. min (i + 1) 2) k.cell.mark;
        persisted = k.cell.persisted;
        current = inr (
          s.2.0,
          s.3.0,
          ap length (sym s.2.1) ∙ a.1.0,
          ap length (sym s.3.1) ∙ a₂.1.0 ∙ sym k.width,
          ap words s.2.1,
          ap words s.3.1,
        );
      }))
      (λ s. kin_cells m.width n (write_off m x b us (λ e. s.0 (sym e))) (write_off m₂ y b vs (λ e. s.1 (sym e))) k.cell)
      s;
}

-- a call of all bottoms
pub kin_whole : (b n : ℕ) (p p₂ : Pile) (o o₂ : Op) → Built p → Built p₂ → b < blocks_of (shows p) → KinPile b n p p₂
    → Accepts (shows p) o → Accepts (shows p₂) o₂ → SameCall b n o o₂ → KinPile b n (whole o p) (whole o₂ p₂)
kin_whole b n (bottom m) (bottom m₂) o o₂ u v h x a a₂ s = kin_apply b n m m₂ o o₂ h a a₂ s x
kin_whole b n (check p) (check q) o o₂ u v h x a a₂ s =
    kin_whole b (suc n) p q (below_op o) (below_op o₂) u.0 v.0 (omega (arith, blocks_checked (shows p))) x
    (check_accepts (shows p) u.1 o a) (check_accepts (shows q) v.1 o₂ a₂) (same_below b n o o₂ s)
kin_whole b n (quota i p) (quota j q) o o₂ u v h x a a₂ s =
    let few : i ≤ blocks_of (shows p) = enough i (shows p) u.1 in (
      x.0,
      kin_whole b n p q o o₂ u.0 v.0 (omega (arith, limited_blocks i (shows p) few)) x.1
          (quota_accepts i (shows p) u.1 o a) (quota_accepts j (shows q) v.1 o₂ a₂) s,
    )
kin_whole b n (mirror p q) (mirror r t) o o₂ u v h x a a₂ s =
    let h' : b < blocks_of (shows p) = omega (arith, mirrored_blocks (shows p) (shows q)) in (
      kin_whole b n p r o o₂ u.0 v.0 h' x.0 (first_accepts (shows p) (shows q) u.2 o a) (first_accepts (shows r) (shows t) v.2 o₂ a₂) s,
      kin_whole b n q t o o₂ u.1 v.1 (omega (arith, u.2.shape.0)) x.1 (second_accepts (shows p) (shows q) u.2 o a) (second_accepts (shows r) (shows t) v.2 o₂ a₂) s,
    )
kin_whole b n p q o o₂ u v h x a a₂ s = absurd x

kin_flushed : (b n : ℕ) (p p₂ : Pile) → KinPile b n p p₂ → KinPile b n (whole flush p) (whole flush p₂)
kin_flushed b n (bottom m) (bottom m₂) x = kin_flush b n m m₂ x
kin_flushed b n (check p) (check q) x = kin_flushed b (suc n) p q x
kin_flushed b n (quota i p) (quota j q) x = (x.0, kin_flushed b n p q x.1)
kin_flushed b n (mirror p q) (mirror r s) x = (kin_flushed b n p r x.0, kin_flushed b n q s x.1)
kin_flushed b n p q x = absurd x

-- after a cut by choices of one kind, and of kin contents
abbrev pub KinChoice : ℕ → ℕ → Choice → Choice → Type 0
KinChoice w n persisted persisted = Unit
KinChoice w n current current = Unit
KinChoice w n (other x) (other y) = Kin w n x y
KinChoice w n k k₂ = ⊥

pub same_choice : (w n : ℕ) (k : Choice) → KinChoice w n k k
same_choice w n persisted = tt
same_choice w n current = tt
same_choice w n (other x) = inl refl

pub kin_remains : (w n i : ℕ) (k k₂ : Choice) (c d : Cell) → KinChoice w n k k₂ → Kin w n c.persisted d.persisted → Kin w n c.current d.current → Kin w n (remains i k c) (remains i k₂ d)
kin_remains w n zero k k₂ c d e p q = q
kin_remains w n (suc zero) persisted persisted c d e p q = p
kin_remains w n (suc zero) current current c d e p q = q
kin_remains w n (suc zero) (other x) (other y) c d e p q = q
kin_remains w n (suc (suc i)) persisted persisted c d e p q = p
kin_remains w n (suc (suc i)) current current c d e p q = q
kin_remains w n (suc (suc i)) (other x) (other y) c d e p q = e
kin_remains w n (suc i) persisted current c d e p q = absurd e
kin_remains w n (suc i) persisted (other y) c d e p q = absurd e
kin_remains w n (suc i) current persisted c d e p q = absurd e
kin_remains w n (suc i) current (other y) c d e p q = absurd e
kin_remains w n (suc i) (other x) persisted c d e p q = absurd e
kin_remains w n (suc i) (other x) current c d e p q = absurd e

pub record KinCut (w n b : ℕ) (κ κ₂ : Cutting) : Type 0 where
  pub choice : KinChoice w n (κ.choice b) (κ₂.choice b)
  pub left : κ.left ≡ κ₂.left
  pub left_mark : κ.left_mark ≡ κ₂.left_mark

abbrev pub KinCuts : ℕ → ℕ → PerBottom Cutting → PerBottom Cutting → Pile → Type 0
KinCuts b n K K₂ (bottom m) = KinCut m.width n b (K []) (K₂ [])
KinCuts b n K K₂ (check p) = KinCuts b (suc n) K K₂ p
KinCuts b n K K₂ (quota i p) = KinCuts b n K K₂ p
KinCuts b n K K₂ (mirror p q) = KinCuts b n (on false K) (on false K₂) p × KinCuts b n (on true K) (on true K₂) q

kin_cut : (b n : ℕ) (κ κ₂ : Cutting) (m m₂ : Meaning) → KinCut m.width n b κ κ₂ → KinBlock b n m m₂ → KinBlock b n (cut κ m) (cut κ₂ m₂)
kin_cut b n κ κ₂ m m₂ e k =
    let c = cell_at m b in
    let d = cell_at m₂ b in
    let r : Kin m.width n (remains c.mark (κ.choice b) c) (remains d.mark (κ₂.choice b) d)
    = subst (λ i. Kin m.width n (remains c.mark (κ.choice b) c) (remains i (κ₂.choice b) d)) k.cell.mark
    (kin_remains m.width n c.mark (κ.choice b) (κ₂.choice b) c d e.choice k.cell.persisted k.cell.current) in
    record {
      width = k.width;
      blocks = cut_blocks κ m ∙ k.blocks ∙ sym (cut_blocks κ₂ m₂);
      cell = kin_cells m.width n (cut_at κ m b) (cut_at κ₂ m₂ b) (record { mark = refl; persisted = r; current = r });
    }

pub kin_bottoms : (b n : ℕ) (K K₂ : PerBottom Cutting) (p p₂ : Pile) → KinCuts b n K K₂ p → KinPile b n p p₂ → KinPile b n (cut_bottoms K p) (cut_bottoms K₂ p₂)
kin_bottoms b n K K₂ (bottom m) (bottom m₂) e x = kin_cut b n (K []) (K₂ []) m m₂ e x
kin_bottoms b n K K₂ (check p) (check q) e x = kin_bottoms b (suc n) K K₂ p q e x
kin_bottoms b n K K₂ (quota i p) (quota j q) e x = (x.0, kin_bottoms b n K K₂ p q e x.1)
kin_bottoms b n K K₂ (mirror p q) (mirror r s) e x =
    (kin_bottoms b n (on false K) (on false K₂) p r e.0 x.0, kin_bottoms b n (on true K) (on true K₂) q s e.1 x.1)
kin_bottoms b n K K₂ p q e x = absurd x

pub kin_anew : (b n : ℕ) (p p₂ : Pile) → KinPile b n p p₂ → KinPile b n (anew p) (anew p₂)
kin_anew b n (bottom m) (bottom m₂) x = x
kin_anew b n (check p) (check q) x = kin_flushed b (suc n) (anew p) (anew q) (kin_anew b (suc n) p q x)
kin_anew b n (quota i p) (quota j q) x = (x.0, kin_flushed b n (anew p) (anew q) (kin_anew b n p q x.1))
kin_anew b n (mirror p q) (mirror r s) x = (kin_flushed b n (anew p) (anew r) (kin_anew b n p r x.0), kin_flushed b n (anew q) (anew s) (kin_anew b n q s x.1))
kin_anew b n p q x = absurd x
