-- Cuts of the bottoms are a cut of the pile that is built anew.
use Rattle.std.proofs.Common.{◌≡◌, ℕ, ◌-◌, ◌<◌, ◌≤◌, Bool, true, false, ◌&&◌, ◌||◌, List, [], sym, refl, ap, ap₂, ◌∙◌, subst, subst₂, ⊎_elim, arith}
use Rattle.std.proofs.ByRecursion.{All-from_get_or, All-get_or}
use Rattle.std.proofs.lemmas.List.{length-map}
use Rattle.device.specs.Meaning.{Meaning, Cell, Limits, shown_of, Lawful, LawfulCell, Cut, CutCell, Held, flushed, flushed_cell, no_cell, blocks_of, cell_at}
use Rattle.device.specs.Showing.{count_shown}
use Rattle.device.specs.Cuts.{Op, Op.write, Op.flush, apply}
use Rattle.device.proofs.Choices.{blocks_apply}
use Rattle.device.proofs.Cuts.{any, cut_again, cut_flushed, cut_unwritten, cut_unflushed}
use Rattle.check_layer.specs.Checked as checks
use Rattle.check_layer.specs.Checked.{checked, checked_cell, with_check}
use Rattle.check_layer.proofs.Cuts as check_cuts
use Rattle.quota.specs.Limited as quotas
use Rattle.quota.specs.Limited.{limited, limited_blocks}
use Rattle.quota.proofs.Cuts as quota_cuts
use Rattle.mirror.specs.Mirrored.{mirrored, mirrored_blocks, Alike}
use Rattle.mirror.proofs.Follows.{alike_flushed}
use Rattle.mirror.proofs.Cuts as mirror_cuts
use Rattle.piles.specs.Piles.{Pile, Pile.bottom, Pile.check, Pile.quota, Pile.mirror, shows, Built, PerBottom, on, if_done, part, whole, Accepts, Over, Cuts, Again, anew, counts, counted, CutsRise}
use Rattle.piles.proofs.Devices.{none, shows_whole, built_whole}

-- a flush of all bottoms
pub flushes : (p : Pile) → Built p → shows (whole flush p) ≡ flushed (shows p)
flushes p b = shows_whole flush p b tt

-- What a cut leaves of a lawful device is lawful.
cell_cut : (w : ℕ) (c d : Cell) → LawfulCell w c → CutCell w c d → LawfulCell w d
cell_cut w c d l k =
    let h : Held w d.current = any w c.mark c d.current l k.from in
    record { persisted = subst (Held w) (sym k.equal) h; current = h; mark = omega (arith, k.mark); clean = λ e. k.equal }

cut_lawful : (m n : Meaning) → Lawful m → Cut m n → Lawful n
cut_lawful m n l k = record {
  limits = subst₂ Limits (sym k.blocks) (sym k.width) l.limits;
  cells = All-from_get_or (LawfulCell n.width) n.cells no_cell (λ b h.
      let h' : b < blocks_of m = omega (arith, k.blocks) in
      subst (λ w. LawfulCell w (cell_at n b)) (sym k.width)
      (cell_cut m.width (cell_at m b) (cell_at n b) (All-get_or (LawfulCell m.width) m.cells b no_cell h' l.cells) (k.cells b h')));
  left = k.left;
  left_mark = k.left_mark;
}

-- what a pile keeps whatever the cut: the shapes of its bottoms, which are lawful
pub record Sized (m n : Meaning) : Type 0 where
  pub width : n.width ≡ m.width
  pub blocks : blocks_of n ≡ blocks_of m
  pub lawful : Lawful n

sized : (p q : Pile) → Built p → Cuts p q → Over Sized p q
sized (bottom m) (bottom n) b c = record { width = c.width; blocks = c.blocks; lawful = cut_lawful m n b c }
sized (check p) (check q) b c = sized p q b.0 c
sized (quota n p) (quota i q) b c = (c.0, sized p q b.0 c.1)
sized (mirror p q) (mirror r s) b c = (sized p r b.0 c.0, sized q s b.1 c.1)
sized p q b c = absurd c

pub record Shape (m n : Meaning) : Type 0 where
  pub width : n.width ≡ m.width
  pub blocks : blocks_of n ≡ blocks_of m

flush_shape : (m n x : Meaning) → x ≡ flushed n → Shape m n → Shape m x
flush_shape m n x e s = record { width = ap (λ y. y.width) e ∙ s.width; blocks = ap (λ (y : Meaning). blocks_of y) e ∙ length-map n.cells flushed_cell ∙ s.blocks }

-- so it is well built again, and of the same shape
again : (p q : Pile) → Built p → Over Sized p q → Built (anew q) × Shape (shows p) (shows (anew q))
again (bottom m) (bottom n) b s = (s.lawful, record { width = s.width; blocks = s.blocks })
again (check p) (check q) b s =
    let i = again p q b.0 s in
    let r = anew q in
    let f = flushes r i.0 in
    let z = flush_shape (shows p) (shows r) (shows (whole flush r)) f i.1 in
    let m = shows p in
    let n = shows (whole flush r) in (
      (built_whole flush r i.0 tt, omega (arith, z.width, b.1)),
      record {
        width = ap (λ w. w - 1) z.width;
        blocks = length-map n.cells (checked_cell (n.width - 1)) ∙ z.blocks ∙ sym (length-map m.cells (checked_cell (m.width - 1)));
      },
    )
again (quota n p) (quota j q) b s =
    let i = again p q b.0 s.1 in
    let r = anew q in
    let f = flushes r i.0 in
    let z = flush_shape (shows p) (shows r) (shows (whole flush r)) f i.1 in
    let m = shows p in
    let x = shows (whole flush r) in
    let was : n ≤ blocks_of m = quotas.enough n m b.1 in
    let few : j ≤ blocks_of x = omega (arith, z.blocks, was, s.0) in (
      (built_whole flush r i.0 tt, (omega (arith, b.1.0, s.0), omega (arith, few, count_shown x))),
      record {
        width = z.width;
        blocks = limited_blocks j x few ∙ sym s.0 ∙ sym (limited_blocks n m was);
      },
    )
again (mirror p q) (mirror r s) b h =
    let i = again p r b.0 h.0 in
    let j = again q s b.1 h.1 in
    let x = anew r in
    let y = anew s in
    let f = flushes x i.0 in
    let g = flushes y j.0 in
    let a = b.2 in
    let z = flush_shape (shows p) (shows x) (shows (whole flush x)) f i.1 in (
      (
        built_whole flush x i.0 tt,
        built_whole flush y j.0 tt,
        subst₂ Alike (sym f) (sym g) (alike_flushed (shows x) (shows y)
            (i.1.blocks ∙ a.shape.0 ∙ sym j.1.blocks, i.1.width ∙ a.shape.1 ∙ sym j.1.width)),
      ),
      record {
        width = z.width;
        blocks = mirrored_blocks (shows (whole flush x)) (shows (whole flush y)) ∙ z.blocks ∙ sym (mirrored_blocks (shows p) (shows q));
      },
    )
again p q b s = absurd s

-- one layer, built anew over what a cut left below
module _ (m : Meaning) (r : Pile) (b : Built r) where
  check_anew : checks.Allowed (shown_of m) → Cut m (shows r) → Cut (checked m) (shows (check (whole flush r)))
  check_anew w c = subst (λ x. Cut (checked m) (checked x)) (sym (flushes r b)) ((check_cuts.built_cut (shows r) (omega (arith, c.width, w))).between m c)

  quota_anew : (n : ℕ) → quotas.Allowed n (shown_of m) → Cut m (shows r) → Cut (limited n m) (shows (quota n (whole flush r)))
  quota_anew n w c = subst (λ x. Cut (limited n m) (limited n x)) (sym (flushes r b)) ((quota_cuts.built_cut n (shows r) (omega (arith, c.blocks, quotas.enough n m w))).between m c)

mirror_anew : (m n : Meaning) (r s : Pile) → Built r → Built s → Alike m n → Cut m (shows r) → Cut n (shows s) → Cut (mirrored m n) (shows (mirror (whole flush r) (whole flush s)))
mirror_anew m n r s b b' a c d =
    subst₂ (λ x y. Cut (mirrored m n) (mirrored x y)) (sym (flushes r b)) (sym (flushes s b')) ((mirror_cuts.built_cut (shows r) (shows s)).between m n a c d)

-- so what cuts between two calls leave is well built again and of the same shape, and shows a cut
pub made : (p q : Pile) → Built p → Cuts p q → Built (anew q) × Shape (shows p) (shows (anew q))
made p q b c = again p q b (sized p q b c)

pub rest : (p q : Pile) → Built p → Cuts p q → Cut (shows p) (shows (anew q))
rest (bottom m) (bottom n) b c = c
rest (check p) (check q) b c = check_anew (shows p) (anew q) (made p q b.0 c).0 b.1 (rest p q b.0 c)
rest (quota n p) (quota i q) b c =
    subst (λ j. Cut (limited n (shows p)) (shows (quota j (whole flush (anew q))))) c.0
    (quota_anew (shows p) (anew q) (made p q b.0 c.1).0 n b.1 (rest p q b.0 c.1))
rest (mirror p q) (mirror r s) b c =
    mirror_anew (shows p) (shows q) (anew r) (anew s) (made p r b.0 c.0).0 (made q s b.1 c.1).0 b.2 (rest p r b.0 c.0) (rest q s b.1 c.1)
rest p q b c = absurd c

-- A cut at a moment of a write is one after it, and one of a flush is one before it: so it is bottom by bottom.
cut_write : (b : ℕ) (ws : List ℕ) (d : Bool) (m n : Meaning) → Lawful m → Cut (if_done d (write b ws) m) n → Cut (apply (write b ws) m) n
cut_write b ws true m n l c = c
cut_write b ws false m n l c = cut_unwritten m n b ws l c

cut_flush : (d : Bool) (m n : Meaning) → Lawful m → Cut (if_done d flush m) n → Cut m n
cut_flush true m n l c = cut_unflushed m n l c
cut_flush false m n l c = c

pub in_write : (b : ℕ) (ws : List ℕ) (d : PerBottom Bool) (p q : Pile) → Built p → Cuts (part (write b ws) d p) q → Cuts (whole (write b ws) p) q
in_write b ws d (bottom m) (bottom n) u c = cut_write b ws (d []) m n u c
in_write b ws d (check p) (check q) u c = in_write b (with_check ws) d p q u.0 c
in_write b ws d (quota n p) (quota i q) u c = (c.0, in_write b ws d p q u.0 c.1)
in_write b ws d (mirror p q) (mirror r s) u c = (in_write b ws (on false d) p r u.0 c.0, in_write b ws (on true d) q s u.1 c.1)
in_write b ws d p q u c = absurd c

pub in_flush : (d : PerBottom Bool) (p q : Pile) → Built p → Cuts (part flush d p) q → Cuts p q
in_flush d (bottom m) (bottom n) u c = cut_flush (d []) m n u c
in_flush d (check p) (check q) u c = in_flush d p q u.0 c
in_flush d (quota n p) (quota i q) u c = (c.0, in_flush d p q u.0 c.1)
in_flush d (mirror p q) (mirror r s) u c = (in_flush (on false d) p r u.0 c.0, in_flush (on true d) q s u.1 c.1)
in_flush d p q u c = absurd c

both_yes : (x y : Bool) → (x && y) ≡ true → (x ≡ true) × (y ≡ true)
both_yes true y e = (refl, e)
both_yes false y e = absurd (let z : ◌≡◌ {A = Bool} false true = e in cc)

both_no : (x y : Bool) → (x || y) ≡ false → (x ≡ false) × (y ≡ false)
both_no false y e = (refl, e)
both_no true y e = absurd (let z : ◌≡◌ {A = Bool} true false = e in cc)

-- Where no bottom has begun a write, it is as before it; where all have been flushed, as after the flush.
pub not_begun : (b : ℕ) (ws : List ℕ) (d : PerBottom Bool) (p : Pile) → counts (write b ws) d p ≡ false → part (write b ws) d p ≡ p
not_begun b ws d (bottom m) e = ap (λ x. bottom (if_done x (write b ws) m)) e
not_begun b ws d (check p) e = ap check (not_begun b (with_check ws) d p (like b ws (with_check ws) d p ∙ e))
  where
    like : (b : ℕ) (us ws : List ℕ) (d : PerBottom Bool) (p : Pile) → counts (write b ws) d p ≡ counts (write b us) d p
    like b us ws d (bottom m) = refl
    like b us ws d (check p) = like b us ws d p
    like b us ws d (quota n p) = like b us ws d p
    like b us ws d (mirror p q) = ap₂ (λ x y. x || y) (like b us ws (on false d) p) (like b us ws (on true d) q)
not_begun b ws d (quota n p) e = ap (quota n) (not_begun b ws d p e)
not_begun b ws d (mirror p q) e =
    let z = both_no (counts (write b ws) (on false d) p) (counts (write b ws) (on true d) q) e in
    ap₂ mirror (not_begun b ws (on false d) p z.0) (not_begun b ws (on true d) q z.1)

pub all_flushed : (d : PerBottom Bool) (p : Pile) → counts flush d p ≡ true → part flush d p ≡ whole flush p
all_flushed d (bottom m) e = ap (λ x. bottom (if_done x flush m)) e
all_flushed d (check p) e = ap check (all_flushed d p e)
all_flushed d (quota n p) e = ap (quota n) (all_flushed d p e)
all_flushed d (mirror p q) e =
    let z = both_yes (counts flush (on false d) p) (counts flush (on true d) q) e in
    ap₂ mirror (all_flushed (on false d) p z.0) (all_flushed (on true d) q z.1)

-- So a cut at any moment of a call is one before it or after it.
abbrev Left : Meaning → Pile → Type 0
Left m q = Built (anew q) × Cut m (shows (anew q))

before : (p q : Pile) → Built p → Cuts p q → Left (shows p) q
before p q u c = ((made p q u c).0, rest p q u c)

after : (o : Op) (p q : Pile) → Built p → Accepts (shows p) o → Cuts (whole o p) q → Left (apply o (shows p)) q
after o p q u a c = subst (λ m. Left m q) (shows_whole o p u a) (before (whole o p) q (built_whole o p u a) c)

rises : (p q : Pile) (o : Op) (d : PerBottom Bool) → Built p → Accepts (shows p) o → Cuts (part o d p) q → Left (counted o d p) q
rises p q (write b ws) d u a c = go (counts (write b ws) d p) refl
  where
    go : (x : Bool) → counts (write b ws) d p ≡ x → Left (if_done x (write b ws) (shows p)) q
    go true e = after (write b ws) p q u a (in_write b ws d p q u c)
    go false e = before p q u (subst (λ x. Cuts x q) (not_begun b ws d p e) c)
rises p q flush d u a c = go (counts flush d p) refl
  where
    go : (x : Bool) → counts flush d p ≡ x → Left (if_done x flush (shows p)) q
    go true e = after flush p q u a (subst (λ x. Cuts x q) (all_flushed d p e) c)
    go false e = before p q u (in_flush d p q u c)

-- a cut of what a cut left
once_more : (m n p : Meaning) → Cut m n → Again n p → Cut m p
once_more m n p k = ⊎_elim (λ l. cut_again m n p k l) (λ l. cut_again m n p k (subst (λ x. Cut x p) (cut_flushed m n k) l))

more : (p q r : Pile) → Cuts p q → Over Again q r → Cuts p r
more (bottom m) (bottom n) (bottom x) c l = once_more m n x c l
more (check p) (check q) (check r) c l = more p q r c l
more (quota i p) (quota j q) (quota k r) c l = (c.0 ∙ l.0, more p q r c.1 l.1)
more (mirror p q) (mirror r s) (mirror t u) c l = (more p r t c.0 l.0, more q s u c.1 l.1)
more (bottom m) (bottom n) r c l = absurd l
more (check p) (check q) r c l = absurd l
more (quota i p) (quota j q) r c l = absurd l
more (mirror p q) (mirror r s) t c l = absurd l
more p q r c l = absurd c

-- what a moment shows, where no bottom has flushed
counts_none : (p : Pile) → counts flush none p ≡ false
counts_none (bottom m) = refl
counts_none (check p) = counts_none p
counts_none (quota n p) = counts_none p
counts_none (mirror p q) = ap₂ (λ x y. x && y) (counts_none p) (counts_none q)

pub counted_none : (p : Pile) → counted flush none p ≡ shows p
counted_none p = ap (λ x. if_done x flush (shows p)) (counts_none p)

pub blocks_done : (o : Op) (m : Meaning) (d : Bool) → blocks_of (if_done d o m) ≡ blocks_of m
blocks_done o m true = blocks_apply o m
blocks_done o m false = refl

pub cuts_rise : CutsRise
cuts_rise = (rises, more)
