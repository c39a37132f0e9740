-- The two slots of a device, and the one that is used.
use Rattle.std.proofs.Common.{◌≡◌, ℕ, zero, suc, ◌%◌, ◌<◌, ◌≤◌, Bool, true, false, cond, ◌&&◌, eqb, leb, ◌⊎◌, List, [], ◌∷◌, length, get_or, take, drop, Some, None, Ok, Err, Option, Result, sym, refl, ap, ◌∙◌, subst, inl, inr, ⊎_elim, arith}
use Rattle.std.proofs.lemmas.List.{length-map, length-drop, length-take-le}
use Rattle.std.proofs.lemmas.Bool.{and_parts, and_from, leb-true, le-leb, eqb-true, eq-eqb, ne_eqb, cases_eq, cases_lt}
use Rattle.std.specs.Bool.{then_some}
use Rattle.std.specs.List.{AllByRecursion}
use Rattle.std.specs.Option.{MatchOption, ok_or, option_map}
use Rattle.std.specs.Result.{result_ok}
use Rattle.device.specs.declared.DeviceFault.{DeviceFault}
use Rattle.device.specs.declared.Layer.{Layer}
use Rattle.device.specs.Meaning.{Meaning, Cell, Content, Held, Lawful, LawfulCell, words, damaged, blocks_of, current_at, no_cell, shown_of, reading}
use Rattle.page.specs.Block.{same}
use Rattle.page.specs.Io.{ReadAs}
use Rattle.page.specs.Slot.{Table, every, rooted, clone_read, slot_words, slot_loose, decode_slot, slot_stands, if_stands, slot_read, SlotFits}
use Rattle.page.specs.View.{slot_of}
use Rattle.page.specs.declared.roots.Slot.{Slot}
use Rattle.page.proofs.Slots.{slots_exact, slot_back}
use Rattle.model.specs.declared.refusal.Refusal.{Refusal}
use Rattle.model.specs.World.{sizes, slot_in, latest, current_slot}
use Rattle.mount.specs.Due.{Usable}
use Rattle.mount.specs.Mounts.{Holds}
use Rattle.mount.proofs.Blocks.{read_words}

pub usable_of : (m : Meaning) → sizes (blocks_of m) m.width ≡ true → Usable m
usable_of m h =
    let a = and_parts (leb 16 (blocks_of m) && leb (blocks_of m) 4096) (leb 32 m.width && leb m.width 40) h in
    let b = and_parts (leb 16 (blocks_of m)) (leb (blocks_of m) 4096) a.0 in
    let c = and_parts (leb 32 m.width) (leb m.width 40) a.1 in
    record { many = leb-true 16 (blocks_of m) b.0; few = leb-true (blocks_of m) 4096 b.1; wide = (leb-true 32 m.width c.0, leb-true m.width 40 c.1) }

pub usable_to : (m : Meaning) → Usable m → sizes (blocks_of m) m.width ≡ true
usable_to m u =
    and_from (leb 16 (blocks_of m) && leb (blocks_of m) 4096) (leb 32 m.width && leb m.width 40)
    (and_from (leb 16 (blocks_of m)) (leb (blocks_of m) 4096) (le-leb 16 (blocks_of m) u.many) (le-leb (blocks_of m) 4096 u.few))
    (and_from (leb 32 m.width) (leb m.width 40) (le-leb 32 m.width u.wide.0) (le-leb m.width 40 u.wide.1))

pub fits_from : (m : Meaning) (b w : ℕ) → b ≡ blocks_of m → w ≡ m.width → true ≡ sizes b w → sizes (blocks_of m) m.width ≡ true
fits_from m b w e f h = ap (λ n. sizes n m.width) (sym e) ∙ ap (sizes b) (sym f) ∙ sym h

-- the slot that was read of a block, if it stands there
ok_some : {T E : Type 0} (r : Result T E) (x : T) → Some x ≡ result_ok r → r ≡ Ok x
ok_some (Ok y) x h = let e : x ≡ y = cc in ap Ok (sym e)
ok_some (Err e) x h = absurd (let z : ◌≡◌ {A = ℕ} 0 1 = cc in omega arith)

pub stands_read : (c : Layer) (m : Meaning) (b : ℕ) (G : Slot → Bool → Type 0) (r : Result (Option Slot) DeviceFault) (o q : Option Slot) → b < blocks_of m
    → ReadAs (λ ws s. option_map slot_of s ≡ decode_slot ws) (reading c (shown_of m) b m.width) r → Some o ≡ result_ok r → MatchOption o (q ≡ None) (λ s. (t : Bool) × G s t × (q ≡ then_some t s))
    → ((s : Slot) (t : Bool) → G s t → t ≡ slot_stands (blocks_of m) b (slot_of s)) → option_map slot_of q ≡ slot_in (blocks_of m) b (current_at m b)
stands_read c m b G r o q lt a h f by =
    let k = subst (ReadAs (λ ws s. option_map slot_of s ≡ decode_slot ws) (reading c (shown_of m) b m.width)) (ok_some r o h) a in
    go o f ∙ ap (if_stands (blocks_of m) b) k.2 ∙ sym (ap (slot_in (blocks_of m) b) (read_words c m b k.0 lt k.1))
  where
    tested : (s : Slot) (t : Bool) → option_map slot_of (then_some t s) ≡ cond t (Some (slot_of s)) None
    tested s true = refl
    tested s false = refl

    go : (o : Option Slot) → MatchOption o (q ≡ None) (λ s. (t : Bool) × G s t × (q ≡ then_some t s)) → option_map slot_of q ≡ if_stands (blocks_of m) b (option_map slot_of o)
    go None f = ap (option_map slot_of) f
    go (Some s) f = ap (option_map slot_of) f.2 ∙ tested s f.0 ∙ ap (λ t. cond t (Some (slot_of s)) None) (by s f.0 f.1)

-- what is read of a slot's words
some_of : (b : Bool) (x y : ℕ × Table) → cond b (Some x) None ≡ Some y → x ≡ y
some_of true x y h = let q : x ≡ y = cc in q
some_of false x y h = absurd (let z : ◌≡◌ {A = ℕ} 0 1 = cc in omega arith)

stands_from : (n b : ℕ) (ws : List ℕ) (o : Option (ℕ × Table)) (x : ℕ × Table) → decode_slot ws ≡ o → if_stands n b o ≡ Some x → slot_loose ws ≡ x
stands_from n b ws None x e h = absurd (let z : ◌≡◌ {A = ℕ} 0 1 = cc in omega arith)
stands_from n b ws (Some y) x e h = some_of (same ws (slot_words (length ws) (slot_loose ws).0 (slot_loose ws).1)) (slot_loose ws) y e ∙ some_of (slot_stands n b y) y x h

fits_read : (n w b : ℕ) (ws : List ℕ) (x : ℕ × Table) → n ≤ 4096 → 32 ≤ w → length ws ≡ w → slot_read n b ws ≡ Some x → SlotFits n w x.0 x.1
fits_read n w b ws x few wide len h =
    let e : slot_loose ws ≡ x = stands_from n b ws (decode_slot ws) x refl h in
    let clones : List ℕ = take 24 (drop 1 ws) in
    let long : length clones ≡ 24 = length-take-le 24 (drop 1 ws) (omega (arith, length-drop 1 ws)) in
    record {
      blocks = few;
      wide = wide;
      generation = subst (λ (y : ℕ × Table). y.0 ≤ 268435455) e (omega arith);
      places = subst (λ (y : ℕ × Table). length y.1 ≡ 24) e (length-map clones clone_read ∙ long);
      roots = (slots_exact.0 n b ws x.0 x.1 h).2;
    }

record Read (m : Meaning) (b : ℕ) (x : ℕ × Table) : Type 0 where
  parity : x.0 % 2 ≡ b
  holds : Holds m x

read_slot_lem : (m : Meaning) (b : ℕ) (k : Content) (x : ℕ × Table) → Usable m → current_at m b ≡ k → Held m.width k → slot_in (blocks_of m) b k ≡ Some x → Read m b x
read_slot_lem m b (damaged d) x u e w h = absurd (let z : ◌≡◌ {A = ℕ} 0 1 = cc in omega arith)
read_slot_lem m b (words ws) x u e w h =
    let y = slots_exact.0 (blocks_of m) b ws x.0 x.1 h in
    record {
      parity = y.1;
      holds = record {
        content = ap (current_at m) y.1 ∙ e ∙ ap words (y.0 ∙ ap (λ n. slot_words n x.0 x.1) w.0);
        fits = fits_read (blocks_of m) m.width b ws x u.few u.wide.0 w.0 h;
      };
    }

slot_read_lem : (m : Meaning) (b : ℕ) (x : ℕ × Table) → x.0 % 2 ≡ b → Holds m x → slot_in (blocks_of m) b (current_at m b) ≡ Some x
slot_read_lem m b x e h =
    subst (λ k. slot_in (blocks_of m) k (current_at m k) ≡ Some x) e
    (ap (slot_in (blocks_of m) (x.0 % 2)) h.content ∙ slot_back (blocks_of m) m.width x.0 x.1 h.fits)

cell_at : (w : ℕ) (cs : List Cell) (b : ℕ) → AllByRecursion (LawfulCell w) cs → b < length cs → LawfulCell w (get_or cs b no_cell)
cell_at w [] b a h = absurd (omega arith)
cell_at w (c ∷ cs) zero a h = a.0
cell_at w (c ∷ cs) (suc b) a h = cell_at w cs b a.1 (omega arith)

held_at : (m : Meaning) (b : ℕ) → Lawful m → b < blocks_of m → Held m.width (current_at m b)
held_at m b w lt = (cell_at m.width m.cells b w.cells lt).current

odd_one : (n : ℕ) → (n % 2 ≡ 0 → ⊥) → n % 2 ≡ 1
odd_one n ne = ⊎_elim (λ (l : n % 2 < 1). absurd (ne (omega (arith, l)))) (λ (g : 1 ≤ n % 2). omega (arith, g)) (cases_lt (n % 2) 1)

-- one of two slots is used, where it is one above the other
record Later (x : ℕ × Table) (o p : Option (ℕ × Table)) : Type 0 where
  before : ℕ × Table
  apart : suc before.0 ≡ x.0
  order : ((o ≡ Some x) × (p ≡ Some before)) ⊎ ((o ≡ Some before) × (p ≡ Some x))

later_parts : (o p : Option (ℕ × Table)) (x : ℕ × Table) → latest o p ≡ Some x → Later x o p
later_parts None p x h = absurd (let z : ◌≡◌ {A = ℕ} 0 1 = cc in omega arith)
later_parts (Some s) None x h = absurd (let z : ◌≡◌ {A = ℕ} 0 1 = cc in omega arith)
later_parts (Some s) (Some t) x h = go (eqb (suc s.0) t.0) (eqb (suc t.0) s.0) refl refl h
  where
    go : (a b : Bool) → a ≡ eqb (suc s.0) t.0 → b ≡ eqb (suc t.0) s.0 → cond a (Some t) (cond b (Some s) None) ≡ Some x → Later x (Some s) (Some t)
    go true b p q h =
        let e : t ≡ x = cc in
        record { before = s; apart = eqb-true (suc s.0) t.0 (sym p) ∙ ap (λ (y : ℕ × Table). y.0) e; order = inr (refl, ap Some e) }
    go false true p q h =
        let e : s ≡ x = cc in
        record { before = t; apart = eqb-true (suc t.0) s.0 (sym q) ∙ ap (λ (y : ℕ × Table). y.0) e; order = inl (ap Some e, refl) }
    go false false p q h = absurd (let z : ◌≡◌ {A = ℕ} 0 1 = cc in omega arith)

-- the slots of a device that is used by x
pub record Pair (m : Meaning) (x : ℕ × Table) : Type 0 where
  pub before : ℕ × Table
  pub apart : suc before.0 ≡ x.0
  pub this : Holds m x
  pub that : Holds m before

pub pair_of : (m : Meaning) (x : ℕ × Table) → Lawful m → Usable m → current_slot m ≡ Some x → Pair m x
pair_of m x w u h =
    let l = later_parts (slot_in (blocks_of m) 0 (current_at m 0)) (slot_in (blocks_of m) 1 (current_at m 1)) x h in
    let even = λ (y : ℕ × Table) (e : slot_in (blocks_of m) 0 (current_at m 0) ≡ Some y). (read_slot_lem m 0 (current_at m 0) y u refl (held_at m 0 w (omega (arith, u.many))) e).holds in
    let odd = λ (y : ℕ × Table) (e : slot_in (blocks_of m) 1 (current_at m 1) ≡ Some y). (read_slot_lem m 1 (current_at m 1) y u refl (held_at m 1 w (omega (arith, u.many))) e).holds in
    ⊎_elim
    (λ o. record { before = l.before; apart = l.apart; this = even x o.0; that = odd l.before o.1 })
    (λ o. record { before = l.before; apart = l.apart; this = odd x o.1; that = even l.before o.0 })
    l.order

pub pair_used : (m : Meaning) (x : ℕ × Table) → Pair m x → current_slot m ≡ Some x
pair_used m x p =
    let y : ℕ × Table = p.before in
    ⊎_elim
    (λ (e : x.0 % 2 ≡ 0).
    let f : y.0 % 2 ≡ 1 = omega (arith, p.apart) in
    ap (λ o. latest o (slot_in (blocks_of m) 1 (current_at m 1))) (slot_read_lem m 0 x e p.this) ∙ ap (latest (Some x)) (slot_read_lem m 1 y f p.that)
    ∙ ap (λ t. cond t (Some y) (cond (eqb (suc y.0) x.0) (Some x) None)) (ne_eqb (suc x.0) y.0 (λ k. absurd (omega (arith, p.apart))))
    ∙ ap (λ t. cond t (Some x) None) (eq-eqb (suc y.0) x.0 p.apart))
    (λ (ne : x.0 % 2 ≡ 0 → ⊥).
    let e : x.0 % 2 ≡ 1 = odd_one x.0 ne in
    let f : y.0 % 2 ≡ 0 = omega (arith, p.apart) in
    ap (λ o. latest o (slot_in (blocks_of m) 1 (current_at m 1))) (slot_read_lem m 0 y f p.that) ∙ ap (latest (Some y)) (slot_read_lem m 1 x e p.this)
    ∙ ap (λ t. cond t (Some x) (cond (eqb (suc x.0) y.0) (Some y) None)) (eq-eqb (suc y.0) x.0 p.apart))
    (cases_eq (x.0 % 2) 0)

-- the roots of the slot that is used are roots
rooted_in : (n b : ℕ) (k : Content) (x : ℕ × Table) → slot_in n b k ≡ Some x → every (rooted n) x.1 ≡ true
rooted_in n b (words ws) x h = (slots_exact.0 n b ws x.0 x.1 h).2
rooted_in n b (damaged k) x h = absurd (let z : ◌≡◌ {A = ℕ} 0 1 = cc in omega arith)

pub used_rooted : (m : Meaning) (x : ℕ × Table) → current_slot m ≡ Some x → every (rooted (blocks_of m)) x.1 ≡ true
used_rooted m x h =
    let l = later_parts (slot_in (blocks_of m) 0 (current_at m 0)) (slot_in (blocks_of m) 1 (current_at m 1)) x h in
    ⊎_elim (λ o. rooted_in (blocks_of m) 0 (current_at m 0) x o.0) (λ o. rooted_in (blocks_of m) 1 (current_at m 1) x o.1) l.order

pub slot_used : (m : Meaning) (o : Option Slot) (s : Slot) (e : Refusal) → option_map slot_of o ≡ current_slot m → Ok s ≡ ok_or o e → current_slot m ≡ Some (slot_of s)
slot_used m (Some t) s e h k = let q : t ≡ s = cc in sym h ∙ ap (λ s. Some (slot_of s)) q
slot_used m None s e h k = absurd (let z : ◌≡◌ {A = ℕ} 0 1 = cc in omega arith)
