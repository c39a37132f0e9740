-- The words of slots, written and read in order; decoding and reading them is exact.
use Rattle.std.proofs.Common.{◌≡◌, ℕ, zero, suc, ◌+◌, ◌-◌, ◌*◌, ◌/◌, ◌%◌, ◌<◌, ◌≤◌, Bool, true, false, cond, ◌&&◌, eqb, ltb, leb, List, [], ◌∷◌, ◌++◌, map, length, get_or, take, drop, set, replicate, Some, None, Option, sym, refl, ap, ◌∙◌, ap₂, subst, ⊎_elim, arith, length-append}
use lib.ListN.{length-replicate}
use Rattle.std.proofs.lemmas.List.{take_more, map_push, get_or-map, get_or-take, get_or-drop, length-map, length-drop, length-take-le, take_all, take-append-le, append_assoc, set_at, ext_get_or}
use Rattle.std.specs.Fn.{Called}
use Rattle.std.specs.Array.{IsFromFnResultFrom}
use denote.Param.Members.{Mut}
use Rattle.page.specs.declared.roots.Root as places
use Rattle.page.specs.View.{root_of}
use Rattle.std.proofs.lemmas.Bool.{eq-eqb, ne_eqb, eqb-true, and_parts, and_from, leb-true, ltb-true, cases_eq}
use Rattle.word.specs.Words.{word_of}
use Rattle.page.specs.Block.{same}
use Rattle.page.specs.Slot.{Root, Table, clone_word, clone_read, slot_words, rooted, every, slot_loose, decode_slot, slot_stands, if_stands, slot_read, CloneFits, FormFits, FormsExact, SlotFits, SlotsExact}
use Rattle.page.proofs.Words.{same_eq, same_refl}

-- One clone written, over zeros.
pub slot_step : (out : List ℕ) (w h i x : ℕ) (ps : Table) → i + 1 < w → i < length ps → x ≡ clone_word (get_or ps i None)
    → out ≡ h ∷ (map clone_word (take i ps) ++ replicate (w - 1 - i) 0) → set out (i + 1) x ≡ h ∷ (map clone_word (take (i + 1) ps) ++ replicate (w - 1 - (i + 1)) 0)
slot_step out w h i x ps l lt e inv =
    let P : List ℕ = h ∷ map clone_word (take i ps) in
    let R : List ℕ = replicate (w - 1 - (i + 1)) 0 in
    let n : w - 1 - i ≡ suc (w - 1 - (i + 1)) = omega arith in
    let len : length P ≡ i + 1 = omega (arith, length-map (take i ps) clone_word, length-take-le i ps (omega arith)) in
    ap (λ xs. set xs (i + 1) x) (inv ∙ ap (λ m. P ++ replicate m 0) n)
    ∙ set_at P 0 R x (i + 1) len
    ∙ ap (λ y. P ++ y ∷ R) e
    ∙ sym (ap (λ xs. h ∷ (xs ++ R)) (ap (map clone_word) (take_more ps i None lt) ∙ map_push clone_word (take i ps) (get_or ps i None))
    ∙ append_assoc P (clone_word (get_or ps i None) ∷ []) R)

-- What a function gives at each number from i on, where no call changes it.
pub made_by : {F B : Type 0} (g : Mut F (ℕ × Unit {0}) B) (R : ℕ → B → Type 0) (f : F) (ys : List B) (n i : ℕ)
    → ((x : ℕ) (y : B) (q : F) → Called g f (x, tt) y q → (q ≡ f) × R x y) → IsFromFnResultFrom g f ys i n → (k : ℕ) (d : B) → i ≤ k → k < i + n → R k (get_or ys k d)
made_by g R f ys zero i h m k d l u = absurd (omega arith)
made_by g R f ys (suc n) i h m k d l u =
    let p = h i m.1 m.0 m.3 in
    ⊎_elim
    (λ e. subst (λ j. R j (get_or ys j d)) (sym e) (subst (R i) (sym (m.2.1 d)) p.1))
    (λ ne. made_by g R f ys n (i + 1) h (subst (λ q. IsFromFnResultFrom g q ys (i + 1) n) p.0 m.4) k d (omega (arith, ne)) (omega arith)) (cases_eq k i)

-- Reading, word by word.
pub clones_read : (ps : List (Option places.Root)) (ws : List ℕ) → length ps ≡ 24 → 25 ≤ length ws → ((k : ℕ) (d : Option places.Root) → k < 24 → root_of (get_or ps k d) ≡ clone_read (get_or ws (k + 1) 0))
    → map root_of ps ≡ map clone_read (take 24 (drop 1 ws))
clones_read ps ws n l h =
    let m : length (take 24 (drop 1 ws)) ≡ 24 = length-take-le 24 (drop 1 ws) (omega (arith, length-drop 1 ws)) in
    ext_get_or None (map root_of ps) (map clone_read (take 24 (drop 1 ws))) (omega (arith, length-map ps root_of, length-map (take 24 (drop 1 ws)) clone_read, m))
    (λ k p.
    let lt : k < 24 = omega (arith, length-map ps root_of) in
    get_or-map root_of ps k None None (omega arith) ∙ h k None lt
    ∙ sym (get_or-map clone_read (take 24 (drop 1 ws)) k 0 None (omega (arith, m))
    ∙ ap clone_read (get_or-take 24 (drop 1 ws) k 0 lt ∙ get_or-drop 1 ws k 0 ∙ ap (λ i. get_or ws i 0) (omega arith))))

pub decode_by : (ws : List ℕ) (x : ℕ × Table) (b : Bool) → x ≡ slot_loose ws → b ≡ same ws (slot_words (length ws) x.0 x.1) → cond b (Some x) None ≡ decode_slot ws
decode_by ws x b e k =
    ap (λ d. cond d (Some x) None) k ∙ ap (λ (y : ℕ × Table). cond (same ws (slot_words (length ws) y.0 y.1)) (Some y) None) e

pub every_at : {A : Type 0} (f : A → Bool) (xs : List A) (i : ℕ) (d : A) → every f xs ≡ true → i < length xs → f (get_or xs i d) ≡ true
every_at f [] i d h l = absurd (omega arith)
every_at f (x ∷ xs) zero d h l = (and_parts (f x) (every f xs) h).0
every_at f (x ∷ xs) (suc i) d h l = every_at f xs i d (and_parts (f x) (every f xs) h).1 (omega arith)

-- What is read is what was written.
clone_back : (o : Option Root) → CloneFits o → clone_read (clone_word o) ≡ o
clone_back None h = refl
clone_back (Some r) h =
    let x : ℕ = word_of 7 (r.0 * 65536 + r.1) in
    let e : clone_read x ≡ Some (x % 268435456 / 65536, x % 65536) = ap (λ t. cond t None (Some (x % 268435456 / 65536, x % 65536))) (ne_eqb x 0 (λ e. absurd (omega arith))) in
    let a : x % 268435456 / 65536 ≡ r.0 = omega arith in
    let b : x % 65536 ≡ r.1 = omega arith in
    e ∙ ap₂ {C = Option Root} (λ (i j : ℕ). Some (i, j)) a b

table_back : (t : Table) → ((i : ℕ) → i < length t → CloneFits (get_or t i None)) → map clone_read (map clone_word t) ≡ t
table_back [] h = refl
table_back (o ∷ t) h = ap₂ {C = Table} (λ (x : Option Root) (xs : Table). x ∷ xs) (clone_back o (h 0 (omega arith))) (table_back t (λ i l. h (suc i) (omega arith)))

front : (n : ℕ) (xs ys : List ℕ) → length xs ≡ n → take n (xs ++ ys) ≡ xs
front n xs ys e = take-append-le n xs ys (omega arith) ∙ take_all n xs (omega arith)

loose_back : (w g : ℕ) (t : Table) → FormFits w g t → slot_loose (slot_words w g t) ≡ (g, t)
loose_back w g t y =
    let R : List ℕ = replicate (w - 25) 0 in
    let a : word_of 6 g % 268435456 ≡ g = omega (arith, y.generation) in
    let b : map clone_read (take 24 (map clone_word t ++ R)) ≡ t
    = ap (map clone_read) (front 24 (map clone_word t) R (length-map t clone_word ∙ y.places)) ∙ table_back t (λ i l. y.clones i (omega (arith, y.places))) in
    ap₂ (λ (i : ℕ) (j : Table). (i, j)) a b

pub slot_length : (w g : ℕ) (t : Table) → 32 ≤ w → length t ≡ 24 → length (slot_words w g t) ≡ w
slot_length w g t h l = omega (arith, length-append (map clone_word t) (replicate (w - 25) 0), length-map t clone_word, length-replicate {A = ℕ} (w - 25) 0)

pub form_back : (w g : ℕ) (t : Table) → FormFits w g t → decode_slot (slot_words w g t) ≡ Some (g, t)
form_back w g t y =
    let W : List ℕ = slot_words w g t in
    ap (λ (x : ℕ × Table). cond (same W (slot_words (length W) x.0 x.1)) (Some x) None) (loose_back w g t y)
    ∙ ap (λ k. cond (same W (slot_words k g t)) (Some (g, t)) None) (slot_length w g t y.wide y.places)
    ∙ ap (λ b. cond b (Some (g, t)) None) (same_refl W)

form_by : (ws : List ℕ) (x y : ℕ × Table) (b : Bool) → b ≡ same ws (slot_words (length ws) x.0 x.1) → cond b (Some x) None ≡ Some y → ws ≡ slot_words (length ws) y.0 y.1
form_by ws x y false e h = absurd (let z : ◌≡◌ {A = ℕ} 0 1 = cc in omega arith)
form_by ws x y true e h =
    let q : x ≡ y = cc in
    same_eq ws (slot_words (length ws) x.0 x.1) (sym e) ∙ ap (λ (z : ℕ × Table). slot_words (length ws) z.0 z.1) q

pub forms_exact : FormsExact
forms_exact = (
  (λ ws g t h. form_by ws (slot_loose ws) (g, t) (same ws (slot_words (length ws) (slot_loose ws).0 (slot_loose ws).1)) refl h),
  form_back,
)

-- A root that stands fits its word.
rooted_fits : (n : ℕ) → n ≤ 4096 → (o : Option Root) → rooted n o ≡ true → CloneFits o
rooted_fits n k None h = tt
rooted_fits n k (Some r) h =
    let a = and_parts (leb 1 r.0 && leb r.0 5) (leb 2 r.1 && ltb r.1 n) h in
    let b = leb-true r.0 5 (and_parts (leb 1 r.0) (leb r.0 5) a.0).1 in
    let c = ltb-true r.1 n (and_parts (leb 2 r.1) (ltb r.1 n) a.1).1 in
    (omega (arith, b), omega (arith, c))

form_of : (n w g : ℕ) (t : Table) → SlotFits n w g t → FormFits w g t
form_of n w g t f = record {
  wide = f.wide;
  generation = f.generation;
  places = f.places;
  clones = λ i l. rooted_fits n f.blocks (get_or t i None) (every_at (rooted n) t i None f.roots (omega (arith, f.places)));
}

pub slot_back : (n w g : ℕ) (t : Table) → SlotFits n w g t → slot_read n (g % 2) (slot_words w g t) ≡ Some (g, t)
slot_back n w g t f =
    ap (if_stands n (g % 2)) (form_back w g t (form_of n w g t f))
    ∙ ap (λ b. cond b (Some (g, t)) None) (and_from (eqb (g % 2) (g % 2)) (every (rooted n) t) (eq-eqb (g % 2) (g % 2) refl) f.roots)

stands_by : (n b : ℕ) (x y : ℕ × Table) (k : Bool) → k ≡ slot_stands n b x → cond k (Some x) None ≡ Some y → (x ≡ y) × (y.0 % 2 ≡ b) × (every (rooted n) y.1 ≡ true)
stands_by n b x y false e h = absurd (let z : ◌≡◌ {A = ℕ} 0 1 = cc in omega arith)
stands_by n b x y true e h =
    let q : x ≡ y = cc in
    let p = and_parts (eqb (x.0 % 2) b) (every (rooted n) x.1) (sym e) in
    (q, ap (λ (z : ℕ × Table). z.0 % 2) (sym q) ∙ eqb-true (x.0 % 2) b p.0, ap (λ (z : ℕ × Table). every (rooted n) z.1) (sym q) ∙ p.1)

read_by : (n b : ℕ) (ws : List ℕ) (o : Option (ℕ × Table)) (g : ℕ) (t : Table) → decode_slot ws ≡ o → if_stands n b o ≡ Some (g, t)
    → (ws ≡ slot_words (length ws) g t) × (g % 2 ≡ b) × (every (rooted n) t ≡ true)
read_by n b ws None g t e h = absurd (let z : ◌≡◌ {A = ℕ} 0 1 = cc in omega arith)
read_by n b ws (Some x) g t e h =
    let p = stands_by n b x (g, t) (slot_stands n b x) refl h in
    (forms_exact.0 ws g t (e ∙ ap (λ (z : ℕ × Table). Some z) p.0), p.1, p.2)

pub slots_exact : SlotsExact
slots_exact = ((λ n b ws g t h. read_by n b ws (decode_slot ws) g t refl h), slot_back)
