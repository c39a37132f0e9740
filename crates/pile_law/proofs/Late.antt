-- A cut at a moment of a write as a cut after it, and one at a moment of a flush as a cut before it, in both runs.
use Rattle.std.proofs.Common.{◌≡◌, ℕ, zero, suc, ◌+◌, ◌<◌, min, Bool, true, false, cond, eqb, List, [], ◌∷◌, sym, refl, ap, ◌∙◌, subst, subst₂, ap₂, ⊎_elim, arith}
use Rattle.std.proofs.ByRecursion.{All-get_or}
use Rattle.std.proofs.lemmas.Bool.{cases_eq, eq-eqb, ne_eqb}
use Rattle.std.proofs.lemmas.List.{same_lists, get_or_default}
use Rattle.device.specs.Meaning.{Meaning, Content, Cell, Lawful, LawfulCell, flushed, written, written_cell, no_cell, blocks_of, cell_at}
use Rattle.device.specs.Cuts.{Op.write, Op.flush, Choice, Choice.persisted, Choice.current, Choice.other, Cutting, remains, cut}
use Rattle.device.proofs.Choices.{cut_at, cut_blocks, flush_at, write_at, write_off, blocks_apply}
use Rattle.check_layer.specs.Checked.{with_check}
use Rattle.piles.specs.Piles.{Pile, Pile.bottom, Pile.check, Pile.quota, Pile.mirror, shows, Built, PerBottom, on, if_done, part, whole, Accepts}
use Rattle.piles.proofs.Devices.{check_accepts, quota_accepts, first_accepts, second_accepts}
use Rattle.pile_law.specs.TwoPiles.{through, Kin, KinPile, SameCall, SameChoices, cut_bottoms}
use Rattle.pile_law.proofs.Kept.{at_two}
use Rattle.pile_law.proofs.Kin.{KinChoice, same_choice, kin_remains, KinCut, KinCuts, same_below}

-- two cuts that leave the same of each block
pub same_cut : (m n : Meaning) (κ κ' : Cutting) → m.width ≡ n.width → blocks_of m ≡ blocks_of n → κ.left ≡ κ'.left → κ.left_mark ≡ κ'.left_mark
    → ((b : ℕ) → b < blocks_of m → remains (cell_at m b).mark (κ.choice b) (cell_at m b) ≡ remains (cell_at n b).mark (κ'.choice b) (cell_at n b))
    → cut κ m ≡ cut κ' n
same_cut m n κ κ' ew eb el em h = λ i. record { width = ew i; cells = cells i; left = el i; left_mark = em i }
  where
    cells : (cut κ m).cells ≡ (cut κ' n).cells
    cells =
        same_lists _ _ (cut_blocks κ m ∙ eb ∙ sym (cut_blocks κ' n))
        (λ b d i.
        let i< : b < blocks_of m = omega (arith, cut_blocks κ m) in
        let i<' : b < blocks_of (cut κ' n) = omega (arith, cut_blocks κ' n, eb) in
        get_or_default (cut κ m).cells b d no_cell i ∙ cut_at κ m b
        ∙ ap (λ x. record { persisted = x; current = x; mark = 0 }) (h b i<)
        ∙ sym (cut_at κ' n b) ∙ get_or_default (cut κ' n).cells b no_cell d i<')

-- what is left of a block that was not written yet: its old content, or where it had a mark already, some other
abbrev stays : ℕ → Content → Choice
stays zero x = persisted
stays (suc n) x = other x

abbrev unbegun : ℕ → Meaning → Cutting → Cutting
unbegun b m κ = record {
  choice = λ i. cond (eqb i b) (stays (cell_at m b).mark (remains (cell_at m b).mark (κ.choice b) (cell_at m b))) (κ.choice i);
  left = κ.left;
  left_mark = κ.left_mark;
}

abbrev all_new : Cutting → Cutting
all_new κ = record { choice = λ i. current; left = κ.left; left_mark = κ.left_mark }

unbegun_here : (b : ℕ) (m : Meaning) (κ : Cutting) → (unbegun b m κ).choice b ≡ stays (cell_at m b).mark (remains (cell_at m b).mark (κ.choice b) (cell_at m b))
unbegun_here b m κ = ap (λ x. cond x (stays (cell_at m b).mark (remains (cell_at m b).mark (κ.choice b) (cell_at m b))) (κ.choice b)) (eq-eqb b b refl)

unbegun_off : (b i : ℕ) (m : Meaning) (κ : Cutting) → (i ≡ b → ⊥) → (unbegun b m κ).choice i ≡ κ.choice i
unbegun_off b i m κ ne = ap (λ x. cond x (stays (cell_at m b).mark (remains (cell_at m b).mark (κ.choice b) (cell_at m b))) (κ.choice i)) (ne_eqb i b ne)

-- of a block that is written next
stays_left : (w : ℕ) (ws : List ℕ) (c : Cell) (k : Choice) → LawfulCell w c → remains c.mark k c ≡ remains (min (c.mark + 1) 2) (stays c.mark (remains c.mark k c)) (written_cell ws c)
stays_left w ws c k l = go c.mark refl
  where
    go : (n : ℕ) → c.mark ≡ n → remains n k c ≡ remains (min (n + 1) 2) (stays n (remains n k c)) (written_cell ws c)
    go zero e = sym (l.clean e)
    go (suc n) e = sym (at_two (min (suc n + 1) 2) (written_cell ws c) (remains (suc n) k c) (omega arith))

cut_unflushed_write : (b : ℕ) (ws : List ℕ) (κ : Cutting) (m : Meaning) → Lawful m → b < blocks_of m → cut κ m ≡ cut (unbegun b m κ) (written m b ws)
cut_unflushed_write b ws κ m l h =
    let k = unbegun b m κ in
    let m' = written m b ws in
    same_cut m m' κ k refl (sym (blocks_apply (write b ws) m)) refl refl (λ i i<.
    ⊎_elim
    (λ (z : i ≡ b).
    subst (λ i. remains (cell_at m i).mark (κ.choice i) (cell_at m i) ≡ remains (cell_at m' i).mark (k.choice i) (cell_at m' i)) (sym z)
    (stays_left m.width ws (cell_at m b) (κ.choice b) (All-get_or (LawfulCell m.width) m.cells b no_cell h l.cells)
    ∙ sym (ap₂ (λ (c : Cell) x. remains c.mark x c) (write_at m b ws h) (unbegun_here b m κ))))
    (λ (ne : i ≡ b → ⊥). sym (ap₂ (λ (c : Cell) x. remains c.mark x c) (write_off m b i ws ne) (unbegun_off b i m κ ne)))
    (cases_eq i b))

remains_new : (n : ℕ) (c : Cell) → remains n current c ≡ c.current
remains_new zero c = refl
remains_new (suc zero) c = refl
remains_new (suc (suc n)) c = refl

cut_after_flush : (κ : Cutting) (m : Meaning) → cut κ (flushed m) ≡ cut (all_new κ) m
cut_after_flush κ m =
    same_cut (flushed m) m κ (all_new κ) refl (blocks_apply flush m) refl refl (λ i i<.
    ap (λ (c : Cell). remains c.mark (κ.choice i) c) (flush_at m i) ∙ sym (remains_new (cell_at m i).mark (cell_at m i)))

-- of all bottoms
abbrev pub late_write : ℕ → PerBottom Bool → Pile → PerBottom Cutting → PerBottom Cutting
late_write b d (bottom m) K s = cond (d []) (K []) (unbegun b m (K []))
late_write b d (check p) K s = late_write b d p K s
late_write b d (quota n p) K s = late_write b d p K s
late_write b d (mirror p q) K [] = K []
late_write b d (mirror p q) K (false ∷ s) = late_write b (on false d) p (on false K) s
late_write b d (mirror p q) K (true ∷ s) = late_write b (on true d) q (on true K) s

abbrev pub late_flush : PerBottom Bool → Pile → PerBottom Cutting → PerBottom Cutting
late_flush d (bottom m) K s = cond (d []) (all_new (K [])) (K [])
late_flush d (check p) K s = late_flush d p K s
late_flush d (quota n p) K s = late_flush d p K s
late_flush d (mirror p q) K [] = K []
late_flush d (mirror p q) K (false ∷ s) = late_flush (on false d) p (on false K) s
late_flush d (mirror p q) K (true ∷ s) = late_flush (on true d) q (on true K) s

pub cut_in_write : (b : ℕ) (ws : List ℕ) (d : PerBottom Bool) (p : Pile) (K : PerBottom Cutting) → Built p → Accepts (shows p) (write b ws)
    → cut_bottoms K (part (write b ws) d p) ≡ cut_bottoms (late_write b d p K) (whole (write b ws) p)
cut_in_write b ws d (bottom m) K u a = ap bottom (go (d []))
  where
    go : (x : Bool) → cut (K []) (if_done x (write b ws) m) ≡ cut (cond x (K []) (unbegun b m (K []))) (written m b ws)
    go true = refl
    go false = cut_unflushed_write b ws (K []) m u a.0
cut_in_write b ws d (check p) K u a = ap check (cut_in_write b (with_check ws) d p K u.0 (check_accepts (shows p) u.1 (write b ws) a))
cut_in_write b ws d (quota n p) K u a = ap (quota n) (cut_in_write b ws d p K u.0 (quota_accepts n (shows p) u.1 (write b ws) a))
cut_in_write b ws d (mirror p q) K u a =
    ap₂ mirror (cut_in_write b ws (on false d) p (on false K) u.0 (first_accepts (shows p) (shows q) u.2 (write b ws) a))
    (cut_in_write b ws (on true d) q (on true K) u.1 (second_accepts (shows p) (shows q) u.2 (write b ws) a))

pub cut_in_flush : (d : PerBottom Bool) (p : Pile) (K : PerBottom Cutting) → cut_bottoms K (part flush d p) ≡ cut_bottoms (late_flush d p K) p
cut_in_flush d (bottom m) K = ap bottom (go (d []))
  where
    go : (x : Bool) → cut (K []) (if_done x flush m) ≡ cut (cond x (all_new (K [])) (K [])) m
    go true = cut_after_flush (K []) m
    go false = refl
cut_in_flush d (check p) K = ap check (cut_in_flush d p K)
cut_in_flush d (quota n p) K = ap (quota n) (cut_in_flush d p K)
cut_in_flush d (mirror p q) K = ap₂ mirror (cut_in_flush (on false d) p (on false K)) (cut_in_flush (on true d) q (on true K))

-- the same choices are of one kind, and so are the late ones that they make
kin_choices : (w n b : ℕ) (κ κ₂ : Cutting) → b < 2 → SameChoices κ κ₂ → KinCut w n b κ κ₂
kin_choices w n b κ κ₂ h e = record { choice = subst (KinChoice w n (κ.choice b)) (e.slots b h) (same_choice w n (κ.choice b)); left = e.left; left_mark = e.left_mark }

pub kin_same : (b n : ℕ) (K K₂ : PerBottom Cutting) (p : Pile) → b < 2 → ((s : List Bool) → SameChoices (K s) (K₂ s)) → KinCuts b n K K₂ p
kin_same b n K K₂ (bottom m) h e = kin_choices m.width n b (K []) (K₂ []) h (e [])
kin_same b n K K₂ (check p) h e = kin_same b (suc n) K K₂ p h e
kin_same b n K K₂ (quota i p) h e = kin_same b n K K₂ p h e
kin_same b n K K₂ (mirror p q) h e = (kin_same b n (on false K) (on false K₂) p h (λ s. e (false ∷ s)), kin_same b n (on true K) (on true K₂) q h (λ s. e (true ∷ s)))

kin_stays : (w n i : ℕ) (x y : Content) → Kin w n x y → KinChoice w n (stays i x) (stays i y)
kin_stays w n zero x y h = tt
kin_stays w n (suc i) x y h = h

kin_unbegun : (b n x y : ℕ) (us vs : List ℕ) (κ κ₂ : Cutting) (m m₂ : Meaning) → b < 2 → KinPile b n (bottom m) (bottom m₂) → SameCall b n (write x us) (write y vs) → SameChoices κ κ₂
    → KinCut m.width n b (unbegun x m κ) (unbegun y m₂ κ₂)
kin_unbegun b n x y us vs κ κ₂ m m₂ h k s e = record { choice = ⊎_elim here off s; left = e.left; left_mark = e.left_mark }
  where
    off : (x ≡ b → ⊥) × (y ≡ b → ⊥) → KinChoice m.width n ((unbegun x m κ).choice b) ((unbegun y m₂ κ₂).choice b)
    off z =
        subst₂ (KinChoice m.width n) (sym (unbegun_off x b m κ (λ i. z.0 (sym i)))) (sym (unbegun_off y b m₂ κ₂ (λ i. z.1 (sym i))))
        (kin_choices m.width n b κ κ₂ h e).choice

    at_b : KinChoice m.width n ((unbegun b m κ).choice b) ((unbegun b m₂ κ₂).choice b)
    at_b =
        let c = cell_at m b in
        let d = cell_at m₂ b in
        subst₂ (KinChoice m.width n) (sym (unbegun_here b m κ)) (sym (unbegun_here b m₂ κ₂))
        (subst (λ i. KinChoice m.width n (stays c.mark (remains c.mark (κ.choice b) c)) (stays i (remains i (κ₂.choice b) d))) k.cell.mark
        (kin_stays m.width n c.mark (remains c.mark (κ.choice b) c) (remains c.mark (κ₂.choice b) d)
        (kin_remains m.width n c.mark (κ.choice b) (κ₂.choice b) c d (kin_choices m.width n b κ κ₂ h e).choice k.cell.persisted k.cell.current)))

    here : (x ≡ b) × (y ≡ b) × ((ws : List ℕ) × (us ≡ through n ws)) × ((ws : List ℕ) × (vs ≡ through n ws))
        → KinChoice m.width n ((unbegun x m κ).choice b) ((unbegun y m₂ κ₂).choice b)
    here z = subst₂ (λ i j. KinChoice m.width n ((unbegun i m κ).choice b) ((unbegun j m₂ κ₂).choice b)) (sym z.0) (sym z.1) at_b

pub kin_in_write : (b n x y : ℕ) (us vs : List ℕ) (d : PerBottom Bool) (p p₂ : Pile) (K K₂ : PerBottom Cutting) → b < 2 → KinPile b n p p₂
    → SameCall b n (write x us) (write y vs) → ((s : List Bool) → SameChoices (K s) (K₂ s)) → KinCuts b n (late_write x d p K) (late_write y d p₂ K₂) (whole (write x us) p)
kin_in_write b n x y us vs d (bottom m) (bottom m₂) K K₂ h k s e = go (d [])
  where
    go : (z : Bool) → KinCut m.width n b (cond z (K []) (unbegun x m (K []))) (cond z (K₂ []) (unbegun y m₂ (K₂ [])))
    go true = kin_choices m.width n b (K []) (K₂ []) h (e [])
    go false = kin_unbegun b n x y us vs (K []) (K₂ []) m m₂ h k s (e [])
kin_in_write b n x y us vs d (check p) (check q) K K₂ h k s e =
    kin_in_write b (suc n) x y (with_check us) (with_check vs) d p q K K₂ h k (same_below b n (write x us) (write y vs) s) e
kin_in_write b n x y us vs d (quota i p) (quota j q) K K₂ h k s e = kin_in_write b n x y us vs d p q K K₂ h k.1 s e
kin_in_write b n x y us vs d (mirror p q) (mirror r t) K K₂ h k s e = (
  kin_in_write b n x y us vs (on false d) p r (on false K) (on false K₂) h k.0 s (λ i. e (false ∷ i)),
  kin_in_write b n x y us vs (on true d) q t (on true K) (on true K₂) h k.1 s (λ i. e (true ∷ i)),
)
kin_in_write b n x y us vs d p q K K₂ h k s e = absurd k

pub kin_in_flush : (b n : ℕ) (d : PerBottom Bool) (p p₂ : Pile) (K K₂ : PerBottom Cutting) → b < 2 → KinPile b n p p₂
    → ((s : List Bool) → SameChoices (K s) (K₂ s)) → KinCuts b n (late_flush d p K) (late_flush d p₂ K₂) p
kin_in_flush b n d (bottom m) (bottom m₂) K K₂ h k e = go (d [])
  where
    go : (z : Bool) → KinCut m.width n b (cond z (all_new (K [])) (K [])) (cond z (all_new (K₂ [])) (K₂ []))
    go true = record { choice = tt; left = (e []).left; left_mark = (e []).left_mark }
    go false = kin_choices m.width n b (K []) (K₂ []) h (e [])
kin_in_flush b n d (check p) (check q) K K₂ h k e = kin_in_flush b (suc n) d p q K K₂ h k e
kin_in_flush b n d (quota i p) (quota j q) K K₂ h k e = kin_in_flush b n d p q K K₂ h k.1 e
kin_in_flush b n d (mirror p q) (mirror r t) K K₂ h k e = (
  kin_in_flush b n (on false d) p r (on false K) (on false K₂) h k.0 (λ i. e (false ∷ i)),
  kin_in_flush b n (on true d) q t (on true K) (on true K₂) h k.1 (λ i. e (true ∷ i)),
)
kin_in_flush b n d p q K K₂ h k e = absurd k
