-- The device calls of a step are accepted: each writes a block's words to a block that is there, and a write is left for it.
use Rattle.std.proofs.Common.{◌≡◌, ℕ, suc, ◌-◌, ◌%◌, ◌≤◌, Bool, true, false, cond, eqb, ltb, List, [], ◌∷◌, length, Some, None, Ok, Err, Option, Result, sym, refl, ap, ◌∙◌, subst, arith}
use Rattle.std.proofs.lemmas.Bool.{ltb-false}
use Rattle.device.specs.Meaning.{Meaning, Words, blocks_of, current_at, spent}
use Rattle.device.specs.Cuts.{Op, Op.write, Op.flush, apply, replay}
use Rattle.device.proofs.Choices.{blocks_apply}
use Rattle.tree.specs.Node.{tally}
use Rattle.tree.specs.Tree.{Wf, blocks, over_root}
use Rattle.tree.specs.Stored.{same, is_new}
use Rattle.tree.specs.Numbered.{news}
use Rattle.tree.proofs.News.{few_new}
use Rattle.tree.proofs.Stores.{over_tally}
use Rattle.tree.proofs.Laid.{same_rule}
use Rattle.tree.proofs.Over.{over_rows}
use Rattle.page.specs.Slot.{Table, slot_words}
use Rattle.table.specs.Rows.{payload_of}
use Rattle.model.specs.declared.refusal.Refusal.{Refusal}
use Rattle.model.specs.declared.refusal.Refusal.TheVariants.{Worn, Last}
use Rattle.model.specs.Plain.{Map, Ask, Answer, has, early, answer}
use Rattle.model.specs.Plain.{Ask.create, Ask.clone, Ask.delete, Ask.put, Ask.remove, Ask.get, Ask.at, Ask.rows, Ask.summary, Ask.seal, Call, Call.ask, Call.finish, Call.reopen, Call.mount, Answer.done, Answer.refused}
use Rattle.model.specs.TreeBlocks.{Each, Tree, Change, Change.begin, Change.puts, Change.takes, changed}
use Rattle.model.specs.Model.{Model, maps_of, holds, late, refusal, source, tree_of}
use Rattle.model.specs.World.{Tables, Mode, Mode.mounted, Mode.sealed, Mode.down, model_of, shape, FreeWrite, Changed, Effect, Quiet, Mounts, Step, found, fresh}
use Rattle.model.proofs.Walks.{either_none}
use Rattle.model.proofs.Grants.{Start, first_none, enough_left, put_start, remove_start, sizes_parts}
use Rattle.model.proofs.TreeLaws.{needed, writes_form}
use Rattle.model.proofs.Histories.{Fine, Base}
use Rattle.model.proofs.Encoded.{slot_encoded}
use Rattle.piles.specs.Piles.{Accepts}
use Rattle.pile_law.proofs.Twins.{changed_length}

-- a device of this meaning refuses none of the calls
abbrev pub AcceptsAll : Meaning → List Op → Type 0
AcceptsAll m [] = Unit
AcceptsAll m (o ∷ os) = Accepts m o × AcceptsAll (apply o m) os

spent_more : (k n : ℕ) → suc k ≤ n → k ≤ spent n
spent_more k n h = go (eqb n 4294967295)
  where
    go : (b : Bool) → k ≤ cond b n (n - 1)
    go true = omega arith
    go false = omega arith

-- writes to free blocks, while writes are left
free_accepted : (t : Tables) (m n : Meaning) (os : List Op) → blocks_of n ≡ blocks_of m → n.width ≡ m.width → length os ≤ n.left → Each (FreeWrite t m) os → AcceptsAll n os
free_accepted t m n [] eb ew h f = tt
free_accepted t m n (write b ws ∷ os) eb ew h f = (
  (omega (arith, f.0.1, eb), subst (λ w. Words w ws) (sym ew) f.0.3, omega arith),
  free_accepted t m (apply (write b ws) n) os (blocks_apply (write b ws) n ∙ eb) ew (spent_more (length os) n.left h) f.1,
)
free_accepted t m n (flush ∷ os) eb ew h f = absurd f.0

tally_zero : {Y : Type 0} (ys : List Y) → tally (λ y. 0) ys ≡ 0
tally_zero [] = refl
tally_zero (y ∷ ys) = omega (arith, tally_zero ys)

-- so many blocks are new at most
few : (d : Change ℕ) (t : Tree) → Wf ℕ ℕ t.0 t.1 → news ℕ (changed ℕ d t) ≤ needed d t
few begin t w = omega arith
few (puts s a) t w =
    let u = over_root Some same t in
    let n = (few_new (Option ℕ) ℕ None is_new refl s a u ((over_rows ℕ ℕ (Option ℕ) ℕ Some same t).1 w)).0 in
    omega (arith, n, over_tally {M = ℕ} {P = ℕ} Some same (λ b. 0) is_new (λ b. refl) (suc t.0) t.1, tally_zero (blocks ℕ ℕ t.0 t.1))
few (takes s) t w =
    let u = over_root Some same t in
    let n = (few_new (Option ℕ) ℕ None is_new refl s 0 u ((over_rows ℕ ℕ (Option ℕ) ℕ Some same t).1 w)).1 in
    omega (arith, n, over_tally {M = ℕ} {P = ℕ} Some same (λ b. 0) is_new (λ b. refl) (suc t.0) t.1, tally_zero (blocks ℕ ℕ t.0 t.1))

-- while a volume is sealed a write is left, for the slot
abbrev pub Spare : Mode → Meaning → Type 0
Spare (mounted t) m = Unit
Spare (sealed t) m = 1 ≤ m.left
Spare down m = Unit

abbrev Fits : Meaning → List Op → Mode → Meaning → Type 0
Fits m os w' m' = AcceptsAll m os × Spare w' m'

quietly : (m m' : Meaning) (os : List Op) (w' : Mode) (x : Tables) → (os ≡ []) × (w' ≡ mounted x) → Fits m os w' m'
quietly m m' os w' x q = (subst (AcceptsAll m) (sym q.0) tt, subst (λ w. Spare w m') (sym q.1) tt)

module _ (t : Tables) (m : Meaning) (B : Base t m) where
  abbrev M : Model
  M = model_of t m

  sown : (n : ℕ) (d : Change ℕ) (os : List Op) (w' : Mode) (m' : Meaning) → news ℕ (changed ℕ d (source M n d)) ≤ m.left → Changed t m n d os w' m' → Fits m os w' m'
  sown n d os w' m' h C = (
    free_accepted t m m os refl refl (omega (arith, changed_length t m n d os w' m' C, writes_form d (source M n d), h)) C.0,
    subst (λ w. Spare w m') (sym C.2) tt,
  )

  grown : (n : ℕ) (d : Change ℕ) → Start t m B.kept.sized B.goods n d → source M n d ≡ tree_of M n → news ℕ (changed ℕ d (source M n d)) ≤ m.left
  grown n d S e =
      let x = few d (tree_of M n) ((same_rule ℕ ℕ (tree_of M n).0 (tree_of M n).1).1 S.sound.laid) in
      subst (λ u. news ℕ (changed ℕ d u) ≤ m.left) (sym e) (omega (arith, x, S.spare))

  asked : (q : Ask) (os : List Op) (w' : Mode) (m' : Meaning) → refusal (shape t m) q ≡ None → m' ≡ replay os m → Effect t m q os w' m' → Fits m os w' m'
  asked (create n) os w' m' e r E = sown n begin os w' m' (enough_left t m B.kept.sized B.goods n 1 (either_none (early (has (shape t m).working) (create n)) (late (shape t m) (create n)) e).1) E
  asked (clone f n) os w' m' e r E = quietly m m' os w' _ E
  asked (delete n) os w' m' e r E = quietly m m' os w' _ E
  asked (put n s a) os w' m' e r E = sown n (puts s (payload_of a)) os w' m' (grown n (puts s (payload_of a)) (put_start t m B.kept.sized B.goods n s a e).0 refl) E
  asked (remove n s) os w' m' e r E = go (holds (shape t m) n s) refl E
    where
      go : (k : Bool) → holds (shape t m) n s ≡ k → cond k (Changed t m n (takes s) os w' m') (Quiet (mounted t) os w') → Fits m os w' m'
      go true h E = sown n (takes s) os w' m' (grown n (takes s) (remove_start t m B.kept.sized B.goods n s e h) refl) E
      go false h E = quietly m m' os w' t E
  asked (get n s) os w' m' e r E = quietly m m' os w' t E
  asked (at n s) os w' m' e r E = quietly m m' os w' t E
  asked (rows n s k) os w' m' e r E = quietly m m' os w' t E
  asked (summary k n) os w' m' e r E = quietly m m' os w' t E
  asked seal os w' m' e r E =
      let l = first_none (ltb m.left 1) (Worn None m.left_mark) ((eqb t.generation 268435455, Last) ∷ []) (either_none (early (has (shape t m).working) seal) (late (shape t m) seal) e).1 in
      let kept : m'.left ≡ m.left = ap (λ x. x.left) (r ∙ ap (λ os. replay os m) E.0) in (
        subst (AcceptsAll m) (sym E.0) (tt, tt),
        subst (λ w. Spare w m') (sym E.1) (omega (arith, kept, ltb-false m.left 1 l.0)),
      )

module _ (V : Type 0) (join : ℕ → Map → V) where
  mounts : (m m' : Meaning) (a : Answer V) (os : List Op) (w' : Mode) → Mounts V join m a os w' → Fits m os w' m'
  mounts m m' a os w' S = (subst (AcceptsAll m) (sym S.0) tt, go (found m) S.1)
    where
      go : (o : Result (ℕ × Table) Refusal) → elim o as (λ _. Type 0) [ Ok x ↦ (a ≡ done) × (w' ≡ mounted (fresh x)) | Err r ↦ (a ≡ refused r) × (w' ≡ down) ] → Spare w' m'
      go (Ok x) D = subst (λ w. Spare w m') (sym D.1) tt
      go (Err r) D = subst (λ w. Spare w m') (sym D.1) tt

  pub step_accepted : (w : Mode) (m : Meaning) (c : Call) (a : Answer V) (os : List Op) (w' : Mode) (m' : Meaning) (M : Model) → Fine M w m → Spare w m → Step V join w m c a os w' m' → Fits m os w' m'
  unfolding Fine
  step_accepted (mounted t) m (ask q) a os w' m' M f s S = go (refusal (shape t m) q) refl S.1
    where
      go : (o : Option Refusal) → refusal (shape t m) q ≡ o
          → elim o as (λ _. Type 0) [ Some r ↦ (a ≡ refused r) × Quiet (mounted t) os w' | None ↦ (a ≡ answer V join (maps_of (model_of t m).working) q) × Effect t m q os w' m' ]
          → Fits m os w' m'
      go (Some r) e D = quietly m m' os w' t D.1
      go None e D = asked t m f.0 q os w' m' e S.0 D.1
  step_accepted (mounted t) m finish a os w' m' M f s S = absurd S.1
  step_accepted (mounted t) m reopen a os w' m' M f s S = absurd S.1
  step_accepted (mounted t) m mount a os w' m' M f s S = mounts m m' a os w' S.1
  step_accepted (sealed t) m (ask q) a os w' m' M f s S = absurd S.1
  step_accepted (sealed t) m finish a os w' m' M f s S =
      let z = sizes_parts (blocks_of m) m.width f.0.kept.sized in
      let b = suc t.generation % 2 in
      let ws = slot_words m.width (suc t.generation) t.working in (
        subst (AcceptsAll m) (sym S.1.1)
            ((omega (arith, z.0), slot_encoded (blocks_of m) m.width (suc t.generation) (current_at m) t.working f.0.kept.sized f.0.len f.0.goods f.2, s), (tt, tt)),
        subst (λ w. Spare w m') (sym S.1.2) tt,
      )
  step_accepted (sealed t) m reopen a os w' m' M f s S = quietly m m' os w' t S.1.1
  step_accepted (sealed t) m mount a os w' m' M f s S = absurd S.1
  step_accepted down m (ask q) a os w' m' M f s S = absurd S.1
  step_accepted down m finish a os w' m' M f s S = absurd S.1
  step_accepted down m reopen a os w' m' M f s S = absurd S.1
  step_accepted down m mount a os w' m' M f s S = mounts m m' a os w' S.1
