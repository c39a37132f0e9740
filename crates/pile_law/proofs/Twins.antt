-- The device calls of one call in two runs are alike at the slots.
use Rattle.std.proofs.Common.{◌≡◌, ℕ, suc, ◌%◌, ◌<◌, Bool, true, false, cond, List, [], ◌∷◌, get_or, length, Some, None, Ok, Err, Option, Result, sym, refl, ap, ◌∙◌, subst, inl, inr, ⊎_elim, arith}
use Rattle.std.proofs.lemmas.Bool.{cases_eq}
use Rattle.std.proofs.lemmas.List.{length-map}
use Rattle.device.specs.Meaning.{Meaning}
use Rattle.device.specs.Cuts.{Op, Op.write, Op.flush}
use Rattle.tree.specs.Apart.{places}
use Rattle.page.specs.Slot.{Table, slot_words}
use Rattle.table.specs.Rows.{payload_of}
use Rattle.model.specs.declared.refusal.Refusal.{Refusal}
use Rattle.model.specs.Plain.{Map, Ask, Answer}
use Rattle.model.specs.Plain.{Ask.create, Ask.clone, Ask.delete, Ask.put, Ask.remove, Ask.get, Ask.at, Ask.rows, Ask.summary, Ask.seal, Call.ask, Call.finish, Call.reopen, Call.mount, Answer.done, Answer.refused}
use Rattle.model.specs.TreeBlocks.{Each, Change, Change.begin, Change.puts, Change.takes, changed, new_blocks, writes, form, without_angle}
use Rattle.model.specs.Model.{Model, shape_of, free, holds, refusal, source}
use Rattle.model.specs.Ideal.{writes_for}
use Rattle.model.specs.World.{Tables, Mode, Mode.mounted, Mode.sealed, Mode.down, model_of, shape, targets, FreeWrite, Changed, Effect, Quiet, Mounts, Step, found, fresh, finishing}
use Rattle.model.specs.TwoRuns as tw
use Rattle.model.specs.TwoRuns.{Both, Both.alike, Legal, Marks, one, two}
use Rattle.model.proofs.Counting.{same_length, targets_length, places_length}
use Rattle.model.proofs.TreeLaws.{writes_form}
use Rattle.model.proofs.Frames.{IsWrite, each_map}
use Rattle.model.proofs.Histories.{Fine, are_writes, step_fine}
use Rattle.model.proofs.TwoRuns.{Rel, form_source, source_s, put_refusals}
use Rattle.pile_law.specs.TwoPiles.{SameCall}

-- device calls of both runs, alike at the slots: one by one both write that slot, or neither does, or both flush
abbrev pub SameCalls : List Op → List Op → Type 0
SameCalls [] [] = Unit
SameCalls (o ∷ os) (o₂ ∷ os₂) = ((b : ℕ) → b < 2 → SameCall b 0 o o₂) × SameCalls os os₂
SameCalls os os₂ = ⊥

-- the modes of the two runs
unfoldable pub SameMode : Mode → Mode → Type 0
SameMode (mounted t) (mounted u) = Unit
SameMode (sealed t) (sealed u) = Unit
SameMode down down = Unit
SameMode (mounted t) (sealed u) = ⊥
SameMode (mounted t) down = ⊥
SameMode (sealed t) (mounted u) = ⊥
SameMode (sealed t) down = ⊥
SameMode down (mounted u) = ⊥
SameMode down (sealed u) = ⊥

abbrev pub Alike : List Op → List Op → Mode → Mode → Type 0
Alike os os₂ w w₂ = SameCalls os os₂ × SameMode w w₂

pub changed_length : (t : Tables) (m : Meaning) (n : ℕ) (d : Change ℕ) (os : List Op) (w' : Mode) (m' : Meaning) → Changed t m n d os w' m' → length os ≡ writes_for (model_of t m) n d
changed_length t m n d os w' m' G =
    let ws : Each IsWrite os = each_map (FreeWrite t m) IsWrite (are_writes t m) os G.0 in
    let ps : List ℕ = places ℕ (changed ℕ d (source (model_of t m) n d)) in
    sym (targets_length os ws) ∙ same_length (targets os) (new_blocks d (free (shape t m)) (source (model_of t m) n d)) G.1
    ∙ length-map ps (λ i. get_or (free (shape t m)) i 0) ∙ places_length ℕ (changed ℕ d (source (model_of t m) n d)) ∙ writes_form d (source (model_of t m) n d)

-- writes to free blocks are away from the slots
away : (t u : Tables) (m m₂ : Meaning) (os os₂ : List Op) → length os ≡ length os₂ → Each (FreeWrite t m) os → Each (FreeWrite u m₂) os₂ → SameCalls os os₂
away t u m m₂ [] [] e f g = tt
away t u m m₂ (write x ws ∷ os) (write y vs ∷ os₂) e f g =
    ((λ b h. inr ((λ z. absurd (let l = f.0.0 in omega arith)), (λ z. absurd (let l = g.0.0 in omega arith)))), away t u m m₂ os os₂ (omega arith) f.1 g.1)
away t u m m₂ (flush ∷ os) (o ∷ os₂) e f g = absurd f.0
away t u m m₂ (write x ws ∷ os) (flush ∷ os₂) e f g = absurd g.0
away t u m m₂ [] (o ∷ os₂) e f g = absurd (omega arith)
away t u m m₂ (o ∷ os) [] e f g = absurd (omega arith)

none : (os os₂ : List Op) → os ≡ [] → os₂ ≡ [] → SameCalls os os₂
none os os₂ e f = subst (λ x. SameCalls x os₂) (sym e) (subst (SameCalls []) (sym f) tt)

modes : (w w₂ v v₂ : Mode) → w ≡ v → w₂ ≡ v₂ → SameMode v v₂ → SameMode w w₂
modes w w₂ v v₂ e f s = subst (λ x. SameMode x w₂) (sym e) (subst (SameMode v) (sym f) s)

quiet : (t u : Tables) (os os₂ : List Op) (w w₂ : Mode) (x y : Tables) → Quiet (mounted x) os w → Quiet (mounted y) os₂ w₂ → Alike os os₂ w w₂
unfolding SameMode
quiet t u os os₂ w w₂ x y q r = (none os os₂ q.0 r.0, modes w w₂ (mounted x) (mounted y) q.1 r.1 tt)

module _ (t u : Tables) (m m₂ : Meaning) (e : shape t m ≡ shape u m₂) where
  changes : (n : ℕ) (d d₂ : Change ℕ) (os os₂ : List Op) (w w₂ : Mode) (m' m₂' : Meaning) → without_angle d ≡ without_angle d₂
      → source_s (shape t m) n d ≡ source_s (shape t m) n d₂
      → Changed t m n d os w m' → Changed u m₂ n d₂ os₂ w₂ m₂' → Alike os os₂ w w₂
  unfolding SameMode
  changes n d d₂ os os₂ w w₂ m' m₂' ed es G H = (
    away t u m m₂ os os₂
        (changed_length t m n d os w m' G
        ∙ ap (writes (without_angle d)) (form_source (model_of t m) n d ∙ es ∙ ap (λ S. source_s S n d₂) e ∙ sym (form_source (model_of u m₂) n d₂))
        ∙ ap (λ x. writes x (form (source (model_of u m₂) n d₂))) ed
        ∙ sym (changed_length u m₂ n d₂ os₂ w₂ m₂' H))
        G.0 H.0,
    modes w w₂ _ _ G.2 H.2 tt,
  )

  effects : (q : Ask) (os os₂ : List Op) (w w₂ : Mode) (m' m₂' : Meaning) → Effect t m q os w m' → Effect u m₂ q os₂ w₂ m₂' → Alike os os₂ w w₂
  unfolding SameMode
  effects (create n) os os₂ w w₂ m' m₂' G H = changes n begin begin os os₂ w w₂ m' m₂' refl refl G H
  effects (clone f n) os os₂ w w₂ m' m₂' G H = quiet t u os os₂ w w₂ _ _ G H
  effects (delete n) os os₂ w w₂ m' m₂' G H = quiet t u os os₂ w w₂ _ _ G H
  effects (put n s a) os os₂ w w₂ m' m₂' G H = changes n (puts s (payload_of a)) (puts s (payload_of a)) os os₂ w w₂ m' m₂' refl refl G H
  effects (remove n s) os os₂ w w₂ m' m₂' G H = go (holds (shape t m) n s) (holds (shape u m₂) n s) (ap (λ S. holds S n s) e) G H
    where
      go : (k l : Bool) → k ≡ l → cond k (Changed t m n (takes s) os w m') (Quiet (mounted t) os w) → cond l (Changed u m₂ n (takes s) os₂ w₂ m₂') (Quiet (mounted u) os₂ w₂) → Alike os os₂ w w₂
      go true true p G H = changes n (takes s) (takes s) os os₂ w w₂ m' m₂' refl refl G H
      go false false p G H = quiet t u os os₂ w w₂ _ _ G H
      go true false p G H = let z : ◌≡◌ {A = Bool} true false = p in absurd (cc)
      go false true p G H = let z : ◌≡◌ {A = Bool} false true = p in absurd (cc)
  effects (get n s) os os₂ w w₂ m' m₂' G H = quiet t u os os₂ w w₂ _ _ G H
  effects (at n s) os os₂ w w₂ m' m₂' G H = quiet t u os os₂ w w₂ _ _ G H
  effects (rows n s k) os os₂ w w₂ m' m₂' G H = quiet t u os os₂ w w₂ _ _ G H
  effects (summary k n) os os₂ w w₂ m' m₂' G H = quiet t u os os₂ w w₂ _ _ G H
  effects seal os os₂ w w₂ m' m₂' G H = (
    subst (λ x. SameCalls x os₂) (sym G.0) (subst (SameCalls (flush ∷ [])) (sym H.0) ((λ b h. tt), tt)),
    modes w w₂ _ _ G.1 H.1 tt,
  )

module _ (V : Type 0) (join : ℕ → Map → V) where
  asked : (t u : Tables) (q q₂ : Ask) (m m₂ : Meaning) (a a₂ b b₂ : Answer V) (os os₂ : List Op) (v v₂ : Mode) (m' m₂' : Meaning)
      → (Effect t m q os v m' → Effect u m₂ q₂ os₂ v₂ m₂' → Alike os os₂ v v₂)
      → (o o₂ : Option Refusal) → o ≡ o₂
      → elim o as (λ _. Type 0) [ Some r ↦ (a ≡ refused r) × Quiet (mounted t) os v | None ↦ (a ≡ b) × Effect t m q os v m' ]
      → elim o₂ as (λ _. Type 0) [ Some r ↦ (a₂ ≡ refused r) × Quiet (mounted u) os₂ v₂ | None ↦ (a₂ ≡ b₂) × Effect u m₂ q₂ os₂ v₂ m₂' ]
      → Alike os os₂ v v₂
  asked t u q q₂ m m₂ a a₂ b b₂ os os₂ v v₂ m' m₂' k (Some r) (Some s) p D E = quiet t u os os₂ v v₂ t u D.1 E.1
  asked t u q q₂ m m₂ a a₂ b b₂ os os₂ v v₂ m' m₂' k None None p D E = k D.1 E.1
  asked t u q q₂ m m₂ a a₂ b b₂ os os₂ v v₂ m' m₂' k (Some r) None p D E = let z : ◌≡◌ {A = Option Refusal} (Some r) None = p in absurd (cc)
  asked t u q q₂ m m₂ a a₂ b b₂ os os₂ v v₂ m' m₂' k None (Some r) p D E = let z : ◌≡◌ {A = Option Refusal} None (Some r) = p in absurd (cc)

  mounts : (a : Answer V) (v : Mode) (o : Result (ℕ × Table) Refusal) → a ≡ done
      → elim o as (λ _. Type 0) [ Ok x ↦ (a ≡ done) × (v ≡ mounted (fresh x)) | Err r ↦ (a ≡ refused r) × (v ≡ down) ] → (t : Tables) × (v ≡ mounted t)
  mounts a v (Ok x) e D = (fresh x, D.1)
  mounts a v (Err r) e D = let z : ◌≡◌ {A = Answer V} done (refused r) = sym e ∙ D.0 in absurd (cc)

  mounted_both : (m m₂ : Meaning) (a a₂ : Answer V) (os os₂ : List Op) (v v₂ : Mode) → a ≡ done → a₂ ≡ done → Mounts V join m a os v → Mounts V join m₂ a₂ os₂ v₂ → Alike os os₂ v v₂
  unfolding SameMode
  mounted_both m m₂ a a₂ os os₂ v v₂ e f S U =
      let x = mounts a v (found m) e S.1 in
      let y = mounts a₂ v₂ (found m₂) f U.1 in
      (none os os₂ S.0 U.0, modes v v₂ (mounted x.0) (mounted y.0) x.1 y.1 tt)

  finishes : (t u : Tables) (w w₂ : ℕ) (os os₂ : List Op) → t.generation ≡ u.generation → os ≡ finishing t w → os₂ ≡ finishing u w₂ → SameCalls os os₂
  finishes t u w w₂ os os₂ e p q =
      subst (λ x. SameCalls x os₂) (sym p) (subst (SameCalls (finishing t w)) (sym q) (
        (λ b h.
            ⊎_elim
            (λ (z : suc t.generation % 2 ≡ b).
            inl (z, ap (λ g. suc g % 2) (sym e) ∙ z, (slot_words w (suc t.generation) t.working, refl), (slot_words w₂ (suc u.generation) u.working, refl)))
            (λ (n : suc t.generation % 2 ≡ b → ⊥). inr (n, λ z. n (ap (λ g. suc g % 2) e ∙ z)))
            (cases_eq (suc t.generation % 2) b)),
        ((λ b h. tt), tt),
      ))

  pub twin_calls : (x : Both) (w w₂ : Mode) (m m₂ : Meaning) (M N : Model) (μ : Marks) → Legal x → Fine M w m → Fine N w₂ m₂ → Rel μ M N → SameMode w w₂
      → (a a₂ : Answer V) (os os₂ : List Op) (v v₂ : Mode) (m' m₂' : Meaning) → Step V join w m (one x) a os v m' → Step V join w₂ m₂ (two x) a₂ os₂ v₂ m₂' → Alike os os₂ v v₂
  unfolding SameMode Fine
  twin_calls (alike (ask q)) (mounted t) (mounted u) m m₂ M N μ l f g R s a a₂ os os₂ v v₂ m' m₂' S U =
      let e : shape t m ≡ shape u m₂ = ap shape_of f.1 ∙ R.shapes ∙ sym (ap shape_of g.1) in
      asked t u q q m m₂ a a₂ _ _ os os₂ v v₂ m' m₂' (effects t u m m₂ e q os os₂ v v₂ m' m₂') (refusal (shape t m) q) (refusal (shape u m₂) q) (ap (λ S. refusal S q) e) S.1 U.1
  twin_calls (alike finish) (mounted t) (mounted u) m m₂ M N μ l f g R s a a₂ os os₂ v v₂ m' m₂' S U = absurd S.1
  twin_calls (alike reopen) (mounted t) (mounted u) m m₂ M N μ l f g R s a a₂ os os₂ v v₂ m' m₂' S U = absurd S.1
  twin_calls (alike mount) (mounted t) (mounted u) m m₂ M N μ l f g R s a a₂ os os₂ v v₂ m' m₂' S U =
      mounted_both m m₂ a a₂ os os₂ v v₂ (step_fine V join (mounted t) mount M m a os v m' f S).0 (step_fine V join (mounted u) mount N m₂ a₂ os₂ v₂ m₂' g U).0 S.1 U.1
  twin_calls (tw.puts n z b c) (mounted t) (mounted u) m m₂ M N μ l f g R s a a₂ os os₂ v v₂ m' m₂' S U =
      let e : shape t m ≡ shape u m₂ = ap shape_of f.1 ∙ R.shapes ∙ sym (ap shape_of g.1) in
      asked t u (put n z b) (put n z c) m m₂ a a₂ _ _ os os₂ v v₂ m' m₂'
      (changes t u m m₂ e n (puts z (payload_of b)) (puts z (payload_of c)) os os₂ v v₂ m' m₂' refl refl)
      (refusal (shape t m) (put n z b)) (refusal (shape u m₂) (put n z c)) (ap (λ S. refusal S (put n z b)) e ∙ put_refusals (shape u m₂) n z b c l.0 l.1) S.1 U.1
  twin_calls (alike (ask q)) (sealed t) (sealed u) m m₂ M N μ l f g R s a a₂ os os₂ v v₂ m' m₂' S U = absurd S.1
  twin_calls (alike finish) (sealed t) (sealed u) m m₂ M N μ l f g R s a a₂ os os₂ v v₂ m' m₂' S U =
      let e : shape t m ≡ shape u m₂ = ap shape_of f.3 ∙ R.shapes ∙ sym (ap shape_of g.3) in
      (finishes t u m.width m₂.width os os₂ (ap (λ S. S.generation) e) S.1.1 U.1.1, modes v v₂ _ _ S.1.2 U.1.2 tt)
  twin_calls (alike reopen) (sealed t) (sealed u) m m₂ M N μ l f g R s a a₂ os os₂ v v₂ m' m₂' S U = quiet t u os os₂ v v₂ t u S.1.1 U.1.1
  twin_calls (alike mount) (sealed t) (sealed u) m m₂ M N μ l f g R s a a₂ os os₂ v v₂ m' m₂' S U = absurd S.1
  twin_calls (tw.puts n z b c) (sealed t) (sealed u) m m₂ M N μ l f g R s a a₂ os os₂ v v₂ m' m₂' S U = absurd S.1
  twin_calls (alike (ask q)) down down m m₂ M N μ l f g R s a a₂ os os₂ v v₂ m' m₂' S U = absurd S.1
  twin_calls (alike finish) down down m m₂ M N μ l f g R s a a₂ os os₂ v v₂ m' m₂' S U = absurd S.1
  twin_calls (alike reopen) down down m m₂ M N μ l f g R s a a₂ os os₂ v v₂ m' m₂' S U = absurd S.1
  twin_calls (alike mount) down down m m₂ M N μ l f g R s a a₂ os os₂ v v₂ m' m₂' S U =
      mounted_both m m₂ a a₂ os os₂ v v₂ (step_fine V join down mount M m a os v m' f S).0 (step_fine V join down mount N m₂ a₂ os₂ v₂ m₂' g U).0 S.1 U.1
  twin_calls (tw.puts n z b c) down down m m₂ M N μ l f g R s a a₂ os os₂ v v₂ m' m₂' S U = absurd S.1
  twin_calls x w w₂ m m₂ M N μ l f g R s a a₂ os os₂ v v₂ m' m₂' S U = absurd s
