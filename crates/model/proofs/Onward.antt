-- Each call that is in turn has a step.
use Rattle.std.proofs.Common.{◌≡◌, ℕ, zero, suc, Bool, true, false, cond, T, List, [], ◌∷◌, take, set, Some, None, Ok, Err, Option, Result, sym, refl, ap, ◌∙◌, subst, subst₂, arith}
use Rattle.device.specs.Meaning.{Content, Meaning, blocks_of, current_at, written}
use Rattle.device.specs.Cuts.{Op, Op.write, Op.flush, replay, cut}
use Rattle.device.proofs.Choices.{flush_at, write_at, write_off, blocks_apply, blocks_replay}
use Rattle.page.specs.Slot.{Root, Table, slot_words}
use Rattle.model.specs.declared.refusal.Refusal.{Refusal}
use Rattle.model.specs.Plain.{Map, place, Ask, Call, Answer, answer, blank, early, has}
use Rattle.model.specs.Plain.{Ask.create, Ask.clone, Ask.delete, Ask.put, Ask.remove, Ask.get, Ask.at, Ask.rows, Ask.summary, Ask.seal, Call.ask, Call.finish, Call.reopen, Call.mount, Answer.done, Answer.refused}
use Rattle.table.specs.Rows.{payload_of}
use Rattle.model.specs.TreeBlocks.{form, elem, Change, Change.begin, Change.puts, Change.takes, root_of, tree_at, reach, Stored}
use Rattle.model.specs.Model.{Model, maps_of, refusal, late, used, holds, tree_of, new_tree}
use Rattle.model.specs.Ideal.{next, broken, cut_model}
use Rattle.model.specs.World.{Tables, Mode, Mode.mounted, Mode.sealed, Mode.down, placed, finished_tables, Event, Event.did, Event.broke, Event.lost, model_of, shape, found, finishing, fresh, sizes, Changed, Effect, Quiet, Mounts, Step, Run, bare}
use Rattle.model.specs.Right.{Ends}
use Rattle.model.specs.Onward.{Turn, GoesOn, formatting, Formats}
use Rattle.model.proofs.TreeLaws.{elem_left, elem_right, stored_same, reach_form}
use Rattle.model.proofs.Frames.{Reaches}
use Rattle.model.proofs.Grants.{Start, put_start, remove_start, enough, create_fit, put_fit, remove_fit, sizes_parts}
use Rattle.model.proofs.Histories.{Base, Fine, step_fine, broke_fine, idle_cut, formatted_fine, in_working}
use Rattle.model.proofs.Progress.{script, met}
use Rattle.model.proofs.Walks.{either_none}

-- a clone's blocks are used
spot_reach : (c : ℕ → Content) (t : Table) (n : ℕ) (r : Root) (b : ℕ) → place t n ≡ Some r → T (elem b (reach (tree_at c r))) → T (elem b (Reaches c t))
spot_reach c [] n r b e h = absurd (let z : ◌≡◌ {A = ℕ} 0 1 = cc in omega arith)
spot_reach c (None ∷ t) zero r b e h = absurd (let z : ◌≡◌ {A = ℕ} 0 1 = cc in omega arith)
spot_reach c (Some x ∷ t) zero r b e h =
    let q : x ≡ r = cc in
    elem_left b (reach (form (tree_at c x))) (Reaches c t) (subst (λ z. T (elem b z)) (sym (reach_form (tree_at c x))) (subst (λ (z : Root). T (elem b (reach (tree_at c z)))) (sym q) h))
spot_reach c (None ∷ t) (suc n) r b e h = spot_reach c t n r b e h
spot_reach c (Some x ∷ t) (suc n) r b e h = elem_right b (reach (form (tree_at c x))) (Reaches c t) (spot_reach c t n r b e h)

module _ (t : Tables) (m : Meaning) (B : Base t m) where
  -- the clone's tree still stands where its blocks are unchanged
  still_stored : (n : ℕ) (d : Change ℕ) → Start t m B.kept.sized B.goods n d → (c : ℕ → Content) → ((b : ℕ) → T (elem b (0 ∷ 1 ∷ used (shape t m))) → c b ≡ current_at m b) → Stored c (tree_of (model_of t m) n)
  still_stored n d s c h =
      let R = s.rooted in
      let r : Root = R.root in
      subst (Stored c) (sym R.tree)
      (stored_same (current_at m) c (tree_at (current_at m) r) (λ b q. h b (in_working t m b (spot_reach (current_at m) t.working n r b R.spot q))) R.good.stored)

  abbrev Can : Ask → Type 0
  Can q = (os : List Op) × (w' : Mode) × Effect t m q os w' (replay os m)

  can_remove : (n s : ℕ) → refusal (shape t m) (remove n s) ≡ None → (k : Bool) → holds (shape t m) n s ≡ k
      → (os : List Op) × (w' : Mode) × cond k (Changed t m n (takes s) os w' (replay os m)) (Quiet (mounted t) os w')
  can_remove n s e true h =
      let S = remove_start t m B.kept.sized B.goods n s e h in (
        script t m B n (takes s),
        mounted (placed t (set t.working n (Some (root_of (new_tree (model_of t m) n (takes s)))))),
        met t m B n (takes s) S.room (remove_fit t m B.kept.sized B.goods n s e h) (still_stored n (takes s) S),
      )
  can_remove n s e false h = ([], mounted t, (refl, refl))

  can : (q : Ask) → refusal (shape t m) q ≡ None → Can q
  can (create n) e = (
    script t m B n begin,
    mounted (placed t (set t.working n (Some (root_of (new_tree (model_of t m) n begin))))),
    met t m B n begin (enough t m B.kept.sized B.goods n 1 (either_none (early (has (shape t m).working) (create n)) (late (shape t m) (create n)) e).1)
        (create_fit t m B.kept.sized B.goods n e) (λ c h. tt),
  )
  can (clone f n) e = ([], mounted (placed t (set t.working n (place t.working f))), (refl, refl))
  can (delete n) e = ([], mounted (placed t (set t.working n None)), (refl, refl))
  can (put n s a) e =
      let S = (put_start t m B.kept.sized B.goods n s a e).0 in (
        script t m B n (puts s (payload_of a)),
        mounted (placed t (set t.working n (Some (root_of (new_tree (model_of t m) n (puts s (payload_of a))))))),
        met t m B n (puts s (payload_of a)) S.room (put_fit t m B.kept.sized B.goods n s a e) (still_stored n (puts s (payload_of a)) S),
      )
  can (remove n s) e = can_remove n s e (holds (shape t m) n s) refl
  can (get n s) e = ([], mounted t, (refl, refl))
  can (at n s) e = ([], mounted t, (refl, refl))
  can (rows n s k) e = ([], mounted t, (refl, refl))
  can (summary k n) e = ([], mounted t, (refl, refl))
  can seal e = (flush ∷ [], sealed t, (refl, refl))

module _ (V : Type 0) (join : ℕ → Map → V) where
  abbrev Next : Mode → Meaning → Call → Type 0
  Next w m c = (a : Answer V) × (os : List Op) × (w' : Mode) × (m' : Meaning) × Step V join w m c a os w' m'

  can_ask : (q : Ask) (t : Tables) (m : Meaning) → Base t m → Next (mounted t) m (ask q)
  can_ask q t m B = go (refusal (shape t m) q) refl
    where
      go : (o : Option Refusal) → refusal (shape t m) q ≡ o
          → (a : Answer V) × (os : List Op) × (w' : Mode) × (m' : Meaning) × ((m' ≡ replay os m)
          × elim o as (λ _. Type 0) [ Some r ↦ (a ≡ refused r) × Quiet (mounted t) os w' | None ↦ (a ≡ answer V join (maps_of (model_of t m).working) q) × Effect t m q os w' m' ])
      go (Some r) e = (refused r, [], mounted t, m, (refl, (refl, (refl, refl))))
      go None e = let y = can t m B q e in (answer V join (maps_of (model_of t m).working) q, y.0, y.1, replay y.0 m, (refl, (refl, y.2)))

  can_mount : (w : Mode) (m : Meaning) → (a : Answer V) × (os : List Op) × (w' : Mode) × (m' : Meaning) × ((m' ≡ replay os m) × Mounts V join m a os w')
  can_mount w m = go (found m) refl
    where
      go : (o : Result (ℕ × Table) Refusal) → found m ≡ o
          → (a : Answer V) × (os : List Op) × (w' : Mode) × (m' : Meaning) × ((m' ≡ replay os m) × ((os ≡ []) × elim o as (λ _. Type 0) [ Ok x ↦ (a ≡ done) × (w' ≡ mounted (fresh x)) | Err r ↦ (a ≡ refused r) × (w' ≡ down) ]))
      go (Ok x) e = (done, [], mounted (fresh x), m, (refl, (refl, (refl, refl))))
      go (Err r) e = (refused r, [], down, m, (refl, (refl, (refl, refl))))

  possible : (w : Mode) (c : Call) (M : Model) (m : Meaning) → Fine M w m → Turn w c → Next w m c
  unfolding Fine
  possible (mounted t) (ask q) M m f u = can_ask q t m f.0
  possible (mounted t) finish M m f u = absurd u
  possible (mounted t) reopen M m f u = absurd u
  possible (mounted t) mount M m f u = can_mount (mounted t) m
  possible (sealed t) (ask q) M m f u = absurd u
  possible (sealed t) finish M m f u =
      let os : List Op = finishing t m.width in
      (done, os, mounted (finished_tables t), replay os m, (refl, (refl, refl, refl)))
  possible (sealed t) reopen M m f u = (done, [], mounted t, m, (refl, (refl, (refl, refl))))
  possible (sealed t) mount M m f u = absurd u
  possible down (ask q) M m f u = absurd u
  possible down finish M m f u = absurd u
  possible down reopen M m f u = absurd u
  possible down mount M m f u = can_mount down m

  end_fine : (es : List (Event V)) (M : Model) (w : Mode) (m : Meaning) (v : Mode) (d : Meaning) → Fine M w m → Run V join w m es → Ends w m es v d → (N : Model) × Fine N v d
  end_fine [] M w m v d f R e = (M, subst₂ (λ x y. Fine M x y) e.0 e.1 f)
  end_fine (did c a os w' m' ∷ es) M w m v d f R e = end_fine es (next M c) w' m' v d (step_fine V join w c M m a os w' m' f R.0).1 R.1 e
  end_fine (broke c os k κ ∷ es) M w m v d f R e =
      end_fine es (cut_model κ (broken M c k κ)) down (cut κ (replay (take k os) m)) v d (broke_fine V join w c M m R.0.0 os R.0.1 R.0.2 k κ f R.0.3) R.1 e
  end_fine (lost κ ∷ es) M w m v d f R e = end_fine es (cut_model κ M) down (cut κ m) v d (idle_cut M κ w m f) R e

pub goes_on : (V : Type 0) → GoesOn V
goes_on V join m es w d c f R e u =
    let y = end_fine V join es (model_of bare m) (mounted bare) m w d (formatted_fine V join m f) R e in
    possible V join w c y.0 d y.1 u

pub formats : Formats
formats m z =
    let w : ℕ = m.width in
    let s₀ : List ℕ = slot_words w 0 blank in
    let s₁ : List ℕ = slot_words w 1 blank in
    let m₁ : Meaning = written m 0 s₀ in
    let m₂ : Meaning = written m₁ 1 s₁ in
    let p = (sizes_parts (blocks_of m) w z).0 in
    let b₁ : blocks_of m₁ ≡ blocks_of m = blocks_apply (write 0 s₀) m in (
      ap (λ n. sizes n w) (blocks_replay (formatting w) m) ∙ z,
      (λ b. ap (λ c. c.mark) (flush_at m₂ b)),
      (λ b. ap (λ c. c.persisted) (flush_at m₂ b) ∙ ap (λ c. c.current) (sym (flush_at m₂ b))),
      ap (λ c. c.current) (flush_at m₂ 0) ∙ ap (λ c. c.current) (write_off m₁ 1 0 s₁ (λ e. omega arith)) ∙ ap (λ c. c.current) (write_at m 0 s₀ (omega arith)),
      ap (λ c. c.current) (flush_at m₂ 1) ∙ ap (λ c. c.current) (write_at m₁ 1 s₁ (omega arith)),
    )
