-- The plain tables follow the trees.
use Rattle.std.proofs.Common.{◌≡◌, ℕ, zero, suc, ◌%◌, Bool, true, false, cond, ◌||◌, eqb, ◌⊎◌, List, [], ◌∷◌, take, set, ℤ, is_some, Some, None, Option, sym, refl, ap, ◌∙◌, subst, ap₂, inl, inr}
use mathlib.Core.Path.{fun_ext}
use Rattle.std.specs.Option.{option_or}
use Rattle.device.specs.Meaning.{Meaning}
use Rattle.device.specs.Cuts.{Op, Choice, Choice.persisted, Choice.current, Choice.other, Cutting, replay, cut}
use Rattle.page.specs.Slot.{Root}
use Rattle.model.specs.declared.refusal.Refusal.{Refusal}
use Rattle.model.specs.Plain as plain
use Rattle.model.specs.Plain.{Map, Maps, Plain, place, has, map_at, early, answer, Ask, Call, Answer}
use Rattle.model.specs.Plain.{Ask.create, Ask.clone, Ask.delete, Ask.put, Ask.remove, Ask.get, Ask.at, Ask.rows, Ask.summary, Ask.seal, Call.ask, Call.finish, Call.reopen, Call.mount, Answer.refused}
use Rattle.table.specs.Rows.{payload_of}
use Rattle.model.specs.TreeBlocks.{Tree, Change, Change.begin, Change.puts, Change.takes, bare_tree, elem, keys, keys_of, rows_of, Each}
use Rattle.tree.specs.Node.{ins, del}
use Rattle.tree.specs.Reads.{look}
use Rattle.model.proofs.TreeLaws.{keys_form}
use Rattle.model.proofs.Places.{form_of?, rows_of?, forms_place, maps_place, form_at_lem}
use Rattle.model.proofs.Grants.{create_rows, put_rows, remove_rows}
use Rattle.model.specs.Model.{Trees, Model, maps_of, forms, shape_of, free, holds, late, refusal, tree_of, new_tree}
use Rattle.model.specs.Ideal.{standing, with_change, after, next, reply, broken, landed, cut_model}
use Rattle.model.specs.World.{Mode, Mode.mounted, Mode.sealed, Mode.down, Event, Event.did, Event.broke, Event.lost, Run, Step, bare, model_of, shape, Tables, placed, FreeWrite, Changed, Effect, Quiet}
use Rattle.model.specs.Right.{Outcome, fed, Shows, Makes, Takes, free_in, Shares, Right, Histories}
use Rattle.model.proofs.Shared.{clone_free}
use Rattle.model.proofs.Histories.{Base, Fine, step_fine, broke_fine, idle_cut, formatted_fine, fine_table}
use Rattle.model.proofs.TwoRuns.{two_runs}

abbrev plain_m : Model → Plain
plain_m M = record { working = maps_of M.working; committed = maps_of M.committed; generation = M.generation }

maps_set : (t : Trees) (n : ℕ) (o : Option (Root × Tree)) → maps_of (set t n o) ≡ set (maps_of t) n (rows_of? o)
maps_set [] n o = refl
maps_set (None ∷ t) zero None = refl
maps_set (None ∷ t) zero (Some y) = refl
maps_set (Some x ∷ t) zero None = refl
maps_set (Some x ∷ t) zero (Some y) = refl
maps_set (None ∷ t) (suc n) o = ap {B = Maps} (λ y. None ∷ y) (maps_set t n o)
maps_set (Some x ∷ t) (suc n) o = ap {B = Maps} (λ y. Some (rows_of x.1) ∷ y) (maps_set t n o)

has_same : (t : Trees) → has (forms t) ≡ has (maps_of t)
has_same t = fun_ext (λ n. ap is_some (forms_place t n) ∙ go (place t n) ∙ sym (ap is_some (maps_place t n)))
  where
    go : (o : Option (Root × Tree)) → is_some (form_of? o) ≡ is_some (rows_of? o)
    go None = refl
    go (Some x) = refl

map_at_lem : (M : Model) (n : ℕ) → map_at (maps_of M.working) n ≡ rows_of (tree_of M n)
map_at_lem M n = ap (λ o. elim o as (λ _. Map) [ Some m ↦ m | None ↦ [] ]) (maps_place M.working n) ∙ go (place M.working n)
  where
    go : (o : Option (Root × Tree)) → elim (rows_of? o) as (λ _. Map) [ Some m ↦ m | None ↦ [] ] ≡ rows_of (elim o as (λ _. Tree) [ Some x ↦ x.1 | None ↦ bare_tree ])
    go None = refl
    go (Some x) = refl

find_elem : (s : ℕ) (rs : Map) → elem s (keys rs) ≡ is_some (look s rs)
find_elem s [] = refl
find_elem s (r ∷ rs) = go (eqb s r.0) (find_elem s rs)
  where
    go : (k : Bool) → elem s (keys rs) ≡ is_some (look s rs) → (k || elem s (keys rs)) ≡ is_some (cond k (Some r.1) (look s rs))
    go true e = refl
    go false e = e

-- whether a clone has a row
pub holds_find : (M : Model) (n s : ℕ) → holds (shape_of M) n s ≡ is_some (look s (map_at (maps_of M.working) n))
holds_find M n s =
    ap (λ f. elem s (keys_of f)) (sym (form_at_lem M n)) ∙ ap (elem s) (keys_form (tree_of M n)) ∙ find_elem s (rows_of (tree_of M n)) ∙ ap (λ rs. is_some (look s rs)) (sym (map_at_lem M n))

refusal_same : (M : Model) (q : Ask) → refusal (shape_of M) q ≡ option_or (early (has (maps_of M.working)) q) (late (shape_of M) q)
refusal_same M q = ap (λ h. option_or (early h q) (late (shape_of M) q)) (has_same M.working)

abbrev fed_m : Model → Call → Option Refusal
fed_m M (ask q) = late (shape_of M) q
fed_m M finish = None
fed_m M reopen = None
fed_m M mount = None

abbrev working_p : Plain → Maps → Plain
working_p p x = plain.working≔ p x

plain_grown : (M : Model) (n : ℕ) (d : Change ℕ) (rs : Map) → rows_of (new_tree M n d) ≡ rs → plain_m (with_change M n d) ≡ working_p (plain_m M) (set (maps_of M.working) n (Some rs))
plain_grown M n d rs e =
    ap (working_p (plain_m M)) (maps_set M.working n (standing (new_tree M n d)) ∙ ap (λ (x : Map). set (maps_of M.working) n (Some x)) e)

plain_removed : (M : Model) (n s : ℕ) (k : Bool) (o : Option ℤ) → k ≡ is_some o → (k ≡ true → rows_of (new_tree M n (takes s)) ≡ del s (map_at (maps_of M.working) n))
    → plain_m (cond k (with_change M n (takes s)) M) ≡ elim o as (λ _. Plain) [ Some a ↦ working_p (plain_m M) (set (maps_of M.working) n (Some (del s (map_at (maps_of M.working) n)))) | None ↦ plain_m M ]
plain_removed M n s k None e h = ap (λ x. plain_m (cond x (with_change M n (takes s)) M)) e
plain_removed M n s k (Some a) e h =
    ap (λ x. plain_m (cond x (with_change M n (takes s)) M)) e ∙ plain_grown M n (takes s) (del s (map_at (maps_of M.working) n)) (h e)

plain_after : (q : Ask) (t : Tables) (m : Meaning) → Base t m → refusal (shape t m) q ≡ None → plain_m (after (model_of t m) q) ≡ plain.after (plain_m (model_of t m)) q
plain_after (create n) t m B no' = plain_grown (model_of t m) n begin [] (create_rows (model_of t m) n)
plain_after (clone f n) t m B no' = let M : Model = model_of t m in ap (working_p (plain_m M)) (maps_set M.working n (place M.working f) ∙ ap (λ x. set (maps_of M.working) n x) (sym (maps_place M.working f)))
plain_after (delete n) t m B no' = let M : Model = model_of t m in ap (working_p (plain_m M)) (maps_set M.working n None)
plain_after (put n s a) t m B no' =
    let M : Model = model_of t m in
    plain_grown M n (puts s (payload_of a)) (ins s a (map_at (maps_of M.working) n)) (put_rows t m B.kept.sized B.goods n s a no' ∙ ap (ins s a) (sym (map_at_lem M n)))
plain_after (remove n s) t m B no' =
    let M : Model = model_of t m in
    plain_removed M n s (holds (shape_of M) n s) (look s (map_at (maps_of M.working) n)) (holds_find M n s)
    (λ h. remove_rows t m B.kept.sized B.goods n s no' h ∙ ap (del s) (sym (map_at_lem M n)))
plain_after (get n s) t m B no' = refl
plain_after (at n s) t m B no' = refl
plain_after (rows n s k) t m B no' = refl
plain_after (summary k n) t m B no' = refl
plain_after seal t m B no' = refl

plain_ask : (q : Ask) (t : Tables) (m : Meaning) → Base t m → plain_m (next (model_of t m) (ask q)) ≡ plain.next (plain_m (model_of t m)) (ask q) (fed_m (model_of t m) (ask q))
plain_ask q t m B = go (refusal (shape t m) q) refl ∙ ap (λ o. elim o as (λ _. Plain) [ Some r ↦ plain_m M | None ↦ plain.after (plain_m M) q ]) (refusal_same M q)
  where
    M : Model
    M = model_of t m

    go : (o : Option Refusal) → refusal (shape t m) q ≡ o → plain_m (elim o as (λ _. Model) [ Some r ↦ M | None ↦ after M q ]) ≡ elim o as (λ _. Plain) [ Some r ↦ plain_m M | None ↦ plain.after (plain_m M) q ]
    go (Some r) e = refl
    go None e = plain_after q t m B e

plain_broken : (c : Call) (k : ℕ) (κ : Cutting) (M : Model) → Outcome c k (plain_m M) (plain_m (broken M c k κ))
plain_broken (ask q) k κ M = refl
plain_broken finish zero κ M = refl
plain_broken finish (suc zero) κ M = go (κ.choice (suc M.generation % 2))
  where
    go : (x : Choice) → (plain_m (landed x M) ≡ plain_m M) ⊎ (plain_m (landed x M) ≡ plain.finished (plain_m M))
    go persisted = inl refl
    go current = inr refl
    go (other y) = inr refl
plain_broken finish (suc (suc k)) κ M = inr refl
plain_broken reopen k κ M = refl
plain_broken mount k κ M = refl

fine_shows : (w : Mode) (M : Model) (m : Meaning) → Fine M w m → Shows (plain_m M) w m
unfolding Fine
fine_shows (mounted t) M m f = ap plain_m f.1
fine_shows (sealed t) M m f = ap plain_m f.3
fine_shows down M m f = fine_table M m f

module _ (V : Type 0) (join : ℕ → Map → V) where
  plain_reply : (c : Call) (M : Model) → reply V join M c ≡ plain.reply V join (plain_m M) c (fed_m M c)
  plain_reply (ask q) M = ap (λ o. elim o as (λ _. Answer V) [ Some r ↦ refused r | None ↦ answer V join (maps_of M.working) q ]) (refusal_same M q)
  plain_reply finish M = refl
  plain_reply reopen M = refl
  plain_reply mount M = refl

  -- where a call is possible, what is fed goes by the trees
  fed_same : (w : Mode) (c : Call) (M : Model) (m : Meaning) (a : Answer V) (os : List Op) (w' : Mode) (m' : Meaning) → Fine M w m → Step V join w m c a os w' m' → fed_m M c ≡ fed w m c
  unfolding Fine
  fed_same (mounted t) (ask q) M m a os w' m' f S = ap (λ x. late (shape_of x) q) (sym f.1)
  fed_same (mounted t) finish M m a os w' m' f S = refl
  fed_same (mounted t) reopen M m a os w' m' f S = refl
  fed_same (mounted t) mount M m a os w' m' f S = refl
  fed_same (sealed t) (ask q) M m a os w' m' f S = absurd S.1
  fed_same (sealed t) finish M m a os w' m' f S = refl
  fed_same (sealed t) reopen M m a os w' m' f S = refl
  fed_same (sealed t) mount M m a os w' m' f S = refl
  fed_same down (ask q) M m a os w' m' f S = absurd S.1
  fed_same down finish M m a os w' m' f S = refl
  fed_same down reopen M m a os w' m' f S = refl
  fed_same down mount M m a os w' m' f S = refl

  plain_next : (w : Mode) (c : Call) (M : Model) (m : Meaning) (a : Answer V) (os : List Op) (w' : Mode) (m' : Meaning) → Fine M w m → Step V join w m c a os w' m' → plain_m (next M c) ≡ plain.next (plain_m M) c (fed_m M c)
  unfolding Fine
  plain_next (mounted t) (ask q) M m a os w' m' f S = subst (λ (x : Model). plain_m (next x (ask q)) ≡ plain.next (plain_m x) (ask q) (fed_m x (ask q))) f.1 (plain_ask q t m f.0)
  plain_next (mounted t) finish M m a os w' m' f S = refl
  plain_next (mounted t) reopen M m a os w' m' f S = refl
  plain_next (mounted t) mount M m a os w' m' f S = refl
  plain_next (sealed t) (ask q) M m a os w' m' f S = absurd S.1
  plain_next (sealed t) finish M m a os w' m' f S = refl
  plain_next (sealed t) reopen M m a os w' m' f S = refl
  plain_next (sealed t) mount M m a os w' m' f S = refl
  plain_next down (ask q) M m a os w' m' f S = absurd S.1
  plain_next down finish M m a os w' m' f S = refl
  plain_next down reopen M m a os w' m' f S = refl
  plain_next down mount M m a os w' m' f S = refl

  ask_makes : (q : Ask) (t : Tables) (m : Meaning) (os : List Op) (w' : Mode) (m' : Meaning) → Effect t m q os w' m' → Makes t m q os
  ask_makes (create n) t m os w' m' E = E.0
  ask_makes (clone f n) t m os w' m' E = E.0
  ask_makes (delete n) t m os w' m' E = E.0
  ask_makes (put n s a) t m os w' m' E = E.0
  ask_makes (remove n s) t m os w' m' E = go (holds (shape t m) n s) E
    where
      go : (k : Bool) → cond k (Changed t m n (takes s) os w' m') (Quiet (mounted t) os w') → Each (FreeWrite t m) os
      go true E = E.0
      go false E = subst (Each (FreeWrite t m)) (sym E.0) tt
  ask_makes (get n s) t m os w' m' E = E.0
  ask_makes (at n s) t m os w' m' E = E.0
  ask_makes (rows n s k) t m os w' m' E = E.0
  ask_makes (summary k n) t m os w' m' E = E.0
  ask_makes seal t m os w' m' E = E.0

  step_takes : (w : Mode) (c : Call) (m : Meaning) (a : Answer V) (os : List Op) (w' : Mode) (m' : Meaning) → Step V join w m c a os w' m' → Takes w m c os
  step_takes (mounted t) (ask q) m a os w' m' S = go (refusal (shape t m) q) S.1
    where
      go : (o : Option Refusal)
          → elim o as (λ _. Type 0) [ Some r ↦ (a ≡ refused r) × Quiet (mounted t) os w' | None ↦ (a ≡ answer V join (maps_of (model_of t m).working) q) × Effect t m q os w' m' ]
          → elim o as (λ _. Type 0) [ Some r ↦ os ≡ [] | None ↦ Makes t m q os ]
      go (Some r) D = D.1.0
      go None D = ask_makes q t m os w' m' D.1
  step_takes (mounted t) finish m a os w' m' S = S.1
  step_takes (mounted t) reopen m a os w' m' S = S.1
  step_takes (mounted t) mount m a os w' m' S = S.1.0
  step_takes (sealed t) (ask q) m a os w' m' S = S.1
  step_takes (sealed t) finish m a os w' m' S = S.1.1
  step_takes (sealed t) reopen m a os w' m' S = S.1.1.0
  step_takes (sealed t) mount m a os w' m' S = S.1
  step_takes down (ask q) m a os w' m' S = S.1
  step_takes down finish m a os w' m' S = S.1
  step_takes down reopen m a os w' m' S = S.1
  step_takes down mount m a os w' m' S = S.1.0

  -- a clone call changes nothing of what is free
  step_shares : (w : Mode) (c : Call) (m : Meaning) (a : Answer V) (os : List Op) (w' : Mode) (m' : Meaning) → Step V join w m c a os w' m' → Shares w m c w' m'
  step_shares w c m a os w' m' S f n e = at_clone w (subst (λ c. Step V join w m c a os w' m') e S)
    where
      quiet : (v : Mode) → Quiet v os w' → m' ≡ replay os m → free_in w' m' ≡ free_in v m
      quiet v q r = ap₂ free_in q.1 (r ∙ ap (λ os. replay os m) q.0)

      at_clone : (w : Mode) → Step V join w m (ask (clone f n)) a os w' m' → free_in w' m' ≡ free_in w m
      at_clone (mounted t) S = go (refusal (shape t m) (clone f n)) refl S.1
        where
          go : (o : Option Refusal) → refusal (shape t m) (clone f n) ≡ o
              → elim o as (λ _. Type 0) [ Some r ↦ (a ≡ refused r) × Quiet (mounted t) os w' | None ↦ (a ≡ answer V join (maps_of (model_of t m).working) (clone f n)) × Effect t m (clone f n) os w' m' ]
              → free_in w' m' ≡ free (shape t m)
          go (Some r) e D = quiet (mounted t) D.1 S.0
          go None e D = quiet (mounted (placed t (set t.working n (place t.working f)))) D.1 S.0 ∙ clone_free t m f n e
      at_clone (sealed t) S = absurd S.1
      at_clone down S = absurd S.1

  right : (es : List (Event V)) (p : Plain) (M : Model) (w : Mode) (m : Meaning) → plain_m M ≡ p → Fine M w m → Run V join w m es → Right V join p w m es
  right [] p M w m e f R = subst (λ x. Shows x w m) e (fine_shows w M m f)
  right (did c a os w' m' ∷ es) p M w m e f R =
      let s = step_fine V join w c M m a os w' m' f R.0 in
      let g = fed_same w c M m a os w' m' f R.0 in (
        subst (λ x. Shows x w m) e (fine_shows w M m f),
        step_takes w c m a os w' m' R.0,
        step_shares w c m a os w' m' R.0,
        s.0 ∙ plain_reply c M ∙ ap₂ (λ x y. plain.reply V join x c y) e g,
        right es (plain.next p c (fed w m c)) (next M c) w' m' (plain_next w c M m a os w' m' f R.0 ∙ ap₂ (λ x y. plain.next x c y) e g) s.1 R.1,
      )
  right (broke c os k κ ∷ es) p M w m e f R =
      let s = broke_fine V join w c M m R.0.0 os R.0.1 R.0.2 k κ f R.0.3 in (
        subst (λ x. Shows x w m) e (fine_shows w M m f),
        step_takes w c m R.0.0 os R.0.1 R.0.2 R.0.3,
        (
          plain_m (broken M c k κ),
          subst (λ x. Outcome c k x (plain_m (broken M c k κ))) e (plain_broken c k κ M),
          right es (plain_m (broken M c k κ)) (cut_model κ (broken M c k κ)) down (cut κ (replay (take k os) m)) refl s R.1,
        ),
      )
  right (lost κ ∷ es) p M w m e f R =
      (subst (λ x. Shows x w m) e (fine_shows w M m f), right es p (cut_model κ M) down (cut κ m) e (idle_cut M κ w m f) R)

pub histories : (V : Type 0) → Histories V
histories V =
    ((λ join m es f R. right V join es plain.start (model_of bare m) (mounted bare) m refl (formatted_fine V join m f) R), two_runs V)
