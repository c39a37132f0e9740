-- Two runs that differ in angles.
use Rattle.std.proofs.Common.{◌≡◌, ℕ, zero, suc, ◌%◌, Bool, true, false, cond, not, ◌||◌, T, ltb, ◌⊎◌, List, [], ◌∷◌, map, get_or, take, set, ℤ, pos, negsuc, Some, None, Option, sym, refl, ap, ◌∙◌, subst, ap₂, inl, inr, eqb→eq, arith}
use Rattle.std.specs.Option.{option_or}
use Rattle.device.specs.Meaning.{Meaning, spent}
use Rattle.device.specs.Cuts.{keeps_persisted, Choice, Choice.persisted, Choice.current, Choice.other, Cutting, replay, cut}
use Rattle.page.specs.Slot.{Root}
use Rattle.table.specs.Rows.{off_angle, payload_of}
use Rattle.table.specs.Angles.{angle_at}
use Rattle.model.specs.declared.refusal.Refusal.{Refusal}
use Rattle.model.specs.declared.refusal.Refusal.TheVariants.{Number, Speed, Angle, Absent}
use Rattle.model.specs.Plain.{Map, Maps, place, has, first, early, map_at, answer, Ask, Call, Answer}
use Rattle.model.specs.Plain.{Ask.create, Ask.clone, Ask.delete, Ask.put, Ask.remove, Ask.get, Ask.at, Ask.rows, Ask.summary, Ask.seal, Call.ask, Call.finish, Call.reopen, Call.mount, Answer.done, Answer.refused}
use Rattle.model.specs.TreeBlocks.{Each, Tree, Form, Change, Change.begin, Change.puts, Change.takes, without_angle, form, bare_tree, root_of, changed_on, writes}
use Rattle.model.proofs.Places.{form_of?, rows_of?, forms_place, maps_place, forms_set, form_at_lem}
use Rattle.model.proofs.TreeLaws.{grow_form}
use Rattle.tree.specs.Reads.{look}
use Rattle.model.specs.Model.{Forms, Model, Shapes, forms, maps_of, shape_of, free, form_at, holds, late, refusal, tree_of, source, new_tree}
use Rattle.model.specs.Ideal.{left_after, standing, with_change, after, next, reply, finished, cut_model, landed, broken, working≔}
use Rattle.model.specs.World.{Mode, Mode.mounted, Mode.down, Run, bare, model_of}
use Rattle.model.specs.TwoRuns as tw
use Rattle.model.specs.TwoRuns.{Both, Both.alike, one, two, Legal, Twin, legal, Marks, clear, SameCut, finished_marks, touched, same_angle, mark_ask, marked, unless, refusal_in, Unseen, Remain, Finds, Agree, TwoRuns}
use Rattle.model.proofs.Histories.{Fine, step_fine, broke_fine, idle_cut, formatted_fine, fine_finds}

abbrev pub Agreeing : {A : Type 0} → List Bool → List (Option A) → List (Option A) → Type 0
Agreeing [] [] [] = Unit
Agreeing [] [] (y ∷ ys) = ⊥
Agreeing [] (x ∷ xs) [] = ⊥
Agreeing [] (x ∷ xs) (y ∷ ys) = ⊥
Agreeing (b ∷ μ) [] [] = ⊥
Agreeing (b ∷ μ) [] (y ∷ ys) = ⊥
Agreeing (b ∷ μ) (x ∷ xs) [] = ⊥
Agreeing (b ∷ μ) (x ∷ xs) (y ∷ ys) = (b ≡ false → x ≡ y) × Agreeing μ xs ys

module _ {A : Type 0} where
  agreeing_at : (μ : List Bool) (xs ys : List (Option A)) (n : ℕ) → Agreeing μ xs ys → get_or μ n false ≡ false → place xs n ≡ place ys n
  agreeing_at [] [] [] n h e = refl
  agreeing_at [] [] (y ∷ ys) n h e = absurd h
  agreeing_at [] (x ∷ xs) [] n h e = absurd h
  agreeing_at [] (x ∷ xs) (y ∷ ys) n h e = absurd h
  agreeing_at (b ∷ μ) [] [] n h e = absurd h
  agreeing_at (b ∷ μ) [] (y ∷ ys) n h e = absurd h
  agreeing_at (b ∷ μ) (x ∷ xs) [] n h e = absurd h
  agreeing_at (b ∷ μ) (x ∷ xs) (y ∷ ys) zero h e = h.0 e
  agreeing_at (b ∷ μ) (x ∷ xs) (y ∷ ys) (suc n) h e = agreeing_at μ xs ys n h.1 e

  agreeing_set : (μ : List Bool) (xs ys : List (Option A)) (n : ℕ) (b : Bool) (o p : Option A) → Agreeing μ xs ys → (b ≡ false → o ≡ p) → Agreeing (set μ n b) (set xs n o) (set ys n p)
  agreeing_set [] [] [] n c o p h e = tt
  agreeing_set [] [] (y ∷ ys) n c o p h e = absurd h
  agreeing_set [] (x ∷ xs) [] n c o p h e = absurd h
  agreeing_set [] (x ∷ xs) (y ∷ ys) n c o p h e = absurd h
  agreeing_set (b ∷ μ) [] [] n c o p h e = absurd h
  agreeing_set (b ∷ μ) [] (y ∷ ys) n c o p h e = absurd h
  agreeing_set (b ∷ μ) (x ∷ xs) [] n c o p h e = absurd h
  agreeing_set (b ∷ μ) (x ∷ xs) (y ∷ ys) zero c o p h e = (e, h.1)
  agreeing_set (b ∷ μ) (x ∷ xs) (y ∷ ys) (suc n) c o p h e = (h.0, agreeing_set μ xs ys n c o p h.1 e)

  agreeing_put : (μ : List Bool) (xs ys : List (Option A)) (n : ℕ) (o p : Option A) → Agreeing μ xs ys → (get_or μ n false ≡ false → o ≡ p) → Agreeing μ (set xs n o) (set ys n p)
  agreeing_put [] [] [] n o p h e = tt
  agreeing_put [] [] (y ∷ ys) n o p h e = absurd h
  agreeing_put [] (x ∷ xs) [] n o p h e = absurd h
  agreeing_put [] (x ∷ xs) (y ∷ ys) n o p h e = absurd h
  agreeing_put (b ∷ μ) [] [] n o p h e = absurd h
  agreeing_put (b ∷ μ) [] (y ∷ ys) n o p h e = absurd h
  agreeing_put (b ∷ μ) (x ∷ xs) [] n o p h e = absurd h
  agreeing_put (b ∷ μ) (x ∷ xs) (y ∷ ys) zero o p h e = (e, h.1)
  agreeing_put (b ∷ μ) (x ∷ xs) (y ∷ ys) (suc n) o p h e = (h.0, agreeing_put μ xs ys n o p h.1 e)

-- what a call does to the shape
abbrev working_s : Shapes → Forms → Shapes
working_s S x = record { working = x; committed = S.committed; generation = S.generation; blocks = S.blocks; left = S.left; layer = S.layer }

abbrev pub source_s : Shapes → ℕ → Change ℕ → Form
source_s S n begin = form bare_tree
source_s S n (puts s a) = form_at S n
source_s S n (takes s) = form_at S n

pub form_source : (M : Model) (n : ℕ) (d : Change ℕ) → form (source M n d) ≡ source_s (shape_of M) n d
form_source M n begin = refl
form_source M n (puts s a) = form_at_lem M n
form_source M n (takes s) = form_at_lem M n

pub record Rel (μ : Marks) (M N : Model) : Type 0 where
  pub shapes : shape_of M ≡ shape_of N
  pub working : Agreeing μ.working M.working N.working
  pub committed : Agreeing μ.committed M.committed N.committed
  pub counts : μ.generation ≡ M.generation

abbrev stands : Form → Option (Root × Form)
stands f = Some (root_of f, f)

abbrev bent : Shapes → ℕ → Change ℕ → Shapes
bent S n d = record {
  working = set S.working n (stands (changed_on (Unit {0}) (without_angle d) (free S) (source_s S n d)));
  committed = S.committed;
  generation = S.generation;
  blocks = S.blocks;
  left = left_after (writes (without_angle d) (source_s S n d)) S.left;
  layer = S.layer;
}

shape_grown : (M : Model) (n : ℕ) (d : Change ℕ) → shape_of (with_change M n d) ≡ bent (shape_of M) n d
shape_grown M n d =
    let S : Shapes = shape_of M in
    let f : List ℕ = free S in
    let t : Tree = source M n d in
    let e : form_of? (standing (new_tree M n d)) ≡ stands (changed_on (Unit {0}) (without_angle d) f (source_s S n d))
    = ap stands (grow_form d f t) ∙ ap (λ x. stands (changed_on (Unit {0}) (without_angle d) f x)) (form_source M n d) in
    let ew : forms (set M.working n (standing (new_tree M n d))) ≡ set (forms M.working) n (stands (changed_on (Unit {0}) (without_angle d) f (source_s S n d)))
    = forms_set M.working n (standing (new_tree M n d)) ∙ ap (λ x. set (forms M.working) n x) e in
    λ i. record {
      working = ew i;
      committed = forms M.committed;
      generation = M.generation;
      blocks = M.blocks;
      left = left_after (writes (without_angle d) (form_source M n d i)) M.left;
      layer = M.layer;
    }

-- the same tree from the same shape and the same tree
tree_same : (M N : Model) (n : ℕ) → place M.working n ≡ place N.working n → tree_of M n ≡ tree_of N n
tree_same M N n e = ap (λ o. elim o as (λ _. Tree) [ Some x ↦ x.1 | None ↦ bare_tree ]) e

source_same : (d : Change ℕ) (M N : Model) (n : ℕ) → place M.working n ≡ place N.working n → source M n d ≡ source N n d
source_same begin M N n e = refl
source_same (puts s a) M N n e = tree_same M N n e
source_same (takes s) M N n e = tree_same M N n e

grow_same : (d : Change ℕ) (M N : Model) (n : ℕ) → shape_of M ≡ shape_of N → source M n d ≡ source N n d
    → standing (new_tree M n d) ≡ standing (new_tree N n d)
grow_same d M N n es et = ap₂ (λ (S : Shapes) (t : Tree). standing (changed_on ℕ d (free S) t)) es et

-- the deeds are alike: the same, or puts of one speed
grown_shapes : (M N : Model) (n : ℕ) (d e : Change ℕ) → bent (shape_of N) n d ≡ bent (shape_of N) n e → shape_of M ≡ shape_of N → shape_of (with_change M n d) ≡ shape_of (with_change N n e)
grown_shapes M N n d e q es = shape_grown M n d ∙ ap (λ S. bent S n d) es ∙ q ∙ sym (shape_grown N n e)

rel_put : (d : Change ℕ) (μ : Marks) (M N : Model) (n : ℕ) → Rel μ M N → Rel μ (with_change M n d) (with_change N n d)
rel_put d μ M N n R = record {
  shapes = grown_shapes M N n d d refl R.shapes;
  working = agreeing_put μ.working M.working N.working n _ _ R.working
      (λ z. grow_same d M N n R.shapes (source_same d M N n (agreeing_at μ.working M.working N.working n R.working z)));
  committed = R.committed;
  counts = R.counts;
}

rel_create : (μ : Marks) (M N : Model) (n : ℕ) → Rel μ M N → Rel (tw.working≔ μ (set μ.working n false)) (with_change M n begin) (with_change N n begin)
rel_create μ M N n R = record {
  shapes = grown_shapes M N n begin begin refl R.shapes;
  working = agreeing_set μ.working M.working N.working n false _ _ R.working (λ z. grow_same begin M N n R.shapes refl);
  committed = R.committed;
  counts = R.counts;
}

rel_place : (μ : Marks) (M N : Model) (n : ℕ) (b : Bool) (o p : Option (Root × Tree)) → Rel μ M N → (b ≡ false → o ≡ p) → form_of? o ≡ form_of? p
    → Rel (tw.working≔ μ (set μ.working n b)) (working≔ M (set M.working n o)) (working≔ N (set N.working n p))
rel_place μ M N n b o p R e ef = record {
  shapes =
      let ew : forms (set M.working n o) ≡ forms (set N.working n p)
      = forms_set M.working n o ∙ ap₂ (λ x y. set x n y) (ap (λ S. S.working) R.shapes) ef ∙ sym (forms_set N.working n p) in
      λ i. working_s (R.shapes i) (ew i);
  working = agreeing_set μ.working M.working N.working n b o p R.working e;
  committed = R.committed;
  counts = R.counts;
}

rel_finished : (μ : Marks) (M N : Model) → Rel μ M N → Rel (finished_marks μ) (finished M) (finished N)
rel_finished μ M N R = record {
  shapes = ap (λ S. record { working = S.working; committed = S.working; generation = suc S.generation; blocks = S.blocks; left = spent S.left; layer = S.layer }) R.shapes;
  working = R.working;
  committed = R.working;
  counts = ap suc R.counts;
}

rel_mounted : (μ : Marks) (M N : Model) → Rel μ M N → Rel (tw.working≔ μ μ.committed) (working≔ M M.committed) (working≔ N N.committed)
rel_mounted μ M N R = record {
  shapes = ap (λ S. working_s S S.committed) R.shapes;
  working = R.committed;
  committed = R.committed;
  counts = R.counts;
}

pub rel_cut : (κ κ₂ : Cutting) → SameCut κ κ₂ → (μ : Marks) (M N : Model) → Rel μ M N → Rel μ (cut_model κ M) (cut_model κ₂ N)
rel_cut κ κ₂ e μ M N R = record {
  shapes = λ i. record { working = (R.shapes i).working; committed = (R.shapes i).committed; generation = (R.shapes i).generation; blocks = (R.shapes i).blocks; left = e.left i; layer = e.left_mark i };
  working = R.working;
  committed = R.committed;
  counts = R.counts;
}

holds_same : (M N : Model) (n s : ℕ) → shape_of M ≡ shape_of N → holds (shape_of M) n s ≡ holds (shape_of N) n s
holds_same M N n s e = ap (λ S. holds S n s) e

form_place_same : (M N : Model) (n : ℕ) → shape_of M ≡ shape_of N → form_of? (place M.working n) ≡ form_of? (place N.working n)
form_place_same M N n e = sym (forms_place M.working n) ∙ ap (λ S. place S.working n) e ∙ forms_place N.working n

rel_remove : (k l : Bool) (μ : Marks) (M N : Model) (n s : ℕ) → k ≡ l → Rel μ M N → Rel μ (cond k (with_change M n (takes s)) M) (cond l (with_change N n (takes s)) N)
rel_remove k l μ M N n s e R = subst (λ x. Rel μ (cond k (with_change M n (takes s)) M) (cond x (with_change N n (takes s)) N)) e (go k)
  where
    go : (k : Bool) → Rel μ (cond k (with_change M n (takes s)) M) (cond k (with_change N n (takes s)) N)
    go true = rel_put (takes s) μ M N n R
    go false = R

-- the same call, accepted
rel_ask : (q : Ask) (μ : Marks) (M N : Model) → Rel μ M N → Rel (mark_ask μ q) (after M q) (after N q)
rel_ask (create n) μ M N R = rel_create μ M N n R
rel_ask (clone f n) μ M N R = rel_place μ M N n (touched μ f) (place M.working f) (place N.working f) R (agreeing_at μ.working M.working N.working f R.working) (form_place_same M N f R.shapes)
rel_ask (delete n) μ M N R = rel_place μ M N n false None None R (λ e. refl) refl
rel_ask (put n s a) μ M N R = rel_put (puts s (payload_of a)) μ M N n R
rel_ask (remove n s) μ M N R = rel_remove (holds (shape_of M) n s) (holds (shape_of N) n s) μ M N n s (holds_same M N n s R.shapes) R
rel_ask (get n s) μ M N R = R
rel_ask (at n s) μ M N R = R
rel_ask (rows n s k) μ M N R = R
rel_ask (summary k n) μ M N R = R
rel_ask seal μ M N R = R

same_angle_lem : (a b : ℤ) → same_angle a b ≡ true → a ≡ b
same_angle_lem (pos a) (pos b) e = ap pos (eqb→eq a b (subst T (sym e) tt))
same_angle_lem (negsuc a) (negsuc b) e = ap negsuc (eqb→eq a b (subst T (sym e) tt))
same_angle_lem (pos a) (negsuc b) e = absurd (subst T (sym e) tt)
same_angle_lem (negsuc a) (pos b) e = absurd (subst T (sym e) tt)

or_false : (k l : Bool) → (not k || l) ≡ false → (k ≡ true) × (l ≡ false)
or_false true l e = (refl, e)
or_false false l e = absurd (subst T e tt)

-- a put of two angles
rel_puts : (μ : Marks) (M N : Model) (n s : ℕ) (a b : ℤ) → Rel μ M N → Rel (marked μ (tw.puts n s a b)) (with_change M n (puts s (payload_of a))) (with_change N n (puts s (payload_of b)))
rel_puts μ M N n s a b R = record {
  shapes = grown_shapes M N n (puts s (payload_of a)) (puts s (payload_of b)) refl R.shapes;
  working = agreeing_set μ.working M.working N.working n (not (same_angle a b) || touched μ n) _ _ R.working
      (λ z. let h = or_false (same_angle a b) (touched μ n) z in
      grow_same (puts s (payload_of a)) M N n R.shapes (tree_same M N n (agreeing_at μ.working M.working N.working n R.working h.1))
      ∙ ap (λ x. standing (changed_on ℕ (puts s (payload_of x)) (free (shape_of N)) (tree_of N n))) (same_angle_lem a b h.0));
  committed = R.committed;
  counts = R.counts;
}

-- both runs refuse alike
pub put_refusals : (S : Shapes) (n s : ℕ) (a b : ℤ) → off_angle a ≡ false → off_angle b ≡ false → refusal S (put n s a) ≡ refusal S (put n s b)
put_refusals S n s a b ha hb =
    ap (λ k. option_or (first ((ltb 23 n, Number) ∷ (ltb 9999 s, Speed) ∷ (k, Angle) ∷ (not (has S.working n), Absent) ∷ [])) (late S (put n s a))) (ha ∙ sym hb)

agreeing_refl : (k : ℕ) → Agreeing {A = Root × Tree} (lib.ListN.replicate k false) (lib.ListN.replicate k None) (lib.ListN.replicate k None)
agreeing_refl zero = tt
agreeing_refl (suc k) = ((λ e. refl), agreeing_refl k)

module _ (V : Type 0) (join : ℕ → Map → V) where
  abbrev answers : Model → Ask → Answer V
  answers M q = answer V join (maps_of M.working) q

  abbrev by_refusal : Option Refusal → Answer V → Answer V
  by_refusal o a = elim o [ Some r ↦ refused r | None ↦ a ]

  abbrev by_model : Option Refusal → Model → Model → Model
  by_model o M N = elim o [ Some r ↦ M | None ↦ N ]

  accepted : (q : Ask) (ms : Maps) (μ ν : Marks) → unless (answer V join ms q) μ ν ≡ ν
  accepted (create n) ms μ ν = refl
  accepted (clone f n) ms μ ν = refl
  accepted (delete n) ms μ ν = refl
  accepted (put n s a) ms μ ν = refl
  accepted (remove n s) ms μ ν = refl
  accepted (get n s) ms μ ν = refl
  accepted (at n s) ms μ ν = refl
  accepted (rows n s k) ms μ ν = refl
  accepted (summary k n) ms μ ν = refl
  accepted seal ms μ ν = refl

  -- refused in both runs, or accepted in both
  rel_either : (o p : Option Refusal) (μ ν : Marks) (a : Answer V) (M N M' N' : Model) → o ≡ p → unless a μ ν ≡ ν → Rel μ M N → Rel ν M' N'
      → Rel (unless (by_refusal o a) μ ν) (by_model o M M') (by_model p N N')
  rel_either o p μ ν a M N M' N' e ea R R' = subst (λ x. Rel (unless (by_refusal o a) μ ν) (by_model o M M') (by_model x N N')) e (go o)
    where
      go : (o : Option Refusal) → Rel (unless (by_refusal o a) μ ν) (by_model o M M') (by_model o N N')
      go (Some r) = R
      go None = subst (λ x. Rel x M' N') (sym ea) R'

  pub rel_next : (x : Both) (μ : Marks) (M N : Model) → Legal x → Rel μ M N
      → Rel (unless (reply V join M (one x)) μ (marked μ x)) (next M (one x)) (next N (two x))
  rel_next (alike (ask q)) μ M N h R =
      rel_either (refusal (shape_of M) q) (refusal (shape_of N) q) μ (mark_ask μ q) (answers M q) M N (after M q) (after N q)
      (ap (λ S. refusal S q) R.shapes) (accepted q (maps_of M.working) μ (mark_ask μ q)) R (rel_ask q μ M N R)
  rel_next (alike finish) μ M N h R = rel_finished μ M N R
  rel_next (alike reopen) μ M N h R = R
  rel_next (alike mount) μ M N h R = rel_mounted μ M N R
  rel_next (tw.puts n s a b) μ M N h R =
      rel_either (refusal (shape_of M) (put n s a)) (refusal (shape_of N) (put n s b)) μ (marked μ (tw.puts n s a b)) done M N (after M (put n s a)) (after N (put n s b))
      (ap (λ S. refusal S (put n s a)) R.shapes ∙ put_refusals (shape_of N) n s a b h.0 h.1) refl R (rel_puts μ M N n s a b R)

  -- the answers
  map_same : (μ : Marks) (M N : Model) (n : ℕ) → Rel μ M N → touched μ n ≡ false → map_at (maps_of M.working) n ≡ map_at (maps_of N.working) n
  map_same μ M N n R h =
      let e : place (maps_of M.working) n ≡ place (maps_of N.working) n
      = maps_place M.working n ∙ ap rows_of? (agreeing_at μ.working M.working N.working n R.working h) ∙ sym (maps_place N.working n) in
      ap (λ o. elim o as (λ _. Map) [ Some m ↦ m | None ↦ [] ]) e

  same_answer : (q : Ask) (μ : Marks) (M N : Model) → Rel μ M N → Unseen μ (alike (ask q)) → answers M q ≡ answers N q
  same_answer (create n) μ M N R h = refl
  same_answer (clone f n) μ M N R h = refl
  same_answer (delete n) μ M N R h = refl
  same_answer (put n s a) μ M N R h = refl
  same_answer (remove n s) μ M N R h = ap (λ m. Answer.angle (look s m)) (map_same μ M N n R h)
  same_answer (get n s) μ M N R h = ap (λ m. Answer.angle (look s m)) (map_same μ M N n R h)
  same_answer (at n s) μ M N R h = ap (λ m. Answer.angle (angle_at s m)) (map_same μ M N n R h)
  same_answer (rows n s k) μ M N R h = ap (λ m. Answer.listed (take k (Rattle.model.specs.Plain.from s m))) (map_same μ M N n R h)
  same_answer (summary k n) μ M N R h = ap (λ m. Answer.joined (join k m)) (map_same μ M N n R h)
  same_answer seal μ M N R h = refl

  same_reply : (x : Both) (μ : Marks) (M N : Model) → Legal x → Rel μ M N → Unseen μ x → reply V join M (one x) ≡ reply V join N (two x)
  same_reply (alike (ask q)) μ M N l R h = ap₂ by_refusal (ap (λ S. refusal S q) R.shapes) (same_answer q μ M N R h)
  same_reply (alike finish) μ M N l R h = refl
  same_reply (alike reopen) μ M N l R h = refl
  same_reply (alike mount) μ M N l R h = refl
  same_reply (tw.puts n s a b) μ M N l R h =
      ap (λ o. by_refusal o done) (ap (λ S. refusal S (put n s a)) R.shapes ∙ put_refusals (shape_of N) n s a b l.0 l.1)

  -- both runs refuse alike, whatever is touched
  passes : (q : Ask) (ms : Maps) → refusal_in (answer V join ms q) ≡ None
  passes (create n) ms = refl
  passes (clone f n) ms = refl
  passes (delete n) ms = refl
  passes (put n s a) ms = refl
  passes (remove n s) ms = refl
  passes (get n s) ms = refl
  passes (at n s) ms = refl
  passes (rows n s k) ms = refl
  passes (summary k n) ms = refl
  passes seal ms = refl

  refusal_reply : (M : Model) (q : Ask) → refusal_in (reply V join M (ask q)) ≡ refusal (shape_of M) q
  refusal_reply M q = go (refusal (shape_of M) q)
    where
      go : (o : Option Refusal) → refusal_in (by_refusal o (answers M q)) ≡ o
      go (Some r) = refl
      go None = passes q (maps_of M.working)

  same_refusal : (x : Both) (μ : Marks) (M N : Model) → Legal x → Rel μ M N → refusal_in (reply V join M (one x)) ≡ refusal_in (reply V join N (two x))
  same_refusal (alike (ask q)) μ M N l R = refusal_reply M q ∙ ap (λ S. refusal S q) R.shapes ∙ sym (refusal_reply N q)
  same_refusal (alike finish) μ M N l R = refl
  same_refusal (alike reopen) μ M N l R = refl
  same_refusal (alike mount) μ M N l R = refl
  same_refusal (tw.puts n s a b) μ M N l R =
      refusal_reply M (put n s a) ∙ ap (λ S. refusal S (put n s a)) R.shapes ∙ put_refusals (shape_of N) n s a b l.0 l.1 ∙ sym (refusal_reply N (put n s b))

  -- the cuts
  rel_landed : (k k₂ : Choice) → keeps_persisted k ≡ keeps_persisted k₂ → (μ : Marks) (M N : Model) → Rel μ M N → (ν : Marks) × ((ν ≡ μ) ⊎ (ν ≡ finished_marks μ)) × Rel ν (landed k M) (landed k₂ N)
  rel_landed persisted persisted e μ M N R = (μ, inl refl, R)
  rel_landed current current e μ M N R = (finished_marks μ, inr refl, rel_finished μ M N R)
  rel_landed current (other z) e μ M N R = (finished_marks μ, inr refl, rel_finished μ M N R)
  rel_landed (other y) current e μ M N R = (finished_marks μ, inr refl, rel_finished μ M N R)
  rel_landed (other y) (other z) e μ M N R = (finished_marks μ, inr refl, rel_finished μ M N R)
  rel_landed persisted current e μ M N R = absurd (let z : ◌≡◌ {A = Bool} true false = e in cc)
  rel_landed persisted (other z) e μ M N R = absurd (let z : ◌≡◌ {A = Bool} true false = e in cc)
  rel_landed current persisted e μ M N R = absurd (let z : ◌≡◌ {A = Bool} false true = e in cc)
  rel_landed (other y) persisted e μ M N R = absurd (let z : ◌≡◌ {A = Bool} false true = e in cc)

  pub rel_broken : (x : Both) (k : ℕ) (κ κ₂ : Cutting) → SameCut κ κ₂ → (μ : Marks) (M N : Model) → Rel μ M N → (ν : Marks) × Remain x μ ν × Rel ν (broken M (one x) k κ) (broken N (two x) k κ₂)
  rel_broken (alike (ask q)) k κ κ₂ e μ M N R = (μ, refl, R)
  rel_broken (alike finish) zero κ κ₂ e μ M N R = (μ, inl refl, R)
  rel_broken (alike finish) (suc zero) κ κ₂ e μ M N R =
      let s = suc M.generation % 2 in
      subst (λ g. (ν : Marks) × ((ν ≡ μ) ⊎ (ν ≡ finished_marks μ)) × Rel ν (landed (κ.choice s) M) (landed (κ₂.choice (suc g % 2)) N)) (ap (λ S. S.generation) R.shapes) (rel_landed (κ.choice s) (κ₂.choice s) (e.slots s (omega arith)) μ M N R)
  rel_broken (alike finish) (suc (suc k)) κ κ₂ e μ M N R = (finished_marks μ, inr refl, rel_finished μ M N R)
  rel_broken (alike reopen) k κ κ₂ e μ M N R = (μ, refl, R)
  rel_broken (alike mount) k κ κ₂ e μ M N R = (μ, refl, R)
  rel_broken (tw.puts n s a b) k κ κ₂ e μ M N R = (μ, refl, R)

  agree : (ts : List (Twin V)) (μ : Marks) (M N : Model) (w : Mode) (m : Meaning) (w₂ : Mode) (m₂ : Meaning) → Fine M w m → Fine N w₂ m₂ → Rel μ M N
      → Each legal ts → Run V join w m (map tw.first ts) → Run V join w₂ m₂ (map tw.second ts) → Agree V μ m m₂ ts
  agree [] μ M N w m w₂ m₂ f f₂ R l r r₂ = tt
  agree (tw.did x a os v n a₂ os₂ v₂ n₂ ∷ ts) μ M N w m w₂ m₂ f f₂ R l r r₂ =
      let s = step_fine V join w (one x) M m a os v n f r.0 in
      let s₂ = step_fine V join w₂ (two x) N m₂ a₂ os₂ v₂ n₂ f₂ r₂.0 in
      let R' : Rel (unless a μ (marked μ x)) (next M (one x)) (next N (two x))
      = subst (λ y. Rel (unless y μ (marked μ x)) (next M (one x)) (next N (two x))) (sym s.0) (rel_next x μ M N l.0 R) in (
        ap refusal_in s.0 ∙ same_refusal x μ M N l.0 R ∙ ap refusal_in (sym s₂.0),
        (λ h. s.0 ∙ same_reply x μ M N l.0 R h ∙ sym s₂.0),
        agree ts (unless a μ (marked μ x)) (next M (one x)) (next N (two x)) v n v₂ n₂ s.1 s₂.1 R' l.1 r.1 r₂.1,
      )
  agree (tw.broke x os os₂ k κ κ₂ ∷ ts) μ M N w m w₂ m₂ f f₂ R l r r₂ =
      let b = rel_broken x k κ κ₂ l.0.1 μ M N R in
      let ν : Marks = b.0 in
      let s = broke_fine V join w (one x) M m r.0.0 os r.0.1 r.0.2 k κ f r.0.3 in
      let s₂ = broke_fine V join w₂ (two x) N m₂ r₂.0.0 os₂ r₂.0.1 r₂.0.2 k κ₂ f₂ r₂.0.3 in
      let M' : Model = cut_model κ (broken M (one x) k κ) in
      let N' : Model = cut_model κ₂ (broken N (two x) k κ₂) in
      let d : Meaning = cut κ (replay (take k os) m) in
      let d₂ : Meaning = cut κ₂ (replay (take k os₂) m₂) in
      let g : Finds V d ν.generation = subst (λ g. Finds V d g) (sym b.2.counts) (fine_finds M' d s) in
      let g₂ : Finds V d₂ ν.generation = subst (λ g. Finds V d₂ g) (sym (b.2.counts ∙ ap (λ S. S.generation) b.2.shapes)) (fine_finds N' d₂ s₂) in
      (ν, b.1, g, g₂, agree ts ν M' N' down d down d₂ s s₂ (rel_cut κ κ₂ l.0.1 ν (broken M (one x) k κ) (broken N (two x) k κ₂) b.2) l.1 r.1 r₂.1)
  agree (tw.lost κ κ₂ ∷ ts) μ M N w m w₂ m₂ f f₂ R l r r₂ =
      agree ts μ (cut_model κ M) (cut_model κ₂ N) down (cut κ m) down (cut κ₂ m₂) (idle_cut M κ w m f) (idle_cut N κ₂ w₂ m₂ f₂) (rel_cut κ κ₂ l.0 μ M N R) l.1 r r₂

  pub clear_rel : (m : Meaning) → Rel clear (model_of bare m) (model_of bare m)
  clear_rel m = record { shapes = refl; working = blanks; committed = blanks; counts = refl }
    where
      blanks : Agreeing clear.working (model_of bare m).working (model_of bare m).working
      blanks = agreeing_refl 24

pub two_runs : (V : Type 0) → TwoRuns V
two_runs V join m ts f l r r₂ =
    let g = formatted_fine V join m f in
    agree V join ts clear (model_of bare m) (model_of bare m) (mounted bare) m (mounted bare) m g g (clear_rel V join m) l r r₂
