-- A clone call leaves the same blocks free.
use Rattle.std.proofs.Common.{◌≡◌, ℕ, zero, suc, ◌-◌, Bool, true, false, cond, not, T, ltb, List, [], ◌∷◌, ◌++◌, set, is_some, Some, None, Option, sym, refl, ap, ◌∙◌, ap₂, ⊎_elim}
use Rattle.device.specs.Meaning.{Meaning, current_at}
use Rattle.page.specs.Slot.{Root}
use Rattle.model.specs.declared.refusal.Refusal.TheVariants.{Number, Absent, Taken}
use Rattle.model.specs.Plain.{Ask.clone, place, has, early}
use Rattle.model.specs.TreeBlocks.{Form, elem, reach}
use Rattle.model.specs.Model.{Forms, unused, used, free, forms, reaches, late, refusal}
use Rattle.model.specs.World.{Tables, placed, trees, shape}
use Rattle.model.proofs.TreeLaws.{elem_left, elem_right, elem_cases}
use Rattle.model.proofs.Frames.{trees_put, trees_place}
use Rattle.model.proofs.Places.{forms_place, forms_set}
use Rattle.model.proofs.Walks.{either_none}
use Rattle.model.proofs.Grants.{first_none}

abbrev reach? : Option (Root × Form) → List ℕ
reach? None = []
reach? (Some x) = reach x.1

part_of : (b : ℕ) (xs : Forms) (f : ℕ) → T (elem b (reach? (place xs f))) → T (elem b (reaches xs))
part_of b [] f h = absurd h
part_of b (None ∷ xs) zero h = absurd h
part_of b (Some x ∷ xs) zero h = elem_left b (reach x.1) (reaches xs) h
part_of b (None ∷ xs) (suc f) h = part_of b xs f h
part_of b (Some x ∷ xs) (suc f) h = elem_right b (reach x.1) (reaches xs) (part_of b xs f h)

-- what is reached before a place is filled that was empty is reached after
after_set : (b : ℕ) (xs : Forms) (n : ℕ) (o : Option (Root × Form)) → place xs n ≡ None → T (elem b (reaches xs)) → T (elem b (reaches (set xs n o)))
after_set b [] n o e h = h
after_set b (None ∷ xs) zero None e h = h
after_set b (None ∷ xs) zero (Some y) e h = elem_right b (reach y.1) (reaches xs) h
after_set b (Some x ∷ xs) zero o e h = absurd (let z : ◌≡◌ {A = Option (Root × Form)} (Some x) None = e in cc)
after_set b (None ∷ xs) (suc n) o e h = after_set b xs n o e h
after_set b (Some x ∷ xs) (suc n) o e h =
    ⊎_elim (λ k. elem_left b (reach x.1) (reaches (set xs n o)) k) (λ k. elem_right b (reach x.1) (reaches (set xs n o)) (after_set b xs n o e k))
    (elem_cases b (reach x.1) (reaches xs) h)

before_set : {P : Type 0} (b : ℕ) (xs : Forms) (n : ℕ) (o : Option (Root × Form)) → (T (elem b (reach? o)) → P) → (T (elem b (reaches xs)) → P) → T (elem b (reaches (set xs n o))) → P
before_set b [] n o k j h = j h
before_set b (None ∷ xs) zero None k j h = j h
before_set b (None ∷ xs) zero (Some y) k j h = ⊎_elim k j (elem_cases b (reach y.1) (reaches xs) h)
before_set b (Some x ∷ xs) zero None k j h = j (elem_right b (reach x.1) (reaches xs) h)
before_set b (Some x ∷ xs) zero (Some y) k j h = ⊎_elim k (λ h. j (elem_right b (reach x.1) (reaches xs) h)) (elem_cases b (reach y.1) (reaches xs) h)
before_set b (None ∷ xs) (suc n) o k j h = before_set b xs n o k j h
before_set b (Some x ∷ xs) (suc n) o k j h =
    ⊎_elim (λ h. j (elem_left b (reach x.1) (reaches xs) h)) (λ h. before_set b xs n o k (λ q. j (elem_right b (reach x.1) (reaches xs) q)) h)
    (elem_cases b (reach x.1) (reaches (set xs n o)) h)

one_truth : (x y : Bool) → (T x → T y) → (T y → T x) → x ≡ y
one_truth true true f g = refl
one_truth false false f g = refl
one_truth true false f g = absurd (f tt)
one_truth false true f g = absurd (g tt)

copied : (b : ℕ) (xs ys : Forms) (n f : ℕ) → place xs n ≡ None → elem b (reaches (set xs n (place xs f)) ++ reaches ys) ≡ elem b (reaches xs ++ reaches ys)
copied b xs ys n f e =
    let zs : Forms = set xs n (place xs f) in
    one_truth (elem b (reaches zs ++ reaches ys)) (elem b (reaches xs ++ reaches ys))
    (λ h.
    ⊎_elim (λ k. elem_left b (reaches xs) (reaches ys) (before_set b xs n (place xs f) (part_of b xs f) (λ q. q) k)) (λ k. elem_right b (reaches xs) (reaches ys) k)
    (elem_cases b (reaches zs) (reaches ys) h))
    (λ h.
    ⊎_elim (λ k. elem_left b (reaches zs) (reaches ys) (after_set b xs n (place xs f) e k)) (λ k. elem_right b (reaches zs) (reaches ys) k)
    (elem_cases b (reaches xs) (reaches ys) h))

same_unused : (k b : ℕ) (us vs : List ℕ) → ((x : ℕ) → elem x us ≡ elem x vs) → unused k b us ≡ unused k b vs
same_unused zero b us vs h = refl
same_unused (suc k) b us vs h = ap₂ (λ p (z : List ℕ). cond p z (b ∷ z)) (h b) (same_unused k (suc b) us vs h)

empty : {A : Type 0} (o : Option A) → is_some o ≡ false → o ≡ None
empty None e = refl
empty (Some x) e = absurd (let z : ◌≡◌ {A = Bool} true false = e in cc)

pub clone_free : (t : Tables) (m : Meaning) (f n : ℕ) → refusal (shape t m) (clone f n) ≡ None → free (shape (placed t (set t.working n (place t.working f))) m) ≡ free (shape t m)
clone_free t m f n e =
    let S = shape t m in
    let c = current_at m in
    let p = either_none (early (has S.working) (clone f n)) (late S (clone f n)) e in
    let p1 = first_none (ltb 23 f) Number ((ltb 23 n, Number) ∷ (not (has S.working f), Absent) ∷ (has S.working n, Taken) ∷ []) p.0 in
    let p2 = first_none (ltb 23 n) Number ((not (has S.working f), Absent) ∷ (has S.working n, Taken) ∷ []) p1.1 in
    let p3 = first_none (not (has S.working f)) Absent ((has S.working n, Taken) ∷ []) p2.1 in
    let p4 = first_none (has S.working n) Taken [] p3.1 in
    let fs : forms (trees c (set t.working n (place t.working f))) ≡ set S.working n (place S.working f)
    = ap forms (trees_put c t.working n (place t.working f) ∙ ap (set (trees c t.working) n) (sym (trees_place c t.working f)))
    ∙ forms_set (trees c t.working) n (place (trees c t.working) f) ∙ ap (set S.working n) (sym (forms_place (trees c t.working) f)) in
    same_unused (S.blocks - 2) 2 (reaches (forms (trees c (set t.working n (place t.working f)))) ++ reaches S.committed) (used S)
    (λ b. ap (λ xs. elem b (reaches xs ++ reaches S.committed)) fs ∙ copied b S.working S.committed n f (empty (place S.working n) p4.0))
