-- Put and remove on numbered blocks.
use Rattle.std.proofs.Common.{◌≡◌, ℕ, zero, suc, ◌+◌, ◌*◌, ◌≤◌, Bool, true, false, cond, List, [], ◌∷◌, Some, None, Option, sym, refl, ap, ◌∙◌, subst, arith}
use Rattle.tree.specs.Node.{ins, del, flat, tally, Every, map_e}
use Rattle.tree.specs.Tree.{Pay, Tree, Root, rows, Wf, Marks, blocks, All, over, over_root}
use Rattle.tree.specs.Stored.{forget, same, is_new, is_fresh, PutNumbered, RemoveNumbered}
use Rattle.tree.proofs.Puts.{put_sound}
use Rattle.tree.proofs.Removes.{remove_sound}
use Rattle.tree.proofs.News.{few_new, rem_root_news, tally_append}
use Rattle.tree.proofs.Over.{over_rows}

-- two properties of each block
module _ (M P : Type 0) (A B C : (l : ℕ) → Tree M P l → Type 0) (h : (l : ℕ) (t : Tree M P l) → A l t → B l t → C l t) where
  pub all_both : (l : ℕ) (p : Pay M P l) → All M P A l p → All M P B l p → All M P C l p
  all_both zero p a b = tt
  all_both (suc l) t a b = (h l t a.0 b.0, go (all_both l) t.1 a.1 b.1)
    where
      go : ((p : Pay M P l) → All M P A l p → All M P B l p → All M P C l p) → (es : List (ℕ × Pay M P l)) → Every (All M P A l) es → Every (All M P B l) es → Every (All M P C l) es
      go ih [] a b = tt
      go ih (e ∷ r) a b = (ih e.1 a.0 b.0, go ih r a.1 b.1)

-- counts over other marks
module _ {M P M' P' : Type 0} (g : M → M') (f : P → P') (c : M → ℕ) (c' : M' → ℕ) (h : (m : M) → c' (g m) ≡ c m) where
  pub over_tally : (l : ℕ) (p : Pay M P l) → tally c' (Marks M' P' l (over g f l p)) ≡ tally c (Marks M P l p)
  over_tally zero p = refl
  over_tally (suc l) t = omega (arith, h t.0, go (over_tally l) t.1)
    where
      go : ((p : Pay M P l) → tally c' (Marks M' P' l (over g f l p)) ≡ tally c (Marks M P l p)) → (es : List (ℕ × Pay M P l)) → tally c' (flat (λ k x. Marks M' P' l x) (map_e (over g f l) es)) ≡ tally c (flat (λ k x. Marks M P l x) es)
      go ih [] = refl
      go ih (e ∷ r) =
          omega (arith, ih e.1, go ih r, tally_append c (Marks M P l e.1) (flat (λ k x. Marks M P l x) r), tally_append c' (Marks M' P' l (over g f l e.1)) (flat (λ k x. Marks M' P' l x) (map_e (over g f l) r)))

tally_zero : {Y : Type 0} (ys : List Y) → tally (λ y. 0) ys ≡ 0
tally_zero [] = refl
tally_zero (y ∷ ys) = omega (arith, tally_zero ys)

is_new_lem : (fresh : ℕ → Bool) (b : ℕ) → is_new (forget fresh b) ≡ is_fresh fresh b
is_new_lem fresh b = go (fresh b)
  where
    go : (x : Bool) → is_new (cond x None (Some b)) ≡ cond x 1 0
    go true = refl
    go false = refl

pub map_same : {P : Type 0} (xs : List (ℕ × P)) → map_e same xs ≡ xs
map_same [] = refl
map_same {P} (e ∷ r) = ap (λ (z : List (ℕ × P)). e ∷ z) (map_same r)

pub put_numbered : (P : Type 0) → PutNumbered P
put_numbered P fresh s a t u h w e =
    let O = Option ℕ in
    let t' : Root O P = over_root Some same t in
    let v = over_rows ℕ P O P Some same t in
    let x = over_rows ℕ P O P (forget fresh) same u in
    let S = put_sound O P None s a t' h (v.1 w) in
    let n = (few_new O P None is_new refl s a t' (v.1 w)).0 in
    let n' : tally is_new (blocks O P u.0 (over_root (forget fresh) same u).1) ≤ tally is_new (blocks O P t.0 t'.1) + (2 * suc t.0 + 1)
    = subst (λ (z : Root O P). tally is_new (blocks O P z.0 z.1) ≤ tally is_new (blocks O P t.0 t'.1) + (2 * suc t.0 + 1)) (sym e) n in (
      x.2 (subst (λ (z : Root O P). Wf O P z.0 z.1) (sym e) S.0),
      sym (map_same (rows ℕ P u.0 u.1)) ∙ sym x.0 ∙ ap (λ (z : Root O P). rows O P z.0 z.1) e ∙ S.1 ∙ ap (ins s a) (v.0 ∙ map_same (rows ℕ P t.0 t.1)),
      omega (arith, n', over_tally (forget fresh) same (is_fresh fresh) is_new (is_new_lem fresh) (suc u.0) u.1, over_tally Some same (λ b. 0) is_new (λ b. refl) (suc t.0) t.1, tally_zero (blocks ℕ P t.0 t.1)),
    )

pub remove_numbered : (P : Type 0) → RemoveNumbered P
remove_numbered P fresh s t u h w e =
    let O = Option ℕ in
    let t' : Root O P = over_root Some same t in
    let v = over_rows ℕ P O P Some same t in
    let x = over_rows ℕ P O P (forget fresh) same u in
    let S = remove_sound O P None s t' h (v.1 w) in
    let n = rem_root_news O P None is_new refl s t' in
    let n' : tally is_new (blocks O P u.0 (over_root (forget fresh) same u).1) ≤ tally is_new (blocks O P t.0 t'.1) + (2 * suc t.0 + 1)
    = subst (λ (z : Root O P). tally is_new (blocks O P z.0 z.1) ≤ tally is_new (blocks O P t.0 t'.1) + (2 * suc t.0 + 1)) (sym e) n in (
      x.2 (subst (λ (z : Root O P). Wf O P z.0 z.1) (sym e) S.0),
      sym (map_same (rows ℕ P u.0 u.1)) ∙ sym x.0 ∙ ap (λ (z : Root O P). rows O P z.0 z.1) e ∙ S.1 ∙ ap (del s) (v.0 ∙ map_same (rows ℕ P t.0 t.1)),
      omega (arith, n', over_tally (forget fresh) same (is_fresh fresh) is_new (is_new_lem fresh) (suc u.0) u.1, over_tally Some same (λ b. 0) is_new (λ b. refl) (suc t.0) t.1, tally_zero (blocks ℕ P t.0 t.1)),
    )
