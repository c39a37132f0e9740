-- Lists with the same elements.
use Rattle.std.proofs.Common.{◌≡◌, ℕ, zero, suc, ◌+◌, ◌*◌, ◌<◌, Bool, true, false, cond, eqb, List, [], ◌∷◌, length, Some, None, Option, sym, refl, ap, ◌∙◌, subst, arith, length-append}
use Rattle.std.proofs.lemmas.Bool.{eq-eqb, eqb-true}
use Rattle.device.specs.Cuts.{Op, Op.write, Op.flush}
use Rattle.tree.specs.Node.{flat, tally}
use Rattle.tree.specs.Tree as tree
use Rattle.tree.specs.Tree.{Pay, Marks, blocks}
use Rattle.tree.specs.Stored.{is_new}
use Rattle.tree.specs.Numbered.{onward, news}
use Rattle.tree.specs.Apart.{taking, along, collect, its_place, places}
use Rattle.tree.proofs.News.{tally_append}
use Rattle.counts.specs.Counts.{one, occ}
use Rattle.model.specs.TreeBlocks.{Each}
use Rattle.model.specs.World.{targets}
use Rattle.model.proofs.Frames.{IsWrite}

abbrev without : ℕ → List ℕ → List ℕ
without x [] = []
without x (y ∷ ys) = cond (eqb x y) ys (y ∷ without x ys)

one_here : (x y : ℕ) → eqb x y ≡ true → (b : ℕ) → one y b ≡ one x b
one_here x y e b = ap (λ n. one n b) (sym (eqb-true x y e))

abbrev Splits : ℕ → List ℕ → List ℕ → Type 0
Splits x ys zs = ((b : ℕ) → occ b ys ≡ one x b + occ b zs) × (length ys ≡ suc (length zs))

split_occ : (x : ℕ) (ys : List ℕ) → 0 < occ x ys → Splits x ys (without x ys)
split_occ x [] h = absurd (omega arith)
split_occ x (y ∷ ys) h = go (split_occ x ys) (eqb x y) refl h
  where
    go : (0 < occ x ys → Splits x ys (without x ys)) → (k : Bool) → eqb x y ≡ k → 0 < cond k 1 0 + occ x ys → Splits x (y ∷ ys) (cond k ys (y ∷ without x ys))
    go ih true e h = ((λ b. ap (λ z. z + occ b ys) (one_here x y e b)), refl)
    go ih false e h =
        let r = ih (omega arith) in
        ((λ b. let z = r.0 b in omega (arith, z)), ap suc r.1)

occ_head : (x : ℕ) (xs : List ℕ) → 0 < occ x (x ∷ xs)
occ_head x xs = let e : one x x ≡ 1 = ap {B = ℕ} (λ k. cond k 1 0) (eq-eqb x x refl) in omega (arith, e)

pub same_length : (xs ys : List ℕ) → ((b : ℕ) → occ b xs ≡ occ b ys) → length xs ≡ length ys
same_length [] [] h = refl
same_length [] (y ∷ ys) h = absurd (let z = h y in let q = occ_head y ys in omega (arith, z, q))
same_length (x ∷ xs) ys h =
    let q : 0 < occ x ys = subst (λ n. 0 < n) (h x) (occ_head x xs) in
    let r = split_occ x ys q in
    ap suc (same_length xs (without x ys) (λ b. let u = h b in let v = r.0 b in omega (arith, u, v))) ∙ sym r.1

pub targets_length : (os : List Op) → Each IsWrite os → length (targets os) ≡ length os
targets_length [] h = refl
targets_length (write b ws ∷ os) h = ap suc (targets_length os h.1)
targets_length (flush ∷ os) h = absurd h.0

-- one place for each new block
taking_length : {Y : Type 0} (m : Option ℕ) (y : Y) (ys : List Y) → length (taking m y ys) ≡ is_new m + length ys
taking_length None y ys = omega arith
taking_length (Some b) y ys = omega arith

module _ (P : Type 0) where
  ps_length : (l : ℕ) (es : List (ℕ × Pay (Option ℕ) P l)) → length (collect P ℕ (its_place P) l es) ≡ tally is_new (flat (λ k x. Marks (Option ℕ) P l x) es)
  ps_length zero es = sym (leaves es)
    where
      leaves : (es : List (ℕ × P)) → tally is_new (flat (λ k x. Marks (Option ℕ) P zero x) es) ≡ 0
      leaves [] = refl
      leaves (e ∷ r) = leaves r
  ps_length (suc l) es = go (ps_length l) (2 * l) es
    where
      go : ((es : List (ℕ × Pay (Option ℕ) P l)) → length (collect P ℕ (its_place P) l es) ≡ tally is_new (flat (λ k x. Marks (Option ℕ) P l x) es))
          → (i : ℕ) (es : List (ℕ × tree.Tree (Option ℕ) P l)) → length (along (its_place P l) (collect P ℕ (its_place P) l) i (2 * l + 1) es) ≡ tally is_new (flat (λ k x. Marks (Option ℕ) P (suc l) x) es)
      go ih i [] = refl
      go ih i (e ∷ r) =
          let j : ℕ = onward e.1.0 i (2 * l + 1) in
          let A : List ℕ = taking e.1.0 i (collect P ℕ (its_place P) l e.1.1) in
          let B : List ℕ = along (its_place P l) (collect P ℕ (its_place P) l) j (2 * l + 1) r in
          omega (
            arith,
            length-append A B,
            taking_length e.1.0 i (collect P ℕ (its_place P) l e.1.1),
            ih e.1.1,
            go ih j r,
            tally_append is_new (Marks (Option ℕ) P (suc l) e.1) (flat (λ k x. Marks (Option ℕ) P (suc l) x) r),
          )

  pub places_length : (r : tree.Root (Option ℕ) P) → length (places P r) ≡ news P r
  places_length r = taking_length r.1.0 (2 * r.0) (collect P ℕ (its_place P) r.0 r.1.1) ∙ ap (λ n. is_new r.1.0 + n) (ps_length r.0 r.1.1)
