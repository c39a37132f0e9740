-- The blocks in use are those that the places reach.
use Rattle.std.proofs.Common.{◌≡◌, ℕ, zero, suc, ◌-◌, ◌<◌, Bool, true, false, cond, T, ltb, ◌⊎◌, List, [], ◌∷◌, ◌++◌, map, get_or, Some, None, Option, sym, refl, ap, ◌∙◌, subst, ap₂, inl, inr, ⊎_elim, arith}
use Rattle.std.proofs.lemmas.Bool.{eq-eqb, cases_eq, ne_eqb, ltb-true, lt-ltb}
use Rattle.device.specs.Meaning.{Content, Meaning, blocks_of, current_at}
use Rattle.page.specs.Block.{Block}
use Rattle.page.specs.Slot.{Root, Table}
use Rattle.tree.specs.Node.{map_e, Every, flat}
use Rattle.tree.specs.Tree as tree
use Rattle.tree.specs.Tree.{Pay, Marks, All}
use Rattle.tree.specs.Apart.{In}
use Rattle.page.specs.Block.{block_in, block_at, kids_of}
use Rattle.counts.specs.Counts.{one, occ, Reached, root, child, spare}
use Rattle.counts.proofs.Steps.{alive_is_reached}
use Rattle.model.specs.TreeBlocks.{form, reach, elem, payload, block_of, top_level, tree_at}
use Rattle.model.specs.Model.{used, unused}
use Rattle.model.specs.World.{Tables, shape}
use Rattle.model.specs.Reach.{roots_of, rootings, Standing, UseIsReach, FreeByCounts}
use Rattle.model.proofs.TreeLaws.{elem_left, elem_right, elem_cases, elem_here, elem_head, reach_form}
use Rattle.model.proofs.Frames.{Goods, Reaches}

-- to stand in a list
in_occ : (b : ℕ) (xs : List ℕ) → In b xs → 0 < occ b xs
in_occ b [] h = absurd h
in_occ b (x ∷ xs) (inl e) = let q : one x b ≡ 1 = ap {B = ℕ} (λ k. cond k 1 0) (eq-eqb b x e) in omega (arith, q)
in_occ b (x ∷ xs) (inr h) = let q = in_occ b xs h in omega (arith, q)

occ_in : (b : ℕ) (xs : List ℕ) → 0 < occ b xs → In b xs
occ_in b [] h = absurd (omega arith)
occ_in b (x ∷ xs) h =
    ⊎_elim (λ e. inl e) (λ ne. inr (occ_in b xs (let q : one x b ≡ 0 = ap {B = ℕ} (λ k. cond k 1 0) (ne_eqb b x ne) in omega (arith, q)))) (cases_eq b x)

in_app : (b : ℕ) (xs ys : List ℕ) → In b (xs ++ ys) → In b xs ⊎ In b ys
in_app b [] ys h = inr h
in_app b (x ∷ xs) ys (inl e) = inl (inl e)
in_app b (x ∷ xs) ys (inr h) = ⊎_elim (λ q. inl (inr q)) (λ q. inr q) (in_app b xs ys h)

in_left : (b : ℕ) (xs ys : List ℕ) → In b xs → In b (xs ++ ys)
in_left b [] ys h = absurd h
in_left b (x ∷ xs) ys (inl e) = inl e
in_left b (x ∷ xs) ys (inr h) = inr (in_left b xs ys h)

in_right : (b : ℕ) (xs ys : List ℕ) → In b ys → In b (xs ++ ys)
in_right b [] ys h = h
in_right b (x ∷ xs) ys h = inr (in_right b xs ys h)

abbrev numbers_in : (l : ℕ) → List (ℕ × tree.Tree ℕ ℕ l) → List ℕ
numbers_in l es = map (λ (e : ℕ × ℕ). e.1) (map_e (payload (suc l)) es)

module _ (c : ℕ → Content) (h : ℕ → ℕ) where
  abbrev g : ℕ → Option Block
  g b = block_in (c b)

  abbrev St : (l : ℕ) → tree.Tree ℕ ℕ l → Type 0
  St l u = block_in (c u.0) ≡ Some (block_of l u)

  kids_reached : (l : ℕ) (es : List (ℕ × tree.Tree ℕ ℕ l)) → ((b : ℕ) → In b (numbers_in l es) → Reached g h b) → Every (λ (t : tree.Tree ℕ ℕ l). Reached g h t.0) es
  kids_reached l [] k = tt
  kids_reached l (e ∷ r) k = (k e.1.0 (inl refl), kids_reached l r (λ b q. k b (inr q)))

  -- all of a stored tree is reached from its root
  down : (l : ℕ) (t : tree.Tree ℕ ℕ l) → All ℕ ℕ St (suc l) t → Reached g h t.0 → (b : ℕ) → T (elem b (Marks ℕ ℕ (suc l) t)) → Reached g h b
  down zero t a r b q = ⊎_elim (λ e. subst (Reached g h) (sym e) r) (λ k. absurd (none t.1 k)) (elem_head b t.0 (flat (λ k x. Marks ℕ ℕ zero x) t.1) q)
    where
      none : (es : List (ℕ × ℕ)) → T (elem b (flat (λ k x. Marks ℕ ℕ zero x) es)) → ⊥
      none [] k = k
      none (e ∷ r) k = none r k
  down (suc l) t a r b q =
      ⊎_elim (λ e. subst (Reached g h) (sym e) r)
      (λ k. go (down l) t.1 a.1 (kids_reached l t.1 (λ x i. child r (subst (λ o. 0 < occ x (kids_of o)) (sym a.0) (in_occ x (numbers_in l t.1) i)))) k)
      (elem_head b t.0 (flat (λ k x. Marks ℕ ℕ (suc l) x) t.1) q)
    where
      go : ((t : tree.Tree ℕ ℕ l) → All ℕ ℕ St (suc l) t → Reached g h t.0 → (b : ℕ) → T (elem b (Marks ℕ ℕ (suc l) t)) → Reached g h b)
          → (es : List (ℕ × tree.Tree ℕ ℕ l)) → Every (All ℕ ℕ St (suc l)) es → Every (λ (t : tree.Tree ℕ ℕ l). Reached g h t.0) es → T (elem b (flat (λ k x. Marks ℕ ℕ (suc l) x) es)) → Reached g h b
      go ih [] a r k = absurd k
      go ih (e ∷ es) a r k = ⊎_elim (λ u. ih e.1 a.0 r.0 b u) (λ u. go ih es a.1 r.1 u) (elem_cases b (Marks ℕ ℕ (suc l) e.1) (flat (λ k x. Marks ℕ ℕ (suc l) x) es) k)

  kid_marks : (l : ℕ) (es : List (ℕ × tree.Tree ℕ ℕ l)) (b : ℕ) → In b (numbers_in l es) → T (elem b (flat (λ k x. Marks ℕ ℕ (suc l) x) es))
  kid_marks l [] b i = absurd i
  kid_marks l (e ∷ r) b (inl q) = elem_left b (Marks ℕ ℕ (suc l) e.1) (flat (λ k x. Marks ℕ ℕ (suc l) x) r) (subst (λ z. T (elem z (Marks ℕ ℕ (suc l) e.1))) (sym q) (elem_here e.1.0 (flat (λ k x. Marks ℕ ℕ l x) e.1.1)))
  kid_marks l (e ∷ r) b (inr q) = elem_right b (Marks ℕ ℕ (suc l) e.1) (flat (λ k x. Marks ℕ ℕ (suc l) x) r) (kid_marks l r b q)

  -- a stored tree has each child of its blocks
  closed : (l : ℕ) (t : tree.Tree ℕ ℕ l) → All ℕ ℕ St (suc l) t → (x b : ℕ) → T (elem x (Marks ℕ ℕ (suc l) t)) → 0 < occ b (kids_of (g x)) → T (elem b (Marks ℕ ℕ (suc l) t))
  closed zero t a x b q k =
      ⊎_elim (λ e. absurd (let z : 0 < occ b (kids_of (Some (block_of zero t))) = subst (λ o. 0 < occ b (kids_of o)) (ap g e ∙ a.0) k in omega arith)) (λ u. absurd (none t.1 u)) (elem_head x t.0 (flat (λ k x. Marks ℕ ℕ zero x) t.1) q)
    where
      none : (es : List (ℕ × ℕ)) → T (elem x (flat (λ k x. Marks ℕ ℕ zero x) es)) → ⊥
      none [] k = k
      none (e ∷ r) k = none r k
  closed (suc l) t a x b q k =
      let below : List ℕ = flat (λ k x. Marks ℕ ℕ (suc l) x) t.1 in
      elem_right b (t.0 ∷ []) below
      (⊎_elim (λ e. kid_marks l t.1 b (occ_in b (numbers_in l t.1) (subst (λ o. 0 < occ b (kids_of o)) (ap g e ∙ a.0) k)))
      (λ u. go (closed l) t.1 a.1 u) (elem_head x t.0 below q))
    where
      go : ((t : tree.Tree ℕ ℕ l) → All ℕ ℕ St (suc l) t → (x b : ℕ) → T (elem x (Marks ℕ ℕ (suc l) t)) → 0 < occ b (kids_of (g x)) → T (elem b (Marks ℕ ℕ (suc l) t)))
          → (es : List (ℕ × tree.Tree ℕ ℕ l)) → Every (All ℕ ℕ St (suc l)) es → T (elem x (flat (λ k x. Marks ℕ ℕ (suc l) x) es)) → T (elem b (flat (λ k x. Marks ℕ ℕ (suc l) x) es))
      go ih [] a u = absurd u
      go ih (e ∷ r) a u =
          let A : List ℕ = Marks ℕ ℕ (suc l) e.1 in
          let B : List ℕ = flat (λ k x. Marks ℕ ℕ (suc l) x) r in
          ⊎_elim (λ v. elem_left b A B (ih e.1 a.0 x b v k)) (λ v. elem_right b A B (go ih r a.1 v)) (elem_cases x A B u)

  -- tables
  root_here : (r : Root) → T (elem r.1 (reach (tree_at c r)))
  unfolding tree_at
  root_here r = elem_here r.1 (flat (λ k x. Marks ℕ ℕ (top_level r.0) x) (tree_at c r).1.1)

  root_is : (r : Root) → (tree_at c r).1.0 ≡ r.1
  unfolding tree_at
  root_is r = refl

  of_form : (r : Root) (b : ℕ) → T (elem b (reach (form (tree_at c r)))) → T (elem b (reach (tree_at c r)))
  of_form r b q = subst (λ z. T (elem b z)) (reach_form (tree_at c r)) q

  to_form : (r : Root) (b : ℕ) → T (elem b (reach (tree_at c r))) → T (elem b (reach (form (tree_at c r))))
  to_form r b q = subst (λ z. T (elem b z)) (sym (reach_form (tree_at c r))) q

  table_down : (n : ℕ) (t : Table) → Goods n c t → ((b : ℕ) → In b (roots_of t) → Reached g h b) → (b : ℕ) → T (elem b (Reaches c t)) → Reached g h b
  table_down n [] G k b q = absurd q
  table_down n (None ∷ t) G k b q = table_down n t G k b q
  table_down n (Some r ∷ t) G k b q =
      ⊎_elim (λ u. down (tree_at c r).0 (tree_at c r).1 G.0.stored (subst (Reached g h) (sym (root_is r)) (k r.1 (inl refl))) b (of_form r b u))
      (λ u. table_down n t G.1 (λ x i. k x (inr i)) b u) (elem_cases b (reach (form (tree_at c r))) (Reaches c t) q)

  table_up : (n : ℕ) (t : Table) → Goods n c t → (x b : ℕ) → T (elem x (Reaches c t)) → 0 < occ b (kids_of (g x)) → T (elem b (Reaches c t))
  table_up n [] G x b q k = absurd q
  table_up n (None ∷ t) G x b q k = table_up n t G x b q k
  table_up n (Some r ∷ t) G x b q k =
      let A : List ℕ = reach (form (tree_at c r)) in
      ⊎_elim (λ u. elem_left b A (Reaches c t) (to_form r b (closed (tree_at c r).0 (tree_at c r).1 G.0.stored x b (of_form r x u) k)))
      (λ u. elem_right b A (Reaches c t) (table_up n t G.1 x b u k)) (elem_cases x A (Reaches c t) q)

  table_roots : (t : Table) (b : ℕ) → In b (roots_of t) → T (elem b (Reaches c t))
  table_roots [] b i = absurd i
  table_roots (None ∷ t) b i = table_roots t b i
  table_roots (Some r ∷ t) b (inl e) = elem_left b (reach (form (tree_at c r))) (Reaches c t) (to_form r b (subst (λ z. T (elem z (reach (tree_at c r)))) (sym e) (root_here r)))
  table_roots (Some r ∷ t) b (inr i) = elem_right b (reach (form (tree_at c r))) (Reaches c t) (table_roots t b i)

module _ (t : Tables) (m : Meaning) (S : Standing t m) where
  abbrev W : List ℕ
  W = Reaches (current_at m) t.working

  abbrev C : List ℕ
  C = Reaches (current_at m) t.committed

  abbrev c : ℕ → Content
  c = current_at m

  used_to : (b : ℕ) → Reached (block_at m) (rootings t) b → T (elem b (W ++ C))
  unfolding block_at
  used_to b (root k) =
      ⊎_elim (λ i. elem_left b W C (table_roots c (rootings t) t.working b i)) (λ i. elem_right b W C (table_roots c (rootings t) t.committed b i))
      (in_app b (roots_of t.working) (roots_of t.committed) (occ_in b (roots_of t.working ++ roots_of t.committed) k))
  used_to b (child {x} r k) =
      ⊎_elim (λ u. elem_left b W C (table_up c (rootings t) (blocks_of m) t.working S.0 x b u k)) (λ u. elem_right b W C (table_up c (rootings t) (blocks_of m) t.committed S.1 x b u k))
      (elem_cases x W C (used_to x r))

  rooted : (b : ℕ) → In b (roots_of t.working ++ roots_of t.committed) → Reached (block_at m) (rootings t) b
  rooted b i = root (in_occ b (roots_of t.working ++ roots_of t.committed) i)

  used_from : (b : ℕ) → T (elem b (W ++ C)) → Reached (block_at m) (rootings t) b
  unfolding block_at
  used_from b q =
      ⊎_elim (λ u. table_down c (rootings t) (blocks_of m) t.working S.0 (λ x i. rooted x (in_left x (roots_of t.working) (roots_of t.committed) i)) b u)
      (λ u. table_down c (rootings t) (blocks_of m) t.committed S.1 (λ x i. rooted x (in_right x (roots_of t.working) (roots_of t.committed) i)) b u)
      (elem_cases b W C q)

pub use_is_reach : UseIsReach
use_is_reach t m S b = (used_to t m S b, used_from t m S b)

-- equal tests
same_test : (p q : Bool) → (p ≡ true → q ≡ true) → (q ≡ true → p ≡ true) → p ≡ q
same_test true q f k = sym (f refl)
same_test false true f k = k refl
same_test false false f k = refl

to_true : (p : Bool) → T p → p ≡ true
to_true true h = refl
to_true false h = absurd h

same_spare : (k b : ℕ) (us cs : List ℕ) → ((x : ℕ) → elem x us ≡ ltb 0 (get_or cs x 0)) → unused k b us ≡ spare k b cs
same_spare zero b us cs h = refl
same_spare (suc k) b us cs h = ap₂ (λ (p : Bool) (z : List ℕ). cond p z (b ∷ z)) (h b) (same_spare k (suc b) us cs h)

pub free_by_counts : FreeByCounts
free_by_counts t m cs S c e =
    let h = alive_is_reached (block_at m) cs (rootings t) c in
    same_spare (blocks_of m - 2) 2 (used (shape t m)) cs
    (λ x. same_test (elem x (used (shape t m))) (ltb 0 (get_or cs x 0))
    (λ q. lt-ltb 0 (get_or cs x 0) ((h x).1 (used_from t m S x (subst T (sym q) tt))))
    (λ q. to_true (elem x (used (shape t m))) (used_to t m S x ((h x).0 (ltb-true 0 (get_or cs x 0) q)))))
    ∙ ap (λ n. spare (n - 2) 2 cs) (sym e)
