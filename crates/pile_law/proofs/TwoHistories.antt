-- Two histories on a pile show as two runs of one device.
use Rattle.std.proofs.Common.{◌≡◌, ℕ, zero, suc, ◌<◌, ◌≤◌, ◌⊎◌, Bool, true, false, List, [], ◌∷◌, map, take, sym, refl, ap, subst, subst₂, inl, inr, ⊎_elim, arith}
use Rattle.device.specs.Meaning.{Meaning, blocks_of}
use Rattle.device.specs.Cuts.{Op, Op.flush, Cutting, Fits, replay}
use Rattle.device.proofs.Choices.{blocks_apply}
use Rattle.model.specs.Plain.{Map}
use Rattle.model.specs.TreeBlocks.{Each}
use Rattle.model.specs.World.{Mode, Mode.mounted, Mode.down, Run, Formatted, bare}
use Rattle.model.specs.TwoRuns as tw
use Rattle.model.specs.TwoRuns.{Twin, legal, Agree, clear, SameCut}
use Rattle.model.specs.TwoRuns.{Marks}
use Rattle.model.specs.Model.{Model}
use Rattle.model.specs.Ideal.{cut_model, broken, next}
use Rattle.model.specs.World.{model_of}
use Rattle.model.proofs.Histories.{Fine, step_fine, broke_fine, idle_cut, formatted_fine}
use Rattle.model.proofs.TwoRuns.{Rel, rel_next, rel_broken, rel_cut, clear_rel}
use Rattle.model.proofs.Right.{histories}
use Rattle.model.proofs.Grants.{sizes_parts}
use Rattle.check_layer.specs.Checked.{below_op}
use Rattle.piles.specs.Piles.{Pile, Pile.bottom, Pile.check, Pile.quota, Pile.mirror, shows, Built, PerBottom, on, if_done, part, whole, counts, counted, Accepts, anew, calls}
use Rattle.piles.proofs.Devices.{none, part_none, shows_whole, built_whole, width_apply}
use Rattle.piles.proofs.Rise.{blocks_done, counted_none, cuts_rise}
use Rattle.pile_law.specs.Histories.{moment}
use Rattle.pile_law.proofs.Accepted.{AcceptsAll, Spare, step_accepted}
use Rattle.pile_law.specs.TwoPiles.{KinPile, SameCall, Slots, cut_bottoms, Fitting, TwinChoices, OneCut}
use Rattle.pile_law.specs.TwoHistories.{TwinBelow, TwinBelow.called, TwinBelow.failed, TwinBelow.cut, RunTwins, AllSeenTwins, TwoPilesAgree}
use Rattle.pile_law.proofs.Histories.{shows_calls, next_accepts, take_one, take_nil}
use Rattle.pile_law.proofs.Kin.{kin_whole}
use Rattle.pile_law.proofs.Same.{fitting, same_count, same_rises}
use Rattle.pile_law.proofs.Twins.{SameCalls, SameMode, twin_calls}

-- a pile is alike to itself
kin_refl : (b n : ℕ) (p : Pile) → KinPile b n p p
kin_refl b n (bottom m) = record { width = refl; blocks = refl; cell = record { mark = refl; persisted = inl refl; current = inl refl } }
kin_refl b n (check p) = kin_refl b (suc n) p
kin_refl b n (quota i p) = (refl, kin_refl b n p)
kin_refl b n (mirror p q) = (kin_refl b n p, kin_refl b n q)

-- choices fit after a call too
fitting_whole : (o : Op) (K : PerBottom Cutting) (p : Pile) → Fitting K p → Fitting K (whole o p)
fitting_whole o K (bottom m) f = ((λ b. subst (λ w. Fits w ((K []).choice b)) (sym (width_apply o m)) (f.0 b)), f.1, f.2)
fitting_whole o K (check p) f = fitting_whole (below_op o) K p f
fitting_whole o K (quota n p) f = fitting_whole o K p f
fitting_whole o K (mirror p q) f = (fitting_whole o (on false K) p f.0, fitting_whole o (on true K) q f.1)

twin_whole : (o o₂ : Op) (K K₂ : PerBottom Cutting) (p p₂ : Pile) → TwinChoices K K₂ p p₂ → TwinChoices K K₂ (whole o p) (whole o₂ p₂)
twin_whole o o₂ K K₂ p p₂ f = (fitting_whole o K p f.0, fitting_whole o₂ K₂ p₂ f.1, f.2)

-- the two piles of two runs
record Pair (p p₂ : Pile) : Type 0 where
  pub first : Built p
  pub second : Built p₂
  pub blocks : 2 ≤ blocks_of (shows p)
  pub slots : Slots p p₂

pair_whole : (o o₂ : Op) (p p₂ : Pile) → Pair p p₂ → Accepts (shows p) o → Accepts (shows p₂) o₂ → ((b : ℕ) → b < 2 → SameCall b 0 o o₂) → Pair (whole o p) (whole o₂ p₂)
pair_whole o o₂ p p₂ x a a₂ s = record {
  first = built_whole o p x.first a;
  second = built_whole o₂ p₂ x.second a₂;
  blocks = omega (arith, x.blocks, ap (λ (m : Meaning). blocks_of m) (shows_whole o p x.first a), blocks_apply o (shows p));
  slots = λ b h. kin_whole b 0 p p₂ o o₂ x.first x.second (omega (arith, x.blocks)) (x.slots b h) a a₂ (s b h);
}

pair_calls : (os os₂ : List Op) (p p₂ : Pile) → Pair p p₂ → AcceptsAll (shows p) os → AcceptsAll (shows p₂) os₂ → SameCalls os os₂ → Pair (calls os p) (calls os₂ p₂)
pair_calls [] [] p p₂ x a a₂ s = x
pair_calls (o ∷ os) (o₂ ∷ os₂) p p₂ x a a₂ s =
    pair_calls os os₂ (whole o p) (whole o₂ p₂) (pair_whole o o₂ p p₂ x a.0 a₂.0 s.0)
    (next_accepts o os p x.first a.0 a.1) (next_accepts o₂ os₂ p₂ x.second a₂.0 a₂.1) s.1
pair_calls [] (o ∷ os) p p₂ x a a₂ s = absurd s
pair_calls (o ∷ os) [] p p₂ x a a₂ s = absurd s

-- what a cut leaves of two piles p and p₂ that stood at m and m₂: two piles again, and one cut
abbrev Left : Meaning → Meaning → Pile → Pile → Type 0
Left m m₂ q q₂ = Pair (anew q) (anew q₂) × OneCut m m₂ (shows (anew q)) (shows (anew q₂))

cut_part : (o o₂ : Op) (d : PerBottom Bool) (K K₂ : PerBottom Cutting) (p p₂ : Pile) → Pair p p₂ → Accepts (shows p) o → Accepts (shows p₂) o₂ → ((b : ℕ) → b < 2 → SameCall b 0 o o₂)
    → TwinChoices K K₂ p p₂ → Left (counted o d p) (counted o₂ d p₂) (cut_bottoms K (part o d p)) (cut_bottoms K₂ (part o₂ d p₂))
cut_part o o₂ d K K₂ p p₂ x a a₂ s f =
    let r = same_rises p p₂ o o₂ d K K₂ x.first x.second x.blocks x.slots a a₂ s f in
    let z = cuts_rise.0 p (cut_bottoms K (part o d p)) o d x.first a (fitting o d K p x.first a f.0) in
    let z₂ = cuts_rise.0 p₂ (cut_bottoms K₂ (part o₂ d p₂)) o₂ d x.second a₂ (fitting o₂ d K₂ p₂ x.second a₂ f.1) in
    (record { first = z.0; second = z₂.0; blocks = omega (arith, x.blocks, z.1.blocks, blocks_done o (shows p) (counts o d p)); slots = r.1 }, r.0)

cut_rest : (K K₂ : PerBottom Cutting) (p p₂ : Pile) → Pair p p₂ → TwinChoices K K₂ p p₂ → Left (shows p) (shows p₂) (cut_bottoms K p) (cut_bottoms K₂ p₂)
cut_rest K K₂ p p₂ x f =
    let r = cut_part flush flush none K K₂ p p₂ x tt tt (λ b h. tt) f in
    subst₂ (λ y y₂. Left (shows p) (shows p₂) (cut_bottoms K y) (cut_bottoms K₂ y₂)) (part_none flush p) (part_none flush p₂)
    (subst₂ (λ m m₂. Left m m₂ (cut_bottoms K (part flush none p)) (cut_bottoms K₂ (part flush none p₂))) (counted_none p) (counted_none p₂) r)

-- at a moment of both runs' device calls
abbrev At : List Op → List Op → ℕ → Pile → Pile → Pile → Pile → Type 0
At os os₂ i p p₂ q q₂ = (j : ℕ) × ((j ≡ i) ⊎ (j ≡ suc i)) × Left (replay (take j os) (shows p)) (replay (take j os₂) (shows p₂)) q q₂

inside : (o o₂ : Op) (os os₂ : List Op) (c c₂ : Bool) (p p₂ q q₂ : Pile) → c₂ ≡ c
    → Left (if_done c o (shows p)) (if_done c₂ o₂ (shows p₂)) q q₂ → At (o ∷ os) (o₂ ∷ os₂) 0 p p₂ q q₂
inside o o₂ os os₂ false false p p₂ q q₂ e l = (0, inl refl, l)
inside o o₂ os os₂ true true p p₂ q q₂ e l =
    (1, inr (omega arith), subst₂ (λ x y. Left (replay x (shows p)) (replay y (shows p₂)) q q₂) (sym (take_one o os)) (sym (take_one o₂ os₂)) l)
inside o o₂ os os₂ true false p p₂ q q₂ e l = absurd (let z : ◌≡◌ {A = Bool} false true = e in cc)
inside o o₂ os os₂ false true p p₂ q q₂ e l = absurd (let z : ◌≡◌ {A = Bool} true false = e in cc)

at_moment : (K K₂ : PerBottom Cutting) (os os₂ : List Op) (i : ℕ) (d : PerBottom Bool) (p p₂ : Pile) → Pair p p₂ → AcceptsAll (shows p) os → AcceptsAll (shows p₂) os₂ → SameCalls os os₂ → TwinChoices K K₂ p p₂
    → At os os₂ i p p₂ (cut_bottoms K (moment os i d p)) (cut_bottoms K₂ (moment os₂ i d p₂))
at_moment K K₂ [] [] i d p p₂ x a a₂ s f =
    let q = cut_bottoms K p in
    let q₂ = cut_bottoms K₂ p₂ in
    (i, inl refl, subst (λ y. Left (replay y (shows p)) (replay y (shows p₂)) q q₂) (sym (take_nil i)) (cut_rest K K₂ p p₂ x f))
at_moment K K₂ (o ∷ os) (o₂ ∷ os₂) zero d p p₂ x a a₂ s f =
    inside o o₂ os os₂ (counts o d p) (counts o₂ d p₂) p p₂ (cut_bottoms K (part o d p)) (cut_bottoms K₂ (part o₂ d p₂))
    (same_count 0 0 o o₂ d p p₂ (x.slots 0 (omega arith)) (s.0 0 (omega arith))) (cut_part o o₂ d K K₂ p p₂ x a.0 a₂.0 s.0 f)
at_moment K K₂ (o ∷ os) (o₂ ∷ os₂) (suc i) d p p₂ x a a₂ s f =
    let r = at_moment K K₂ os os₂ i d (whole o p) (whole o₂ p₂) (pair_whole o o₂ p p₂ x a.0 a₂.0 s.0)
    (next_accepts o os p x.first a.0 a.1) (next_accepts o₂ os₂ p₂ x.second a₂.0 a₂.1) s.1 (twin_whole o o₂ K K₂ p p₂ f) in
    let q = cut_bottoms K (moment os i d (whole o p)) in
    let q₂ = cut_bottoms K₂ (moment os₂ i d (whole o₂ p₂)) in
    let j = r.0 in (
      suc j,
      ⊎_elim (λ e. inl (ap suc e)) (λ e. inr (ap suc e)) r.1,
      subst₂ (λ m m₂. Left (replay (take j os) m) (replay (take j os₂) m₂) q q₂) (shows_whole o p x.first a.0) (shows_whole o₂ p₂ x.second a₂.0) r.2,
    )
at_moment K K₂ [] (o ∷ os) i d p p₂ x a a₂ s f = absurd s
at_moment K K₂ (o ∷ os) [] i d p p₂ x a a₂ s f = absurd s

module _ (V : Type 0) (join : ℕ → Map → V) where
  abbrev Tops : Mode → Pile → Mode → Pile → List (TwinBelow V) → Type 0
  Tops w p w₂ p₂ ts =
      (us : List (Twin V)) × AllSeenTwins ts us × Each legal us × Run V join w (shows p) (map tw.first us) × Run V join w₂ (shows p₂) (map tw.second us)

  tops : (ts : List (TwinBelow V)) (w : Mode) (p : Pile) (w₂ : Mode) (p₂ : Pile) (M N : Model) (μ : Marks) → Pair p p₂
      → Fine M w (shows p) → Fine N w₂ (shows p₂) → Spare w (shows p) → Spare w₂ (shows p₂) → Rel μ M N → SameMode w w₂ → RunTwins V join w p w₂ p₂ ts → Tops w p w₂ p₂ ts
  unfolding SameMode
  tops [] w p w₂ p₂ M N μ x f g l l₂ R s r = ([], tt, tt, tt, tt)
  tops (called y a os v a₂ os₂ v₂ ∷ ts) w p w₂ p₂ M N μ x f g l l₂ R s r =
      let d = twin_calls V join y w w₂ (shows p) (shows p₂) M N μ r.0 f g R s a a₂ os os₂ v v₂ (replay os (shows p)) (replay os₂ (shows p₂)) r.1 r.2 in
      let k = step_accepted V join w (shows p) (tw.one y) a os v (replay os (shows p)) M f l r.1 in
      let k₂ = step_accepted V join w₂ (shows p₂) (tw.two y) a₂ os₂ v₂ (replay os₂ (shows p₂)) N g l₂ r.2 in
      let e = (shows_calls os p x.first k.0).0 in
      let e₂ = (shows_calls os₂ p₂ x.second k₂.0).0 in
      let f' = subst (Fine (next M (tw.one y)) v) (sym e) (step_fine V join w (tw.one y) M (shows p) a os v (replay os (shows p)) f r.1).1 in
      let g' = subst (Fine (next N (tw.two y)) v₂) (sym e₂) (step_fine V join w₂ (tw.two y) N (shows p₂) a₂ os₂ v₂ (replay os₂ (shows p₂)) g r.2).1 in
      let t = tops ts v (calls os p) v₂ (calls os₂ p₂) (next M (tw.one y)) (next N (tw.two y)) _ (pair_calls os os₂ p p₂ x k.0 k₂.0 d.0) f' g' (subst (Spare v) (sym e) k.1) (subst (Spare v₂) (sym e₂) k₂.1) (rel_next V join y μ M N r.0 R) d.1 r.3 in (
        Twin.did y a os v (replay os (shows p)) a₂ os₂ v₂ (replay os₂ (shows p₂)) ∷ t.0,
        ((refl, refl, refl, refl, refl, refl, refl), t.1),
        (r.0, t.2),
        (r.1, subst (λ m. Run V join v m (map tw.first t.0)) e t.3),
        (r.2, subst (λ m. Run V join v₂ m (map tw.second t.0)) e₂ t.4),
      )
  tops (failed y os os₂ i d K K₂ ∷ ts) w p w₂ p₂ M N μ x f g l l₂ R s r =
      let q = anew (cut_bottoms K (moment os i d p)) in
      let q₂ = anew (cut_bottoms K₂ (moment os₂ i d p₂)) in
      let S = r.1 in
      let U = r.2 in
      let k = step_accepted V join w (shows p) (tw.one y) S.0 os S.1 S.2 M f l S.3 in
      let k₂ = step_accepted V join w₂ (shows p₂) (tw.two y) U.0 os₂ U.1 U.2 N g l₂ U.3 in
      let e = twin_calls V join y w w₂ (shows p) (shows p₂) M N μ r.0 f g R s S.0 U.0 os os₂ S.1 U.1 S.2 U.2 S.3 U.3 in
      let z = at_moment K K₂ os os₂ i d p p₂ x k.0 k₂.0 e.0 r.3 in
      let c = z.2.1 in
      let b = rel_broken V join y z.0 c.first c.second c.same μ M N R in
      let M' : Model = cut_model c.first (broken M (tw.one y) z.0 c.first) in
      let N' : Model = cut_model c.second (broken N (tw.two y) z.0 c.second) in
      let f' = subst (Fine M' down) (sym c.first_cut) (broke_fine V join w (tw.one y) M (shows p) S.0 os S.1 S.2 z.0 c.first f S.3) in
      let g' = subst (Fine N' down) (sym c.second_cut) (broke_fine V join w₂ (tw.two y) N (shows p₂) U.0 os₂ U.1 U.2 z.0 c.second g U.3) in
      let R' = rel_cut c.first c.second c.same b.0 (broken M (tw.one y) z.0 c.first) (broken N (tw.two y) z.0 c.second) b.2 in
      let t = tops ts down q down q₂ M' N' b.0 z.2.0 f' g' tt tt R' tt r.4 in (
        Twin.broke y os os₂ z.0 c.first c.second ∷ t.0,
        ((refl, refl, refl, z.1), t.1),
        ((r.0, c.same), t.2),
        (S, subst (λ m. Run V join down m (map tw.first t.0)) c.first_cut t.3),
        (U, subst (λ m. Run V join down m (map tw.second t.0)) c.second_cut t.4),
      )
  tops (cut K K₂ ∷ ts) w p w₂ p₂ M N μ x f g l l₂ R s r =
      let q = anew (cut_bottoms K p) in
      let q₂ = anew (cut_bottoms K₂ p₂) in
      let z = cut_rest K K₂ p p₂ x r.0 in
      let c = z.1 in
      let f' = subst (Fine (cut_model c.first M) down) (sym c.first_cut) (idle_cut M c.first w (shows p) f) in
      let g' = subst (Fine (cut_model c.second N) down) (sym c.second_cut) (idle_cut N c.second w₂ (shows p₂) g) in
      let t = tops ts down q down q₂ (cut_model c.first M) (cut_model c.second N) μ z.0 f' g' tt tt (rel_cut c.first c.second c.same μ M N R) tt r.1 in (
        Twin.lost c.first c.second ∷ t.0,
        (tt, t.1),
        (c.same, t.2),
        subst (λ m. Run V join down m (map tw.first t.0)) c.first_cut t.3,
        subst (λ m. Run V join down m (map tw.second t.0)) c.second_cut t.4,
      )

sizes_two : (m : Meaning) → Formatted m → 2 ≤ blocks_of m
sizes_two m f = let p = sizes_parts (blocks_of m) m.width f.0 in omega (arith, p.0)

pub two_piles_agree : (V : Type 0) → TwoPilesAgree V
unfolding SameMode
two_piles_agree V p u join ts f r =
    let x : Pair p p = record { first = u; second = u; blocks = sizes_two (shows p) f; slots = λ b h. kin_refl b 0 p } in
    let g = formatted_fine V join (shows p) f in
    let M : Model = model_of bare (shows p) in
    let t = tops V join ts (mounted bare) p (mounted bare) p M M clear x g g tt tt (clear_rel V join (shows p)) tt r in
    (t.0, t.1, (histories V).1 join (shows p) t.0 f t.2 t.3 t.4)
