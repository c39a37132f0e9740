-- Every history on a pile is one of the device that it shows.
use Rattle.std.proofs.Common.{◌≡◌, ℕ, zero, suc, ◌⊎◌, Bool, true, false, List, [], ◌∷◌, take, sym, refl, ap, ◌∙◌, subst, inl, inr, ⊎_elim, arith}
use Rattle.device.specs.Meaning.{Meaning, Cut}
use Rattle.device.specs.Cuts.{Op, apply, replay}
use Rattle.device.proofs.Choices.{cuts_agree}
use Rattle.model.specs.Plain.{Map, Call, Answer}
use Rattle.model.specs.World.{Mode, Mode.mounted, Mode.down, Event, Event.did, Event.broke, Event.lost, Step, Run, bare}
use Rattle.model.specs.World.{model_of}
use Rattle.model.specs.Model.{Model}
use Rattle.model.specs.Ideal.{next, broken, cut_model}
use Rattle.model.proofs.Histories.{Fine, step_fine, broke_fine, idle_cut, formatted_fine}
use Rattle.model.proofs.Right.{histories}
use Rattle.piles.specs.Piles.{Pile, shows, Built, PerBottom, if_done, whole, Accepts, Cuts, anew, counts, calls}
use Rattle.pile_law.specs.Histories.{moment, Below, Below.called, Below.failed, Below.cut, RunBelow, AllSeen, PilesKeepTheLaw}
use Rattle.piles.proofs.Devices.{shows_whole, built_whole}
use Rattle.piles.proofs.Rise.{cuts_rise, rest, made}
use Rattle.pile_law.proofs.Accepted.{AcceptsAll, Spare, step_accepted}

pub next_accepts : (o : Op) (os : List Op) (p : Pile) → Built p → (a : Accepts (shows p) o) → AcceptsAll (apply o (shows p)) os → AcceptsAll (shows (whole o p)) os
next_accepts o os p b a more = subst (λ m. AcceptsAll m os) (sym (shows_whole o p b a)) more

pub shows_calls : (os : List Op) (p : Pile) → Built p → AcceptsAll (shows p) os → (shows (calls os p) ≡ replay os (shows p)) × Built (calls os p)
shows_calls [] p b a = (refl, b)
shows_calls (o ∷ os) p b a =
    let r = shows_calls os (whole o p) (built_whole o p b a.0) (next_accepts o os p b a.0 a.1) in
    (r.0 ∙ ap (replay os) (shows_whole o p b a.0), r.1)

-- a cut at a moment of some calls is a cut after so many of them, or after one more
abbrev At : List Op → ℕ → Pile → Pile → Type 0
At os i p q = Built (anew q) × ((j : ℕ) × ((j ≡ i) ⊎ (j ≡ suc i)) × Cut (replay (take j os) (shows p)) (shows (anew q)))

take_none : (os : List Op) → take 0 os ≡ []
take_none [] = refl
take_none (o ∷ os) = refl

pub take_nil : (i : ℕ) → ◌≡◌ {A = List Op} (take i []) []
take_nil zero = refl
take_nil (suc i) = refl

pub take_one : (o : Op) (os : List Op) → take 1 (o ∷ os) ≡ o ∷ []
take_one o os = ap (λ x. o ∷ x) (take_none os)

before : (o : Op) (os : List Op) (p q : Pile) → Built (anew q) → Cut (shows p) (shows (anew q)) → At (o ∷ os) 0 p q
before o os p q b c = (b, (0, inl refl, c))

past : (o : Op) (os : List Op) (p q : Pile) → Built (anew q) → Cut (apply o (shows p)) (shows (anew q)) → At (o ∷ os) 0 p q
past o os p q b c = (b, (1, inr (omega arith), subst (λ x. Cut (replay x (shows p)) (shows (anew q))) (sym (take_one o os)) c))

inside : (o : Op) (os : List Op) (d : Bool) (p q : Pile) → Built (anew q) → Cut (if_done d o (shows p)) (shows (anew q)) → At (o ∷ os) 0 p q
inside o os false p q u c = before o os p q u c
inside o os true p q u c = past o os p q u c

at_moment : (os : List Op) (i : ℕ) (d : PerBottom Bool) (p q : Pile) → Built p → AcceptsAll (shows p) os → Cuts (moment os i d p) q → At os i p q
at_moment [] i d p q b a c =
    ((made p q b c).0, (i, inl refl, subst (λ x. Cut (replay x (shows p)) (shows (anew q))) (sym (take_nil i)) (rest p q b c)))
at_moment (o ∷ os) zero d p q b a c =
    let r = cuts_rise.0 p q o d b a.0 c in
    inside o os (counts o d p) p q r.0 r.1
at_moment (o ∷ os) (suc i) d p q b a c =
    let r = at_moment os i d (whole o p) q (built_whole o p b a.0) (next_accepts o os p b a.0 a.1) c in
    let j = r.1.0 in (
      r.0,
      (
        suc j,
        ⊎_elim (λ e. inl (ap suc e)) (λ e. inr (ap suc e)) r.1.1,
        subst (λ m. Cut (replay (take j os) m) (shows (anew q))) (shows_whole o p b a.0) r.1.2,
      ),
    )

module _ (V : Type 0) (join : ℕ → Map → V) where
  rises : (es : List (Below V)) (w : Mode) (p : Pile) (M : Model) → Built p → Fine M w (shows p) → Spare w (shows p) → RunBelow V join w p es → (fs : List (Event V)) × AllSeen es fs × Run V join w (shows p) fs
  rises [] w p M b f s r = ([], tt, tt)
  rises (called c a os w' ∷ es) w p M b f s r =
      let m = shows p in
      let m' = replay os m in
      let k = step_accepted V join w m c a os w' m' M f s r.0 in
      let x = shows_calls os p b k.0 in
      let f' = subst (Fine (next M c) w') (sym x.0) (step_fine V join w c M m a os w' m' f r.0).1 in
      let t = rises es w' (calls os p) (next M c) x.1 f' (subst (Spare w') (sym x.0) k.1) r.1 in
      (did c a os w' m' ∷ t.0, ((refl, refl, refl, refl), t.1), (r.0, subst (λ m. Run V join w' m t.0) x.0 t.2))
  rises (failed c os i d q ∷ es) w p M b f s r =
      let m = shows p in
      let S = r.0 in
      let k = step_accepted V join w m c S.0 os S.1 S.2 M f s S.3 in
      let x = at_moment os i d p q b k.0 r.1 in
      let j = x.1.0 in
      let κ = cuts_agree.1 (replay (take j os) m) (shows (anew q)) x.1.2 in
      let f' = subst (Fine (cut_model κ.0 (broken M c j κ.0)) down) (sym κ.2) (broke_fine V join w c M m S.0 os S.1 S.2 j κ.0 f S.3) in
      let t = rises es down (anew q) (cut_model κ.0 (broken M c j κ.0)) x.0 f' tt r.2 in
      (broke c os j κ.0 ∷ t.0, ((refl, refl, x.1.1), t.1), (S, subst (λ m. Run V join down m t.0) κ.2 t.2))
  rises (cut q ∷ es) w p M b f s r =
      let κ = cuts_agree.1 (shows p) (shows (anew q)) (rest p q b r.0) in
      let f' = subst (Fine (cut_model κ.0 M) down) (sym κ.2) (idle_cut M κ.0 w (shows p) f) in
      let t = rises es down (anew q) (cut_model κ.0 M) (made p q b r.0).0 f' tt r.1 in
      (lost κ.0 ∷ t.0, (tt, t.1), subst (λ m. Run V join down m t.0) κ.2 t.2)

pub piles_keep_the_law : (V : Type 0) → PilesKeepTheLaw V
piles_keep_the_law V p b join es f r =
    let t = rises V join es (mounted bare) p (model_of bare (shows p)) b (formatted_fine V join (shows p) f) tt r in
    (t.0, t.1, t.2, (histories V).0 join (shows p) t.0 f t.2)

-- a call of a device that is a pile
pub call_event : (V : Type 0) (join : ℕ → Map → V) (w w' : Mode) (c : Call) (a : Answer V) (os : List Op) (es : List (Below V)) (p q : Pile) (m m' : Meaning)
    → shows p ≡ m → q ≡ calls os p → Step V join w m c a os w' m' → RunBelow V join w' q es → RunBelow V join w p (called c a os w' ∷ es)
call_event V join w w' c a os es p q m m' e f S R =
    (subst (λ x. Step V join w x c a os w' (replay os x)) (sym e) (subst (Step V join w m c a os w') S.0 S), subst (λ x. RunBelow V join w' x es) f R)
