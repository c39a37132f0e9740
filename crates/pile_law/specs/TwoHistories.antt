-- Two histories on a pile, alike but for angles, whose cuts leave the bottoms by the same choices at the slots.
use Rattle.std.specs.Prelude.{◌≡◌, ℕ, suc, ◌⊎◌, Bool, List, [], ◌∷◌}
use Rattle.device.specs.Meaning.{Meaning}
use Rattle.device.specs.Cuts.{Op, Cutting, replay}
use Rattle.model.specs.Plain.{Map, Answer, Call}
use Rattle.model.specs.World.{Mode, Mode.mounted, Mode.down, Step, Formatted, bare}
use Rattle.model.specs.TwoRuns.{Both, Twin, Twin.did, Twin.broke, Twin.lost, one, two, Legal, Agree, clear}
use Rattle.piles.specs.Piles.{Pile, shows, Built, PerBottom, calls, anew}
use Rattle.pile_law.specs.Histories.{moment}
use Rattle.pile_law.specs.TwoPiles.{cut_bottoms, TwinChoices}

-- an event of both runs on piles of the same layers: the same moment, and choices at the bottoms for each
pub data TwinBelow (V : Type 0) : Type 0 where
  called : Both → Answer V → List Op → Mode → Answer V → List Op → Mode → TwinBelow V
  failed : Both → List Op → List Op → ℕ → PerBottom Bool → PerBottom Cutting → PerBottom Cutting → TwinBelow V
  cut : PerBottom Cutting → PerBottom Cutting → TwinBelow V

module _ (V : Type 0) (join : ℕ → Map → V) where
  abbrev pub Steps : Mode → Pile → Call → List Op → Type 0
  Steps w p c os = (a : Answer V) × (w' : Mode) × (m' : Meaning) × Step V join w (shows p) c a os w' m'

  abbrev pub RunTwins : Mode → Pile → Mode → Pile → List (TwinBelow V) → Type 0
  RunTwins w p w₂ p₂ [] = Unit
  RunTwins w p w₂ p₂ (called x a os v a₂ os₂ v₂ ∷ ts) =
      Legal x
      × Step V join w (shows p) (one x) a os v (replay os (shows p))
      × Step V join w₂ (shows p₂) (two x) a₂ os₂ v₂ (replay os₂ (shows p₂))
      × RunTwins v (calls os p) v₂ (calls os₂ p₂) ts
  RunTwins w p w₂ p₂ (failed x os os₂ i d K K₂ ∷ ts) =
      Legal x
      × Steps w p (one x) os
      × Steps w₂ p₂ (two x) os₂
      × TwinChoices K K₂ p p₂
      × RunTwins down (anew (cut_bottoms K (moment os i d p))) down (anew (cut_bottoms K₂ (moment os₂ i d p₂))) ts
  RunTwins w p w₂ p₂ (cut K K₂ ∷ ts) =
      TwinChoices K K₂ p p₂ × RunTwins down (anew (cut_bottoms K p)) down (anew (cut_bottoms K₂ p₂)) ts

-- as what an event shows at the top
abbrev pub SeenTwin : {V : Type 0} → TwinBelow V → Twin V → Type 0
SeenTwin (called x a os v a₂ os₂ v₂) (did x' a' os' v' m a₂' os₂' v₂' m₂) =
    (x' ≡ x) × (a' ≡ a) × (os' ≡ os) × (v' ≡ v) × (a₂' ≡ a₂) × (os₂' ≡ os₂) × (v₂' ≡ v₂)
SeenTwin (failed x os os₂ i d K K₂) (broke x' os' os₂' j κ κ₂) = (x' ≡ x) × (os' ≡ os) × (os₂' ≡ os₂) × ((j ≡ i) ⊎ (j ≡ suc i))
SeenTwin (cut K K₂) (lost κ κ₂) = Unit
SeenTwin e f = ⊥

abbrev pub AllSeenTwins : {V : Type 0} → List (TwinBelow V) → List (Twin V) → Type 0
AllSeenTwins [] [] = Unit
AllSeenTwins (e ∷ es) (f ∷ fs) = SeenTwin e f × AllSeenTwins es fs
AllSeenTwins es fs = ⊥

-- two histories on one formatted pile that shows m: they agree in all but what touched clones show
abbrev pub AgreeOn : (V : Type 0) → Pile → Meaning → Type 0
AgreeOn V p m =
    (join : ℕ → Map → V) (ts : List (TwinBelow V)) → Formatted m → RunTwins V join (mounted bare) p (mounted bare) p ts
    → (us : List (Twin V)) × AllSeenTwins ts us × Agree V clear m m us

abbrev pub TwoPilesAgree : (V : Type 0) → Type 0
TwoPilesAgree V = (p : Pile) → Built p → AgreeOn V p (shows p)
