-- Histories of a volume on a pile, of which the bottoms are cut, and the law of histories over them.
use Rattle.std.specs.Prelude.{◌≡◌, ℕ, zero, suc, ◌⊎◌, Bool, List, [], ◌∷◌}
use Rattle.device.specs.Meaning.{Meaning}
use Rattle.device.specs.Cuts.{Op, replay}
use Rattle.model.specs.Plain.{Map, Call, Answer, start}
use Rattle.model.specs.World.{Mode, Mode.mounted, Mode.down, Event, Event.did, Event.broke, Event.lost, Step, Run, Formatted, bare}
use Rattle.model.specs.Right.{Right}
use Rattle.piles.specs.Piles.{Pile, shows, Built, PerBottom, part, whole, calls, Cuts, anew}

-- some calls when i of them are done, and these bottoms have done their part of the next
abbrev pub moment : List Op → ℕ → PerBottom Bool → Pile → Pile
moment [] i d p = p
moment (o ∷ os) zero d p = part o d p
moment (o ∷ os) (suc i) d p = moment os i d (whole o p)

-- what happens to a volume on a pile
pub data Below (V : Type 0) : Type 0 where
  -- a call, its answer, its device calls and the mode it left
  called : Call → Answer V → List Op → Mode → Below V
  -- a call of these device calls; so many were done, and these bottoms had done their part of the next, when the power failed, and left of the bottoms this
  failed : Call → List Op → ℕ → PerBottom Bool → Pile → Below V
  -- the power failed between two calls
  cut : Pile → Below V

module _ (V : Type 0) (join : ℕ → Map → V) where
  -- a history on a pile: after each cut the layers are built anew over what it left of the bottoms
  abbrev pub RunBelow : Mode → Pile → List (Below V) → Type 0
  RunBelow w p [] = Unit
  RunBelow w p (called c a os w' ∷ es) = Step V join w (shows p) c a os w' (replay os (shows p)) × RunBelow w' (calls os p) es
  RunBelow w p (failed c os i d q ∷ es) =
      ((a : Answer V) × (w' : Mode) × (m' : Meaning) × Step V join w (shows p) c a os w' m') × Cuts (moment os i d p) q × RunBelow down (anew q) es
  RunBelow w p (cut q ∷ es) = Cuts p q × RunBelow down (anew q) es

-- the event of a volume on a device, as which an event on a pile shows: a cut inside a device call is one before it or after it
abbrev pub Seen : {V : Type 0} → Below V → Event V → Type 0
Seen (called c a os w) (did c' a' os' w' m) = (c' ≡ c) × (a' ≡ a) × (os' ≡ os) × (w' ≡ w)
Seen (failed c os i d q) (broke c' os' j κ) = (c' ≡ c) × (os' ≡ os) × ((j ≡ i) ⊎ (j ≡ suc i))
Seen (cut q) (lost κ) = Unit
Seen e f = ⊥

abbrev pub AllSeen : {V : Type 0} → List (Below V) → List (Event V) → Type 0
AllSeen [] [] = Unit
AllSeen (e ∷ es) (f ∷ fs) = Seen e f × AllSeen es fs
AllSeen es fs = ⊥

-- every history on a formatted pile that shows m is one of the device m, so the law of histories holds of it
abbrev pub LawOn : (V : Type 0) → Pile → Meaning → Type 0
LawOn V p m =
    (join : ℕ → Map → V) (es : List (Below V)) → Formatted m → RunBelow V join (mounted bare) p es
    → (fs : List (Event V)) × AllSeen es fs × Run V join (mounted bare) m fs × Right V join start (mounted bare) m fs

abbrev pub PilesKeepTheLaw : (V : Type 0) → Type 0
PilesKeepTheLaw V = (p : Pile) → Built p → LawOn V p (shows p)

-- A call that is a step, and whose device calls led a device to a state, is an event of the history of the pile that the device is.
abbrev pub CallsAreEvents : {D : Type 0} (V : Type 0) → (List Op → D → D → Type 0) → (D → Pile) → (D → Meaning) → Type 0
CallsAreEvents {D} V led pile meaning =
    (join : ℕ → Map → V) (x y : D) (w w' : Mode) (c : Call) (a : Answer V) (os : List Op) (es : List (Below V))
    → led os x y → Step V join w (meaning x) c a os w' (meaning y)
    → RunBelow V join w' (pile y) es → RunBelow V join w (pile x) (called c a os w' ∷ es)
