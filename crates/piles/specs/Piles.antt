-- Piles of layers over bottom devices, as data: what they show, the bottom calls of a call, and cuts of the power.
use Rattle.std.specs.Prelude.{◌≡◌, ℕ, ◌<◌, ◌≤◌, Bool, true, false, cond, ◌&&◌, ◌||◌, ◌⊎◌, List, ◌∷◌, []}
use Rattle.device.specs.Meaning.{Meaning, Lawful, Words, Cut, blocks_of, shown_of, flushed}
use Rattle.device.specs.Cuts.{Op, Op.write, Op.flush, apply}
use Rattle.check_layer.specs.Checked.{checked, below_op, Allowed as Wide}
use Rattle.quota.specs.Limited.{limited, Allowed as Within}
use Rattle.mirror.specs.Mirrored.{mirrored, Alike}

-- Layers over bottom devices; of each bottom what it means.
pub data Pile : Type 0 where
  bottom : Meaning → Pile
  check : Pile → Pile
  quota : ℕ → Pile → Pile
  mirror : Pile → Pile → Pile

-- what it shows
abbrev pub shows : Pile → Meaning
shows (bottom m) = m
shows (check p) = checked (shows p)
shows (quota n p) = limited n (shows p)
shows (mirror p q) = mirrored (shows p) (shows q)

-- It is well built: each layer stands over what it is built over, and the sides of each mirror are alike.
abbrev pub Built : Pile → Type 0
Built (bottom m) = Lawful m
Built (check p) = Built p × Wide (shown_of (shows p))
Built (quota n p) = Built p × Within n (shown_of (shows p))
Built (mirror p q) = Built p × Built q × Alike (shows p) (shows q)

-- Something of each bottom. A bottom is named by the sides of mirrors that lead to it from the top: false for a first side, true
-- for a second.
abbrev pub PerBottom : Type 0 → Type 0
PerBottom X = List Bool → X

-- of the bottoms of one side
abbrev pub on : {X : Type 0} → Bool → PerBottom X → PerBottom X
on side f s = f (side ∷ s)

-- the call, where it is done
abbrev pub if_done : Bool → Op → Meaning → Meaning
if_done d o m = cond d (apply o m) m

-- A moment of a call: these bottoms have done their part of it and the others have not, whatever the order is in which it reaches them.
abbrev pub part : Op → PerBottom Bool → Pile → Pile
part o d (bottom m) = bottom (if_done (d []) o m)
part o d (check p) = check (part (below_op o) d p)
part o d (quota n p) = quota n (part o d p)
part o d (mirror p q) = mirror (part o (on false d) p) (part o (on true d) q)

-- all have
abbrev pub whole : Op → Pile → Pile
whole o p = part o (λ s. true) p

-- some calls, one after another
abbrev pub calls : List Op → Pile → Pile
calls [] p = p
calls (o ∷ os) p = calls os (whole o p)

-- a device of this meaning does not refuse the call
abbrev pub Accepts : Meaning → Op → Type 0
Accepts m (write b ws) = (b < blocks_of m) × Words m.width ws × (1 ≤ m.left)
Accepts m flush = Unit

-- A pile is a device: lawful, and each call changes what it shows as it changes a device and keeps it well built.
abbrev pub PilesAreDevices : Type 0
PilesAreDevices =
    (p : Pile) → Built p
    → Lawful (shows p) × ((o : Op) → Accepts (shows p) o → (shows (whole o p) ≡ apply o (shows p)) × Built (whole o p))

-- two piles of the same layers, with R between what their bottoms mean
abbrev pub Over : (Meaning → Meaning → Type 0) → Pile → Pile → Type 0
Over R (bottom m) (bottom n) = R m n
Over R (check p) (check q) = Over R p q
Over R (quota n p) (quota k q) = (n ≡ k) × Over R p q
Over R (mirror p q) (mirror r s) = Over R p r × Over R q s
Over R p q = ⊥

-- the power fails: each bottom is cut
abbrev pub Cuts : Pile → Pile → Type 0
Cuts p q = Over Cut p q

-- the layers built anew: each flushes what is below
abbrev pub anew : Pile → Pile
anew (bottom m) = bottom m
anew (check p) = check (whole flush (anew p))
anew (quota n p) = quota n (whole flush (anew p))
anew (mirror p q) = mirror (whole flush (anew p)) (whole flush (anew q))

-- Does the call count as done when the power fails at this moment? A write as soon as one bottom has done its part, a flush once all have.
abbrev pub of_sides : Op → Bool → Bool → Bool
of_sides (write b ws) x y = x || y
of_sides flush x y = x && y

abbrev pub counts : Op → PerBottom Bool → Pile → Bool
counts o d (bottom m) = d []
counts o d (check p) = counts o d p
counts o d (quota n p) = counts o d p
counts o d (mirror p q) = of_sides o (counts o (on false d) p) (counts o (on true d) q)

-- what a cut at this moment is a cut of
abbrev pub counted : Op → PerBottom Bool → Pile → Meaning
counted o d p = if_done (counts o d p) o (shows p)

-- while the layers are built anew, a bottom was flushed or not yet
abbrev pub Again : Meaning → Meaning → Type 0
Again m n = Cut m n ⊎ Cut (flushed m) n

-- The power fails at any moment of a call, and once more while the layers are built anew, any number of times.
abbrev pub CutsRise : Type 0
CutsRise =
    ((p q : Pile) (o : Op) (d : PerBottom Bool) → Built p → Accepts (shows p) o → Cuts (part o d p) q
    → Built (anew q) × Cut (counted o d p) (shows (anew q)))
    × ((p q r : Pile) → Cuts p q → Over Again q r → Cuts p r)
