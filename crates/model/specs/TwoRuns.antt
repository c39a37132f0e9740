-- Two runs with the same cuts, alike but for angles that are put, and which clones an angle may have touched.
use Rattle.std.specs.Prelude.{◌≡◌, ℕ, suc, ◌<◌, Bool, false, not, ◌||◌, ◌⊎◌, List, [], ◌∷◌, map, take, replicate, ℤ, pos, negsuc, Some, None, Ok, Option, ◌==◌, slice_index_or, slice_set}
use Rattle.device.specs.Meaning.{Meaning}
use Rattle.device.specs.Cuts.{Op, Cutting, keeps_persisted, cut, replay}
use Rattle.page.specs.Slot.{Table}
use Rattle.table.specs.Rows.{off_angle}
use Rattle.model.specs.declared.refusal.Refusal.{Refusal}
use Rattle.model.specs.Plain.{Map, Ask, Call, Answer}
use Rattle.model.specs.Plain.{Ask.create, Ask.clone, Ask.delete, Ask.put, Ask.remove, Ask.get, Ask.at, Ask.rows, Ask.summary, Ask.seal, Call.ask, Call.finish, Call.reopen, Call.mount}
use Rattle.model.specs.Plain.{Answer.done, Answer.angle, Answer.listed, Answer.joined, Answer.refused}
use Rattle.model.specs.TreeBlocks.{Each}
use Rattle.model.specs.World.{Mode, Mode.mounted, Event, Run, Formatted, found, bare}

-- one call of both runs: the same, or a put with an angle for each
pub data Both : Type 0 where
  alike : Call → Both
  puts : ℕ → ℕ → ℤ → ℤ → Both

abbrev pub one : Both → Call
one (alike c) = c
one (puts n s a b) = ask (put n s a)

abbrev pub two : Both → Call
two (alike c) = c
two (puts n s a b) = ask (put n s b)

abbrev pub Legal : Both → Type 0
Legal (alike c) = Unit
Legal (puts n s a b) = (off_angle a ≡ false) × (off_angle b ≡ false)

-- One cut in both runs: of each of the two slots both keep the old content or neither does, and the writes left are the same.
-- Of all other blocks the cuts may differ.
pub record SameCut (κ κ₂ : Cutting) : Type 0 where
  pub slots : (b : ℕ) → b < 2 → keeps_persisted (κ.choice b) ≡ keeps_persisted (κ₂.choice b)
  pub left : κ.left ≡ κ₂.left
  pub left_mark : κ.left_mark ≡ κ₂.left_mark

-- an event of both runs: the same moment, and a cut for each
pub data Twin (V : Type 0) : Type 0 where
  did : Both → Answer V → List Op → Mode → Meaning → Answer V → List Op → Mode → Meaning → Twin V
  broke : Both → List Op → List Op → ℕ → Cutting → Cutting → Twin V
  lost : Cutting → Cutting → Twin V

abbrev pub first : {V : Type 0} → Twin V → Event V
first (did x a os w m a₂ os₂ w₂ m₂) = Event.did (one x) a os w m
first (broke x os os₂ k κ κ₂) = Event.broke (one x) os k κ
first (lost κ κ₂) = Event.lost κ

abbrev pub second : {V : Type 0} → Twin V → Event V
second (did x a os w m a₂ os₂ w₂ m₂) = Event.did (two x) a₂ os₂ w₂ m₂
second (broke x os os₂ k κ κ₂) = Event.broke (two x) os₂ k κ₂
second (lost κ κ₂) = Event.lost κ₂

abbrev pub legal : {V : Type 0} → Twin V → Type 0
legal (did x a os w m a₂ os₂ w₂ m₂) = Legal x
legal (broke x os os₂ k κ κ₂) = Legal x × SameCut κ κ₂
legal (lost κ κ₂) = SameCut κ κ₂

-- touched marks, with the generation of the committed ones
pub record Marks : Type 0 where
  pub working : List Bool
  pub committed : List Bool
  pub generation : ℕ

abbrev pub clear : Marks
clear = record { working = replicate 24 false; committed = replicate 24 false; generation = 1 }

abbrev pub working≔ : Marks → List Bool → Marks
working≔ μ x = record { working = x; committed = μ.committed; generation = μ.generation }

abbrev pub finished_marks : Marks → Marks
finished_marks μ = record { working = μ.working; committed = μ.working; generation = suc μ.generation }

abbrev pub touched : Marks → ℕ → Bool
touched μ n = slice_index_or μ.working n false

abbrev pub same_angle : ℤ → ℤ → Bool
same_angle (pos a) (pos b) = a == b
same_angle (negsuc a) (negsuc b) = a == b
same_angle (pos a) (negsuc b) = false
same_angle (negsuc a) (pos b) = false

-- an accepted call
abbrev pub mark_ask : Marks → Ask → Marks
mark_ask μ (create n) = working≔ μ (slice_set μ.working n false)
mark_ask μ (clone f n) = working≔ μ (slice_set μ.working n (touched μ f))
mark_ask μ (delete n) = working≔ μ (slice_set μ.working n false)
mark_ask μ (put n s a) = μ
mark_ask μ (remove n s) = μ
mark_ask μ (get n s) = μ
mark_ask μ (at n s) = μ
mark_ask μ (rows n s k) = μ
mark_ask μ (summary k n) = μ
mark_ask μ seal = μ

abbrev pub marked : Marks → Both → Marks
marked μ (alike (ask q)) = mark_ask μ q
marked μ (alike finish) = finished_marks μ
marked μ (alike reopen) = μ
marked μ (alike mount) = working≔ μ μ.committed
marked μ (puts n s a b) = working≔ μ (slice_set μ.working n (not (same_angle a b) || touched μ n))

-- a refused call changes nothing
abbrev pub unless : {V : Type 0} → Answer V → Marks → Marks → Marks
unless done μ μ' = μ'
unless (angle o) μ μ' = μ'
unless (listed rs) μ μ' = μ'
unless (joined v) μ μ' = μ'
unless (refused r) μ μ' = μ

abbrev pub refusal_in : {V : Type 0} → Answer V → Option Refusal
refusal_in done = None
refusal_in (angle o) = None
refusal_in (listed rs) = None
refusal_in (joined v) = None
refusal_in (refused r) = Some r

-- the call shows no touched clone
abbrev pub Unseen : Marks → Both → Type 0
Unseen μ (alike (ask (create n))) = Unit
Unseen μ (alike (ask (clone f n))) = Unit
Unseen μ (alike (ask (delete n))) = Unit
Unseen μ (alike (ask (put n s a))) = Unit
Unseen μ (alike (ask (remove n s))) = touched μ n ≡ false
Unseen μ (alike (ask (get n s))) = touched μ n ≡ false
Unseen μ (alike (ask (at n s))) = touched μ n ≡ false
Unseen μ (alike (ask (rows n s k))) = touched μ n ≡ false
Unseen μ (alike (ask (summary k n))) = touched μ n ≡ false
Unseen μ (alike (ask seal)) = Unit
Unseen μ (alike finish) = Unit
Unseen μ (alike reopen) = Unit
Unseen μ (alike mount) = Unit
Unseen μ (puts n s a b) = Unit

-- what a cut inside a call leaves of the marks
abbrev pub Remain : Both → Marks → Marks → Type 0
Remain (alike finish) μ μ' = (μ' ≡ μ) ⊎ (μ' ≡ finished_marks μ)
Remain (alike (ask q)) μ μ' = μ' ≡ μ
Remain (alike reopen) μ μ' = μ' ≡ μ
Remain (alike mount) μ μ' = μ' ≡ μ
Remain (puts n s a b) μ μ' = μ' ≡ μ

module _ (V : Type 0) where
  -- the next mount finds this generation
  abbrev pub Finds : Meaning → ℕ → Type 0
  Finds m g = (t : Table) × (found m ≡ Ok (g, t))

  -- both runs refuse alike, and answer alike of what shows no touched clone; after a cut inside a call both find one generation
  abbrev pub Agree : Marks → Meaning → Meaning → List (Twin V) → Type 0
  Agree μ m m₂ [] = Unit
  Agree μ m m₂ (did x a os w m' a₂ os₂ w₂ m₂' ∷ ts) = (refusal_in a ≡ refusal_in a₂) × (Unseen μ x → a ≡ a₂) × Agree (unless a μ (marked μ x)) m' m₂' ts
  Agree μ m m₂ (broke x os os₂ k κ κ₂ ∷ ts) =
      let n = cut κ (replay (take k os) m) in
      let n₂ = cut κ₂ (replay (take k os₂) m₂) in
      (μ' : Marks) × Remain x μ μ' × Finds n μ'.generation × Finds n₂ μ'.generation × Agree μ' n n₂ ts
  Agree μ m m₂ (lost κ κ₂ ∷ ts) = Agree μ (cut κ m) (cut κ₂ m₂) ts

abbrev pub TwoRuns : (V : Type 0) → Type 0
TwoRuns V =
    (join : ℕ → Map → V) (m : Meaning) (ts : List (Twin V))
    → Formatted m → Each legal ts
    → Run V join (mounted bare) m (map first ts) → Run V join (mounted bare) m (map second ts)
    → Agree V clear m m ts
