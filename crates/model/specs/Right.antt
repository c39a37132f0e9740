-- The law of histories: every answer is that of the plain tables; and two runs that differ in angles.
use Rattle.std.specs.Prelude.{◌≡◌, ℕ, zero, suc, ◌⊎◌, List, [], ◌∷◌, ◌++◌, take, Some, None, Ok, Option}
use Rattle.device.specs.Meaning.{Meaning, current_at}
use Rattle.device.specs.Cuts.{Op, Op.flush, cut, replay}
use Rattle.page.specs.Slot.{Table}
use Rattle.model.specs.declared.refusal.Refusal.{Refusal}
use Rattle.model.specs.Plain.{Map, Ask, Call, Plain, Call.ask, Call.finish, Call.reopen, Call.mount, Ask.create, Ask.clone, Ask.delete, Ask.put, Ask.remove, Ask.get, Ask.at, Ask.rows, Ask.summary, Ask.seal, start, next, reply, finished}
use Rattle.model.specs.TreeBlocks.{Each}
use Rattle.model.specs.Model.{maps_of, late, refusal, free}
use Rattle.model.specs.World.{Tables, Mode, Mode.mounted, Mode.sealed, Mode.down, Event, Event.did, Event.broke, Event.lost, Run, Formatted, found, bare, trees, shape, FreeWrite, finishing}
use Rattle.model.specs.TwoRuns.{TwoRuns}

-- what a cut inside a call may leave of the tables: the old, or after the write of a finish the new
abbrev pub Outcome : Call → ℕ → Plain → Plain → Type 0
Outcome (ask q) k p p' = p' ≡ p
Outcome finish zero p p' = p' ≡ p
Outcome finish (suc k) p p' = (p' ≡ p) ⊎ (p' ≡ finished p)
Outcome reopen k p p' = p' ≡ p
Outcome mount k p p' = p' ≡ p

-- the refusal from 10 up that is due
abbrev pub fed : Mode → Meaning → Call → Option Refusal
fed (mounted t) m (ask q) = late (shape t m) q
fed (mounted t) m finish = None
fed (mounted t) m reopen = None
fed (mounted t) m mount = None
fed (sealed t) m c = None
fed down m c = None

abbrev pub plain_of : Tables → Meaning → Plain
plain_of t m = record { working = maps_of (trees (current_at m) t.working); committed = maps_of (trees (current_at m) t.committed); generation = t.generation }

-- the plain tables are those of the volume, or those that the next mount finds
abbrev pub Shows : Plain → Mode → Meaning → Type 0
Shows p (mounted t) m = plain_of t m ≡ p
Shows p (sealed t) m = plain_of t m ≡ p
Shows p down m = (x : ℕ × Table) × (found m ≡ Ok x) × (maps_of (trees (current_at m) x.1) ≡ p.committed) × (x.0 ≡ p.generation)

-- The device calls of an accepted question: writes to tree blocks that no working or committed clone reaches, and of seal a flush.
-- None where it only reads, links or lets go.
abbrev pub Makes : Tables → Meaning → Ask → List Op → Type 0
Makes t m (create n) os = Each (FreeWrite t m) os
Makes t m (put n s a) os = Each (FreeWrite t m) os
Makes t m (remove n s) os = Each (FreeWrite t m) os
Makes t m seal os = os ≡ flush ∷ []
Makes t m (clone f n) os = os ≡ []
Makes t m (delete n) os = os ≡ []
Makes t m (get n s) os = os ≡ []
Makes t m (at n s) os = os ≡ []
Makes t m (rows n s k) os = os ≡ []
Makes t m (summary k n) os = os ≡ []

-- the device calls of a call: none where it is refused
abbrev pub Takes : Mode → Meaning → Call → List Op → Type 0
Takes (mounted t) m (ask q) os = elim (refusal (shape t m) q) [ Some r ↦ os ≡ [] | None ↦ Makes t m q os ]
Takes (mounted t) m finish os = ⊥
Takes (mounted t) m reopen os = ⊥
Takes (mounted t) m mount os = os ≡ []
Takes (sealed t) m (ask q) os = ⊥
Takes (sealed t) m finish os = os ≡ finishing t m.width
Takes (sealed t) m reopen os = os ≡ []
Takes (sealed t) m mount os = ⊥
Takes down m (ask q) os = ⊥
Takes down m finish os = ⊥
Takes down m reopen os = ⊥
Takes down m mount os = os ≡ []

abbrev pub free_in : Mode → Meaning → List ℕ
free_in (mounted t) m = free (shape t m)
free_in (sealed t) m = free (shape t m)
free_in down m = []

-- a clone call takes no block and gives none back
abbrev pub Shares : Mode → Meaning → Call → Mode → Meaning → Type 0
Shares w m c w' m' = (f n : ℕ) → c ≡ ask (clone f n) → free_in w' m' ≡ free_in w m

module _ (V : Type 0) (join : ℕ → Map → V) where
  -- every answer of the history is that of the plain tables
  abbrev pub Right : Plain → Mode → Meaning → List (Event V) → Type 0
  Right p w m [] = Shows p w m
  Right p w m (did c a os w' m' ∷ es) =
      Shows p w m × Takes w m c os × Shares w m c w' m' × (a ≡ reply V join p c (fed w m c)) × Right (next p c (fed w m c)) w' m' es
  Right p w m (broke c os k κ ∷ es) =
      Shows p w m × Takes w m c os × ((p' : Plain) × Outcome c k p p' × Right p' down (cut κ (replay (take k os) m)) es)
  Right p w m (lost κ ∷ es) = Shows p w m × Right p down (cut κ m) es

-- where a history ends
abbrev pub Ends : {V : Type 0} → Mode → Meaning → List (Event V) → Mode → Meaning → Type 0
Ends w m [] w' m' = (w ≡ w') × (m ≡ m')
Ends w m (did c a os v n ∷ es) w' m' = Ends v n es w' m'
Ends w m (broke c os k κ ∷ es) w' m' = Ends down (cut κ (replay (take k os) m)) es w' m'
Ends w m (lost κ ∷ es) w' m' = Ends down (cut κ m) es w' m'

-- the law, of every history that ends in (w, m) and of this call after it
abbrev pub Onward : (V : Type 0) (join : ℕ → Map → V) → Mode → Meaning → Event V → Type 0
Onward V join w m e =
    (d : Meaning) (es : List (Event V)) → Formatted d → Run V join (mounted bare) d es → Ends (mounted bare) d es w m
    → Right V join start (mounted bare) d (es ++ e ∷ [])

abbrev pub OneRun : (V : Type 0) → Type 0
OneRun V =
    (join : ℕ → Map → V) (m : Meaning) (es : List (Event V))
    → Formatted m → Run V join (mounted bare) m es → Right V join start (mounted bare) m es

-- the whole law
abbrev pub Histories : (V : Type 0) → Type 0
Histories V = OneRun V × TwoRuns V
