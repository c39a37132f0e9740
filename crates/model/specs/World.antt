-- The volume on its device, what each call does, histories of calls and cuts, and the law of histories.
use Rattle.std.specs.Prelude.{◌≡◌, ℕ, suc, ◌%◌, ◌<◌, ◌≤◌, Bool, true, cond, ◌&&◌, T, List, [], ◌∷◌, take, Some, None, Ok, Err, Option, Result, ◌==◌, nat_le, slice_set}
use Rattle.device.specs.Meaning.{Content, Content.words, Content.damaged, Meaning, Words, blocks_of, current_at, cell_at}
use Rattle.device.specs.Cuts.{Op, Op.write, Op.flush, Cutting, replay, cut}
use Rattle.page.specs.Slot.{Table, slot_words, slot_read}
use Rattle.counts.specs.Counts.{occ}
use Rattle.model.specs.declared.refusal.Refusal.{Refusal}
use Rattle.model.specs.declared.refusal.Refusal.TheVariants.{NoVolume, Shape, Damaged, Malformed}
use Rattle.model.specs.Plain.{Map, Ask, Call, Answer, place, answer, blank}
use Rattle.model.specs.Plain.{Ask.create, Ask.clone, Ask.delete, Ask.put, Ask.remove, Ask.get, Ask.at, Ask.rows, Ask.summary, Ask.seal, Call.ask, Call.finish, Call.reopen, Call.mount}
use Rattle.model.specs.Plain.{Answer.done, Answer.refused}
use Rattle.table.specs.Rows.{payload_of}
use Rattle.model.specs.TreeBlocks.{Change, Change.begin, Change.puts, Change.takes, elem, tree_at, Stored, root_of, Each, new_blocks}
use Rattle.model.specs.Walk.{Fault, Fault.Damage, Fault.Malform, walk}
use Rattle.model.specs.Model.{Trees, Model, Shapes, shape_of, maps_of, refusal, free, used, holds, source, new_tree}
use Rattle.model.specs.Ideal.{next, reply, broken, cut_model}

pub record Tables : Type 0 where
  pub working : Table
  pub committed : Table
  pub generation : ℕ

pub data Mode : Type 0 where
  mounted : Tables → Mode
  sealed : Tables → Mode
  down : Mode

abbrev pub placed : Tables → Table → Tables
placed t x = record { working = x; committed = t.committed; generation = t.generation }

abbrev pub finished_tables : Tables → Tables
finished_tables t = record { working = t.working; committed = t.working; generation = suc t.generation }

-- the device calls of finish, at width w: the slot of the next generation, and a flush
abbrev pub finishing : Tables → ℕ → List Op
finishing t w = write (suc t.generation % 2) (slot_words w (suc t.generation) t.working) ∷ flush ∷ []

abbrev pub bare : Tables
bare = record { working = blank; committed = blank; generation = 1 }

abbrev pub Quiet : Mode → List Op → Mode → Type 0
Quiet w os w' = (os ≡ []) × (w' ≡ w)

abbrev pub fresh : ℕ × Table → Tables
fresh x = record { working = x.1; committed = x.1; generation = x.0 }

-- the higher of two slots one apart
abbrev pub latest : Option (ℕ × Table) → Option (ℕ × Table) → Option (ℕ × Table)
latest None y = None
latest (Some x) None = None
latest (Some x) (Some y) = cond (suc x.0 == y.0) (Some y) (cond (suc y.0 == x.0) (Some x) None)

-- the refusal that a fault is, of this clone
abbrev pub faulty : ℕ × Fault → Refusal
faulty (k, Damage b m) = Damaged b k m
faulty (k, Malform b) = Malformed b k

abbrev pub walked : (Table → Option (ℕ × Fault)) → Option (ℕ × Table) → Result (ℕ × Table) Refusal
walked f None = Err NoVolume
walked f (Some x) = elim (f x.1) [ Some r ↦ Err (faulty r) | None ↦ Ok x ]

pub data Event (V : Type 0) : Type 0 where
  -- a call, its answer, its device calls, and what it left
  did : Call → Answer V → List Op → Mode → Meaning → Event V
  -- a call of these device calls, cut after so many of them, and what the cut left
  broke : Call → List Op → ℕ → Cutting → Event V
  -- a cut between two calls
  lost : Cutting → Event V

abbrev pub trees : (ℕ → Content) → Table → Trees
trees c [] = []
trees c (None ∷ t) = None ∷ trees c t
trees c (Some r ∷ t) = Some (r, tree_at c r) ∷ trees c t

-- the volume by its trees
abbrev pub model_of : Tables → Meaning → Model
model_of t m = record {
  working = trees (current_at m) t.working;
  committed = trees (current_at m) t.committed;
  generation = t.generation;
  blocks = blocks_of m;
  left = m.left;
  layer = m.left_mark;
}

abbrev pub shape : Tables → Meaning → Shapes
shape t m = shape_of (model_of t m)

-- a block's words, to a tree block that no working or committed clone reaches
abbrev pub FreeWrite : Tables → Meaning → Op → Type 0
FreeWrite t m (write b ws) = (2 ≤ b) × (b < blocks_of m) × (T (elem b (used (shape t m))) → ⊥) × Words m.width ws
FreeWrite t m flush = ⊥

-- the blocks written
abbrev pub targets : List Op → List ℕ
targets [] = []
targets (write b ws ∷ os) = b ∷ targets os
targets (flush ∷ os) = targets os

-- clone n has the new tree, which stands on the device; only its new blocks are written, each once, and they were free
abbrev pub Changed : Tables → Meaning → ℕ → Change ℕ → List Op → Mode → Meaning → Type 0
Changed t m n d os w' m' =
    Each (FreeWrite t m) os
    × ((b : ℕ) → occ b (targets os) ≡ occ b (new_blocks d (free (shape t m)) (source (model_of t m) n d)))
    × (w' ≡ mounted (placed t (slice_set t.working n (Some (root_of (new_tree (model_of t m) n d))))))
    × Stored (current_at m') (new_tree (model_of t m) n d)

-- an accepted call
abbrev pub Effect : Tables → Meaning → Ask → List Op → Mode → Meaning → Type 0
Effect t m (create n) os w' m' = Changed t m n begin os w' m'
Effect t m (clone f n) os w' m' = Quiet (mounted (placed t (slice_set t.working n (place t.working f)))) os w'
Effect t m (delete n) os w' m' = Quiet (mounted (placed t (slice_set t.working n None))) os w'
Effect t m (put n s a) os w' m' = Changed t m n (puts s (payload_of a)) os w' m'
Effect t m (remove n s) os w' m' = cond (holds (shape t m) n s) (Changed t m n (takes s) os w' m') (Quiet (mounted t) os w')
Effect t m (get n s) os w' m' = Quiet (mounted t) os w'
Effect t m (at n s) os w' m' = Quiet (mounted t) os w'
Effect t m (rows n s k) os w' m' = Quiet (mounted t) os w'
Effect t m (summary k n) os w' m' = Quiet (mounted t) os w'
Effect t m seal os w' m' = (os ≡ flush ∷ []) × (w' ≡ sealed t)

-- a question to a mounted volume: refused as is due, and then nothing changes, or accepted with its answer and its effect
abbrev pub Asked : {A : Type 0} → (Refusal → A) → A → Tables → Meaning → Ask → A → List Op → Mode → Meaning → Type 0
Asked denied granted t m q a os w' m' = elim (refusal (shape t m) q) [ Some r ↦ (a ≡ denied r) × Quiet (mounted t) os w' | None ↦ (a ≡ granted) × Effect t m q os w' m' ]

-- the slot in block b
abbrev pub slot_in : ℕ → ℕ → Content → Option (ℕ × Table)
slot_in n b (words ws) = slot_read n b ws
slot_in n b (damaged k) = None

-- a volume fits on a device of n blocks of w words
abbrev pub sizes : ℕ → ℕ → Bool
sizes n w = (nat_le 16 n && nat_le n 4096) && (nat_le 32 w && nat_le w 40)

abbrev pub Fits : Meaning → Type 0
Fits m = sizes (blocks_of m) m.width ≡ true

-- the slot that a device is used by, if its two slots make one
abbrev pub current_slot : Meaning → Option (ℕ × Table)
current_slot m = latest (slot_in (blocks_of m) 0 (current_at m 0)) (slot_in (blocks_of m) 1 (current_at m 1))

-- what mount finds on a device
abbrev pub found : Meaning → Result (ℕ × Table) Refusal
found m = cond (sizes (blocks_of m) m.width) (walked (walk (blocks_of m) (current_at m) 0) (current_slot m)) (Err Shape)

-- a device as a finished format leaves it
abbrev pub Formatted : Meaning → Type 0
Formatted m =
    Fits m
    × ((b : ℕ) → (cell_at m b).mark ≡ 0)
    × ((b : ℕ) → (cell_at m b).persisted ≡ (cell_at m b).current)
    × (current_at m 0 ≡ words (slot_words m.width 0 blank))
    × (current_at m 1 ≡ words (slot_words m.width 1 blank))

module _ (V : Type 0) (join : ℕ → Map → V) where
  abbrev pub Mounts : Meaning → Answer V → List Op → Mode → Type 0
  Mounts m a os w' =
      (os ≡ []) × elim (found m) [ Ok x ↦ (a ≡ done) × (w' ≡ mounted (fresh x)) | Err r ↦ (a ≡ refused r) × (w' ≡ down) ]

  abbrev pub Does : Mode → Meaning → Call → Answer V → List Op → Mode → Meaning → Type 0
  Does (mounted t) m (ask q) a os w' m' = Asked refused (answer V join (maps_of (model_of t m).working) q) t m q a os w' m'
  Does (mounted t) m finish a os w' m' = ⊥
  Does (mounted t) m reopen a os w' m' = ⊥
  Does (mounted t) m mount a os w' m' = Mounts m a os w'
  Does (sealed t) m (ask q) a os w' m' = ⊥
  Does (sealed t) m finish a os w' m' =
      (a ≡ done) × (os ≡ finishing t m.width) × (w' ≡ mounted (finished_tables t))
  Does (sealed t) m reopen a os w' m' = (a ≡ done) × Quiet (mounted t) os w'
  Does (sealed t) m mount a os w' m' = ⊥
  Does down m (ask q) a os w' m' = ⊥
  Does down m finish a os w' m' = ⊥
  Does down m reopen a os w' m' = ⊥
  Does down m mount a os w' m' = Mounts m a os w'

  -- one call: what it answers, its device calls, and what it leaves
  abbrev pub Step : Mode → Meaning → Call → Answer V → List Op → Mode → Meaning → Type 0
  Step w m c a os w' m' = (m' ≡ replay os m) × Does w m c a os w' m'

  -- a history: each call gets what the last call or cut left
  abbrev pub Run : Mode → Meaning → List (Event V) → Type 0
  Run w m [] = Unit
  Run w m (did c a os w' m' ∷ es) = Step w m c a os w' m' × Run w' m' es
  Run w m (broke c os k κ ∷ es) =
      ((a : Answer V) × (w' : Mode) × (m' : Meaning) × Step w m c a os w' m') × Run down (cut κ (replay (take k os) m)) es
  Run w m (lost κ ∷ es) = Run down (cut κ m) es

  -- every answer of the history is that of the trees, which follow from the calls and the cuts alone
  abbrev pub Traced : Model → List (Event V) → Type 0
  Traced M [] = Unit
  Traced M (did c a os w' m' ∷ es) = (a ≡ reply V join M c) × Traced (next M c) es
  Traced M (broke c os k κ ∷ es) = Traced (cut_model κ (broken M c k κ)) es
  Traced M (lost κ ∷ es) = Traced (cut_model κ M) es

abbrev pub Refines : (V : Type 0) → Type 0
Refines V =
    (join : ℕ → Map → V) (m : Meaning) (es : List (Event V))
    → Formatted m → Run V join (mounted bare) m es → Traced V join (model_of bare m) es
