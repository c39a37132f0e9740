-- What the law of histories says of one event, after every history that ends where the event begins.
use Rattle.std.specs.Prelude.{◌≡◌, ℕ, List, [], ◌∷◌, ◌++◌, map}
use Rattle.device.specs.Meaning.{Meaning}
use Rattle.device.specs.Cuts.{Op, Cutting}
use Rattle.table.specs.Summary.{Summing}
use Rattle.reads.specs.Summary.{summary_of}
use Rattle.model.specs.Plain.{Map, Ask.summary, Call, Call.ask, Answer}
use Rattle.model.specs.Plain.{Answer.done, Answer.angle, Answer.listed, Answer.joined, Answer.refused}
use Rattle.model.specs.TreeBlocks.{Each}
use Rattle.model.specs.World.{Mode, Mode.mounted, Event, Event.did, Event.broke, Event.lost, Run, Step, Formatted, bare}
use Rattle.model.specs.Right.{Onward, Ends}
use Rattle.model.specs.TwoRuns.{Twin, first, second, legal, Agree, clear}

module _ (V : Type 0) (join : ℕ → Map → V) (w : Mode) (m : Meaning) (e : Event V) where
  -- two runs: if this history and another are alike but for angles, and so is what comes next, they agree in all but what touched clones show
  abbrev pub OnwardBoth : Type 0
  OnwardBoth =
      (d : Meaning) (ts : List (Twin V)) (t : Twin V) (w₂ : Mode) (m₂ : Meaning)
      → Formatted d → Each legal ts → legal t → first t ≡ e
      → Run V join (mounted bare) d (map first ts) → Ends (mounted bare) d (map first ts) w m
      → Run V join (mounted bare) d (map second ts) → Ends (mounted bare) d (map second ts) w₂ m₂ → Run V join w₂ m₂ (second t ∷ [])
      → Agree V clear d d (ts ++ t ∷ [])

  -- for one run and for two
  abbrev pub Law : Type 0
  Law = Onward V join w m e × OnwardBoth

-- A history may mix summaries of any kinds and types. What the law records of a summary is its number among the kinds of the
-- history and the rows that it joins: any value that is made of them follows.
abbrev pub Rows : Type 0
Rows = ℕ × Map

abbrev pub as_rows : ℕ → Map → Rows
as_rows k rows = (k, rows)

-- an answer whose summary is made from another
abbrev pub mapped : {A B : Type 0} → (A → B) → Answer A → Answer B
mapped f done = done
mapped f (angle o) = angle o
mapped f (listed rs) = listed rs
mapped f (joined v) = joined (f v)
mapped f (refused r) = refused r

-- the call, with its summary's number among the kinds
abbrev pub of_kind : ℕ → Call → Call
of_kind k (ask (summary j n)) = ask (summary k n)
of_kind k c = c

-- The call is a step of the volume, and the law holds with it after every history that ends in s, whatever number its summary has there; and it would
-- hold had the power failed before or after any of its device calls. What it answers of a summary is the summary of the rows.
pub record Lawful {S : Type 0} (x : Summing S) (s : Mode × Meaning) (c : Call) (a : Answer S) (s' : Mode × Meaning) : Type 0 where
  pub os : List Op
  pub answer : Answer Map
  pub summed : a ≡ mapped (summary_of x) answer
  pub step : (k : ℕ) → Step Rows as_rows s.0 s.1 (of_kind k c) (mapped (as_rows k) answer) os s'.0 s'.1
  pub whole : (k : ℕ) → Law Rows as_rows s.0 s.1 (did (of_kind k c) (mapped (as_rows k) answer) os s'.0 s'.1)
  pub cut : (k i : ℕ) (κ : Cutting) → Law Rows as_rows s.0 s.1 (broke (of_kind k c) os i κ)

-- A history with its summaries' rows is one of every family of joins: its summaries are those of the family.
abbrev pub shown : {V : Type 0} → (ℕ → Map → V) → Event Rows → Event V
shown join (did c a os w m) = did c (mapped (λ v. join v.0 v.1) a) os w m
shown join (broke c os k κ) = broke c os k κ
shown join (lost κ) = lost κ

abbrev pub EveryFamily : (V : Type 0) → Type 0
EveryFamily V =
    (join : ℕ → Map → V) (w : Mode) (m : Meaning) (es : List (Event Rows)) → Run Rows as_rows w m es → Run V join w m (map (shown join) es)
