-- The plain tables: what a history of calls means, without blocks.
use Rattle.std.specs.Prelude.{ℕ, suc, Bool, cond, not, List, [], ◌∷◌, take, replicate, ℤ, is_some, Some, None, Option, nat_le, nat_lt, slice_index_or, slice_set}
use Rattle.std.specs.Option.{option_or}
use Rattle.tree.specs.Node.{ins, del}
use Rattle.tree.specs.Reads.{look}
use Rattle.model.specs.declared.refusal.Refusal.{Refusal}
use Rattle.model.specs.declared.refusal.Refusal.TheVariants.{Number, Speed, Angle, Absent, Taken}
use Rattle.table.specs.Rows.{off_angle}
use Rattle.table.specs.Angles.{angle_at}

-- a speed and an angle
abbrev pub Row : Type 0
Row = ℕ × ℤ

-- a map from speed to angle: its rows, ascending
abbrev pub Map : Type 0
Map = List Row

-- 24 places, each absent or a map
abbrev pub Maps : Type 0
Maps = List (Option Map)

-- what a mounted volume is asked
pub data Ask : Type 0 where
  create : ℕ → Ask
  clone : ℕ → ℕ → Ask
  delete : ℕ → Ask
  put : ℕ → ℕ → ℤ → Ask
  remove : ℕ → ℕ → Ask
  get : ℕ → ℕ → Ask
  at : ℕ → ℕ → Ask
  rows : ℕ → ℕ → ℕ → Ask
  summary : ℕ → ℕ → Ask
  seal : Ask

pub data Call : Type 0 where
  ask : Ask → Call
  finish : Call
  reopen : Call
  mount : Call

pub data Answer (V : Type 0) : Type 0 where
  done : Answer V
  angle : Option ℤ → Answer V
  listed : List Row → Answer V
  joined : V → Answer V
  refused : Refusal → Answer V

abbrev pub from : ℕ → Map → Map
from s [] = []
from s (r ∷ rs) = cond (nat_le s r.0) (r ∷ rs) (from s rs)

abbrev pub place : {A : Type 0} → List (Option A) → ℕ → Option A
place xs n = slice_index_or xs n None

abbrev pub map_at : Maps → ℕ → Map
map_at ms n = elim (place ms n) [ Some m ↦ m | None ↦ [] ]

abbrev pub has : {A : Type 0} → List (Option A) → ℕ → Bool
has xs n = is_some (place xs n)

-- the first refusal whose test holds
abbrev pub first : List (Bool × Refusal) → Option Refusal
first [] = None
first (t ∷ ts) = cond t.0 (Some t.1) (first ts)

-- the refusals 5 to 9, from the arguments and the maps
abbrev pub early : (ℕ → Bool) → Ask → Option Refusal
early ms (create n) = first ((nat_lt 23 n, Number) ∷ (ms n, Taken) ∷ [])
early ms (clone f t) = first ((nat_lt 23 f, Number) ∷ (nat_lt 23 t, Number) ∷ (not (ms f), Absent) ∷ (ms t, Taken) ∷ [])
early ms (delete n) = first ((nat_lt 23 n, Number) ∷ (not (ms n), Absent) ∷ [])
early ms (put n s a) = first ((nat_lt 23 n, Number) ∷ (nat_lt 9999 s, Speed) ∷ (off_angle a, Angle) ∷ (not (ms n), Absent) ∷ [])
early ms (remove n s) = first ((nat_lt 23 n, Number) ∷ (nat_lt 9999 s, Speed) ∷ (not (ms n), Absent) ∷ [])
early ms (get n s) = first ((nat_lt 23 n, Number) ∷ (nat_lt 9999 s, Speed) ∷ (not (ms n), Absent) ∷ [])
early ms (at n s) = first ((nat_lt 23 n, Number) ∷ (nat_lt 9999 s, Speed) ∷ (not (ms n), Absent) ∷ [])
early ms (rows n s k) = first ((nat_lt 23 n, Number) ∷ (nat_lt 9999 s, Speed) ∷ (not (ms n), Absent) ∷ [])
early ms (summary k n) = first ((nat_lt 23 n, Number) ∷ (not (ms n), Absent) ∷ [])
early ms seal = None

pub record Plain : Type 0 where
  pub working : Maps
  pub committed : Maps
  pub generation : ℕ

abbrev pub blank : {A : Type 0} → List (Option A)
blank = replicate 24 None

abbrev pub start : Plain
start = record { working = blank; committed = blank; generation = 1 }

abbrev pub working≔ : Plain → Maps → Plain
working≔ p ms = record { working = ms; committed = p.committed; generation = p.generation }

abbrev pub finished : Plain → Plain
finished p = record { working = p.working; committed = p.working; generation = suc p.generation }

-- what an accepted call does to the tables
abbrev pub after : Plain → Ask → Plain
after p (create n) = working≔ p (slice_set p.working n (Some []))
after p (clone f t) = working≔ p (slice_set p.working t (place p.working f))
after p (delete n) = working≔ p (slice_set p.working n None)
after p (put n s a) = working≔ p (slice_set p.working n (Some (ins s a (map_at p.working n))))
after p (remove n s) =
    elim (look s (map_at p.working n)) [ Some a ↦ working≔ p (slice_set p.working n (Some (del s (map_at p.working n)))) | None ↦ p ]
after p (get n s) = p
after p (at n s) = p
after p (rows n s k) = p
after p (summary k n) = p
after p seal = p

-- the call's effect and answer; f is the refusal from 10 up, if one is fed
abbrev pub next : Plain → Call → Option Refusal → Plain
next p (ask q) f = elim (option_or (early (has p.working) q) f) [ Some r ↦ p | None ↦ after p q ]
next p finish f = finished p
next p reopen f = p
next p mount f = working≔ p p.committed

module _ (V : Type 0) (join : ℕ → Map → V) where
  -- what an accepted call answers
  abbrev pub answer : Maps → Ask → Answer V
  answer ms (create n) = done
  answer ms (clone f t) = done
  answer ms (delete n) = done
  answer ms (put n s a) = done
  answer ms (remove n s) = angle (look s (map_at ms n))
  answer ms (get n s) = angle (look s (map_at ms n))
  answer ms (at n s) = angle (angle_at s (map_at ms n))
  answer ms (rows n s k) = listed (take k (from s (map_at ms n)))
  answer ms (summary k n) = joined (join k (map_at ms n))
  answer ms seal = done

  abbrev pub reply : Plain → Call → Option Refusal → Answer V
  reply p (ask q) f = elim (option_or (early (has p.working) q) f) [ Some r ↦ refused r | None ↦ answer p.working q ]
  reply p finish f = done
  reply p reopen f = done
  reply p mount f = done
