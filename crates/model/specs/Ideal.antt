-- What calls and cuts make of a volume by its trees; the proofs of the law go through it.
use Rattle.std.specs.Prelude.{ℕ, zero, suc, ◌%◌, cond, Some, None, Option, slice_set}
use Rattle.device.specs.Meaning.{spent}
use Rattle.device.specs.Cuts.{Cutting, Choice, Choice.persisted, Choice.current, Choice.other}
use Rattle.model.specs.Plain.{Map, Ask, Call, Answer, place, answer}
use Rattle.model.specs.Plain.{Ask.create, Ask.clone, Ask.delete, Ask.put, Ask.remove, Ask.get, Ask.at, Ask.rows, Ask.summary, Ask.seal, Call.ask, Call.finish, Call.reopen, Call.mount}
use Rattle.model.specs.Plain.{Answer.done, Answer.refused}
use Rattle.page.specs.Slot.{Root}
use Rattle.table.specs.Rows.{payload_of}
use Rattle.model.specs.TreeBlocks.{Tree, Change, Change.begin, Change.puts, Change.takes, without_angle, form, root_of, writes}
use Rattle.model.specs.Model.{Trees, Model, shape_of, maps_of, holds, refusal, source, new_tree}

abbrev pub left_after : ℕ → ℕ → ℕ
left_after zero n = n
left_after (suc k) n = left_after k (spent n)

abbrev pub working≔ : Model → Trees → Model
working≔ M x = record { working = x; committed = M.committed; generation = M.generation; blocks = M.blocks; left = M.left; layer = M.layer }

abbrev pub finished : Model → Model
finished M = record { working = M.working; committed = M.working; generation = suc M.generation; blocks = M.blocks; left = spent M.left; layer = M.layer }

abbrev pub cut_model : Cutting → Model → Model
cut_model κ M = record { working = M.working; committed = M.committed; generation = M.generation; blocks = M.blocks; left = κ.left; layer = κ.left_mark }

-- a finish cut after its write holds if the cut leaves the slot's new content
abbrev pub landed : Choice → Model → Model
landed persisted M = M
landed current M = finished M
landed (other x) M = finished M

abbrev pub broken : Model → Call → ℕ → Cutting → Model
broken M (ask q) k κ = M
broken M finish zero κ = M
broken M finish (suc zero) κ = landed (κ.choice (suc M.generation % 2)) M
broken M finish (suc (suc k)) κ = finished M
broken M reopen k κ = M
broken M mount k κ = M

-- how many blocks it writes
abbrev pub writes_for : Model → ℕ → Change ℕ → ℕ
writes_for M n d = writes (without_angle d) (form (source M n d))

abbrev pub standing : Tree → Option (Root × Tree)
standing u = Some (root_of u, u)

abbrev pub with_change : Model → ℕ → Change ℕ → Model
with_change M n d = record {
  working = slice_set M.working n (standing (new_tree M n d));
  committed = M.committed;
  generation = M.generation;
  blocks = M.blocks;
  left = left_after (writes_for M n d) M.left;
  layer = M.layer;
}

-- an accepted call
abbrev pub after : Model → Ask → Model
after M (create n) = with_change M n begin
after M (clone f n) = working≔ M (slice_set M.working n (place M.working f))
after M (delete n) = working≔ M (slice_set M.working n None)
after M (put n s a) = with_change M n (puts s (payload_of a))
after M (remove n s) = cond (holds (shape_of M) n s) (with_change M n (takes s)) M
after M (get n s) = M
after M (at n s) = M
after M (rows n s k) = M
after M (summary k n) = M
after M seal = M

abbrev pub next : Model → Call → Model
next M (ask q) = elim (refusal (shape_of M) q) [ Some r ↦ M | None ↦ after M q ]
next M finish = finished M
next M reopen = M
next M mount = working≔ M M.committed

module _ (V : Type 0) (join : ℕ → Map → V) where
  abbrev pub reply : Model → Call → Answer V
  reply M (ask q) = elim (refusal (shape_of M) q) [ Some r ↦ refused r | None ↦ answer V join (maps_of M.working) q ]
  reply M finish = done
  reply M reopen = done
  reply M mount = done
