-- What a device shows to a reader.
use Rattle.std.specs.Prelude.{◌≡◌, ℕ, zero, suc, List, [], ◌∷◌, map, slice_index_or}
use Rattle.std.proofs.Common.{refl, sym, subst}
use Rattle.std.proofs.lemmas.List.{length-map}
use Rattle.std.proofs.ByRecursion.{All-map, All-weaker}
use Rattle.device.specs.Meaning.{Meaning, Cell, words, no_cell, Limits, Readable, Lawful, LawfulCell, Held, blocks_of, count_of, content_at, current_at, current_of, shown_of}

pub count_shown : (m : Meaning) → count_of (shown_of m) ≡ blocks_of m
count_shown m = length-map m.cells current_of

shown_at : (cs : List Cell) (b : ℕ) → slice_index_or (map current_of cs) b (words []) ≡ (slice_index_or cs b no_cell).current
shown_at [] b = refl
shown_at (c ∷ cs) zero = refl
shown_at (c ∷ cs) (suc b) = shown_at cs b

pub content_shown : (m : Meaning) → content_at (shown_of m) ≡ current_at m
content_shown m = λ i b. shown_at m.cells b i

-- a lawful device is a reader's
pub readable : (m : Meaning) → Lawful m → Readable (shown_of m)
readable m l = record {
  limits = subst (λ n. Limits n m.width) (sym (count_shown m)) l.limits;
  contents = All-map (Held m.width) current_of m.cells (All-weaker _ _ (λ (c : Cell) (h : LawfulCell m.width c). h.current) m.cells l.cells);
}
