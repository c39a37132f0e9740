-- The check layer, as a function of the meaning below it.
use Rattle.std.specs.Prelude.{◌≡◌, ℕ, ◌-◌, ◌*◌, ◌/◌, ◌%◌, ◌^◌, ◌≤◌, Bool, true, false, cond, List, [], ◌∷◌, ◌++◌, map, take, ◌==◌, bit_or, bit_xor, slice_index, fold, Ok, Err, Result}
use Rattle.std.proofs.Common.{◌∙◌, sym, refl, ap, arith}
use Rattle.std.proofs.lemmas.List.{length-map, length-take-le}
use Rattle.std.proofs.ByRecursion.{All-map, All-weaker, All-take}
use Rattle.device.specs.declared.Layer.TheVariants.{Check}
use Rattle.device.specs.Meaning.{Meaning, Cell, Content, words, damaged, own, raised, Limits, LawfulCell, Lawful, Held, Shown, Readable, shown_of, current_of, passed}
use Rattle.device.specs.declared.DeviceFault.{DeviceFault}
use Rattle.device.specs.Cuts.{Op, Op.write, Op.flush, written_ops}
use Rattle.device.specs.Mapped.{mapped_cell}
use Rattle.device.proofs.Mapped.{mapped_lawful}
use Rattle.device.proofs.Tables.{map_map}

-- 32 bits, rotated left by 5
abbrev rotated : ℕ → ℕ
rotated s = bit_or ((s * 2 ^ 5) % 2 ^ 32) (s / 2 ^ 27)

-- The check of some words: it starts at 1; for each word it is rotated left by 5, and the word is XORed in.
abbrev pub check_of : List ℕ → ℕ
check_of ws = fold (λ s x. bit_xor (rotated s) x) 1 ws

-- what a block below holds for some words
abbrev pub with_check : List ℕ → List ℕ
with_check ws = ws ++ (check_of ws ∷ [])

-- what the layer is built over: a word, and its check
abbrev pub Allowed : Shown → Type 0
Allowed s = 2 ≤ s.width

-- a content below, as the layer shows it at width w: the first w words if the last is their check, and damage one deeper
abbrev pub checked_content : ℕ → Content → Content
checked_content w (words ws) = cond (slice_index ws w == check_of (take w ws)) (words (take w ws)) (damaged (own Check))
checked_content w (damaged k) = damaged (raised k)

abbrev pub checked_cell : ℕ → Cell → Cell
checked_cell w c = mapped_cell (checked_content w) c

-- what the layer means
abbrev pub checked : Meaning → Meaning
checked m = record { width = m.width - 1; cells = map (checked_cell (m.width - 1)) m.cells; left = m.left; left_mark = raised m.left_mark }

-- what the layer shows
abbrev pub checked_shown : Shown → Shown
checked_shown s = record { width = s.width - 1; contents = map (checked_content (s.width - 1)) s.contents }

-- It keeps the rules of every device.
held_if : (b : Bool) (w : ℕ) (x y : Content) → Held w x → Held w y → Held w (cond b x y)
held_if true w x y h k = h
held_if false w x y h k = k

pub held_checked : (w : ℕ) → 1 ≤ w → (x : Content) → Held w x → Held (w - 1) (checked_content (w - 1) x)
held_checked w big (words ws) h =
    held_if (slice_index ws (w - 1) == check_of (take (w - 1) ws)) (w - 1) (words (take (w - 1) ws)) (damaged (own Check))
    (length-take-le (w - 1) ws (omega (arith, h.0)), All-take _ (w - 1) ws h.1)
    (omega arith)
held_checked w big (damaged k) h = omega arith

-- as many blocks, of a word less
within : {n k w : ℕ} → n ≡ k → Limits n w → 2 ≤ w → Limits k (w - 1)
within e l big = record { some = omega (arith, e, l.some); few = omega (arith, e, l.few); broad = omega (arith, big); narrow = omega (arith, l.narrow) }

pub fits : (m : Meaning) → Lawful m → Allowed (shown_of m) → Lawful (checked m)
fits m l big = record {
  limits = within (sym (length-map m.cells (checked_cell (m.width - 1)))) l.limits big;
  cells = All-map (LawfulCell (m.width - 1)) (checked_cell (m.width - 1)) m.cells
      (All-weaker _ _ (mapped_lawful (checked_content (m.width - 1)) m.width (m.width - 1) (held_checked m.width (omega arith))) m.cells l.cells);
  left = l.left;
  left_mark = omega arith;
}

pub readable_checked : (s : Shown) → Readable s → Allowed s → Readable (checked_shown s)
readable_checked s l big = record {
  limits = within (sym (length-map s.contents (checked_content (s.width - 1)))) l.limits big;
  contents = All-map (Held (s.width - 1)) (checked_content (s.width - 1)) s.contents
      (All-weaker _ _ (held_checked s.width (omega arith)) s.contents l.contents);
}

-- What it shows is its current contents.
shown_checked : (m : Meaning) → checked_shown (shown_of m) ≡ shown_of (checked m)
shown_checked m = ap with_contents (map_map (checked_content (m.width - 1)) current_of m.cells ∙ sym (map_map current_of (checked_cell (m.width - 1)) m.cells))
  where
    with_contents : List Content → Shown
    with_contents cs = record { width = m.width - 1; contents = cs }

pub shows_checked : (m : Meaning) (s : Shown) → s ≡ shown_of m → checked_shown s ≡ shown_of (checked m)
shows_checked m s e = ap checked_shown e ∙ shown_checked m

-- the device call that a call is below
abbrev pub below_op : Op → Op
below_op (write b ws) = write b (with_check ws)
below_op flush = flush

-- What the layer's rules about calls need: lists of calls follow one another, and a refused write is no call.
pub below_append : (os ps : List Op) → map below_op (os ++ ps) ≡ map below_op os ++ map below_op ps
below_append [] ps = refl
below_append (o ∷ os) ps = ap (λ t. below_op o ∷ t) (below_append os ps)

pub below_written : (r : Result Unit DeviceFault) (b : ℕ) (ws : List ℕ) → map below_op (written_ops r b ws) ≡ written_ops r b (with_check ws)
below_written (Ok u) b ws = refl
below_written (Err e) b ws = refl

pub passed_ops : (r : Result Unit DeviceFault) (b : ℕ) (ws : List ℕ) → written_ops (passed r) b ws ≡ written_ops r b ws
passed_ops (Ok u) b ws = refl
passed_ops (Err e) b ws = refl
