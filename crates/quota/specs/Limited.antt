-- The quota layer, as a function of the meaning below it.
use Rattle.std.specs.Prelude.{◌≡◌, ℕ, ◌≤◌, List, map, take}
use Rattle.std.proofs.Common.{◌∙◌, sym, ap, arith}
use Rattle.std.proofs.lemmas.List.{length-map, length-take-le, take-map}
use Rattle.std.proofs.ByRecursion.{All-map, All-weaker, All-take}
use Rattle.device.specs.Meaning.{Meaning, Cell, Content, words, damaged, raised, blocks_of, Limits, LawfulCell, Lawful, Held, Shown, Readable, count_of, current_of, shown_of}
use Rattle.device.specs.Showing.{count_shown}
use Rattle.device.proofs.Tables.{map_map}
use Rattle.device.specs.Mapped.{mapped_cell}
use Rattle.device.proofs.Mapped.{mapped_lawful}

-- the limits that a device allows: at least one block, and no more than it has
abbrev pub Allowed : ℕ → Shown → Type 0
Allowed n s = (1 ≤ n) × (n ≤ count_of s)

-- a content as one layer further up shows it: the mark of damage is one deeper
abbrev pub raised_content : Content → Content
raised_content (words ws) = words ws
raised_content (damaged k) = damaged (raised k)

abbrev pub raised_cell : Cell → Cell
raised_cell = mapped_cell raised_content

-- what a quota of n blocks over a device means: the first n blocks
abbrev pub limited : ℕ → Meaning → Meaning
limited n m = record { width = m.width; cells = map raised_cell (take n m.cells); left = m.left; left_mark = raised m.left_mark }

-- what it shows
abbrev pub limited_shown : ℕ → Shown → Shown
limited_shown n s = record { width = s.width; contents = map raised_content (take n s.contents) }

-- It keeps the rules of every device.
pub held_raised : (w : ℕ) (x : Content) → Held w x → Held w (raised_content x)
held_raised w (words ws) h = h
held_raised w (damaged k) h = omega arith

pub limited_blocks : (n : ℕ) (m : Meaning) → n ≤ blocks_of m → blocks_of (limited n m) ≡ n
limited_blocks n m h = length-map (take n m.cells) raised_cell ∙ length-take-le n m.cells h

-- the first n blocks
within : {k n j w : ℕ} → k ≡ n → Limits j w → 1 ≤ n → n ≤ j → Limits k w
within e l some few = record { some = omega (arith, e); few = omega (arith, e, l.few); broad = l.broad; narrow = l.narrow }

pub enough : (n : ℕ) (m : Meaning) → Allowed n (shown_of m) → n ≤ blocks_of m
enough n m a = omega (arith, a.1, count_shown m)

pub fits : (n : ℕ) (m : Meaning) → Lawful m → Allowed n (shown_of m) → Lawful (limited n m)
fits n m l a = record {
  limits = within (limited_blocks n m (enough n m a)) l.limits a.0 (enough n m a);
  cells = All-map (LawfulCell m.width) raised_cell (take n m.cells) (All-weaker _ _ (mapped_lawful raised_content m.width m.width (held_raised m.width)) (take n m.cells) (All-take _ n m.cells l.cells));
  left = l.left;
  left_mark = omega arith;
}

pub limited_count : (n : ℕ) (s : Shown) → n ≤ count_of s → count_of (limited_shown n s) ≡ n
limited_count n s h = length-map (take n s.contents) raised_content ∙ length-take-le n s.contents h

pub readable_limited : (n : ℕ) (s : Shown) → Readable s → Allowed n s → Readable (limited_shown n s)
readable_limited n s l a = record {
  limits = within (limited_count n s a.1) l.limits a.0 a.1;
  contents = All-map (Held s.width) raised_content (take n s.contents) (All-weaker _ _ (held_raised s.width) (take n s.contents) (All-take _ n s.contents l.contents));
}

pub shows_limited : (n : ℕ) (m : Meaning) (s : Shown) → s ≡ shown_of m → limited_shown n s ≡ shown_of (limited n m)
shows_limited n m s e = ap (limited_shown n) e ∙ ap with_contents
    (ap (map raised_content) (take-map current_of n m.cells) ∙ map_map raised_content current_of (take n m.cells) ∙ sym (map_map current_of raised_cell (take n m.cells)))
  where
    with_contents : List Content → Shown
    with_contents cs = record { width = m.width; contents = cs }
