-- How the mirror layer's meaning follows the two below it.
use Rattle.std.proofs.Common.{◌≡◌, ℕ, ◌+◌, ◌<◌, ◌≤◌, min, max, cond, ltb, List, map, set, sym, ap, ◌∙◌, subst, ⊎_elim, arith}
use Rattle.std.specs.List.{range_with_len}
use Rattle.std.proofs.lemmas.List.{length-map, length-set}
use Rattle.std.proofs.lemmas.Bool.{cases_eq}
use Rattle.std.proofs.lemmas.Bool.Decides.{nat_tests}
use Rattle.device.specs.declared.LayerMark.{LayerMark}
use Rattle.device.specs.Meaning.{Meaning, Cell, words, raised, flushed, flushed_cell, written, written_cell, no_cell, spent, blocks_of, cell_at}
use Rattle.device.proofs.Choices.{flush_at, write_at, write_off}
use Rattle.device.proofs.Tables.{get_or_table, set_table, same_table, map_map}
use Rattle.mirror.specs.Mirrored.{Allowed, Alike, One, mirrored, mirrored_cell, both_at, pick}

abbrev make : ℕ → List Cell → ℕ → LayerMark → Meaning
make w cs l k = record { width = w; cells = cs; left = l; left_mark = k }

pub cell_mirrored : (m n : Meaning) (b : ℕ) → b < blocks_of m → cell_at (mirrored m n) b ≡ both_at m n b
cell_mirrored m n b h = get_or_table (both_at m n) (blocks_of m) b no_cell h

pub moved : (P : Meaning → Meaning → Type 0) {x x' y y' : Meaning} → x' ≡ x → y' ≡ y → P x y → P x' y'
moved P p q h = rw (p, q) h

-- after both are flushed
module _ (m n : Meaning) where
  pub mirrored_flushed : mirrored (flushed m) (flushed n) ≡ flushed (mirrored m n)
  mirrored_flushed =
      ap (λ cs. make m.width cs (min m.left n.left) (raised (cond (ltb n.left m.left) n.left_mark m.left_mark)))
      (ap (λ k. map (both_at (flushed m) (flushed n)) (range_with_len 0 k)) (length-map m.cells flushed_cell)
      ∙ same_table (λ b. flushed_cell (both_at m n b)) (both_at (flushed m) (flushed n)) (blocks_of m) (λ b h. at b)
      ∙ sym (map_map flushed_cell (both_at m n) (range_with_len 0 (blocks_of m))))
    where
      at : (b : ℕ) → both_at (flushed m) (flushed n) b ≡ flushed_cell (both_at m n b)
      at b = ap (λ c. mirrored_cell c (cell_at (flushed n) b)) (flush_at m b) ∙ ap (mirrored_cell (flushed_cell (cell_at m b))) (flush_at n b)

  unmarked : (p : Meaning) (b : ℕ) → (cell_at (flushed p) b).mark ≡ 0
  unmarked p b = ap (λ (c : Cell). c.mark) (flush_at p b)

  pub alike_flushed : Allowed m n → Alike (flushed m) (flushed n)
  alike_flushed s = record {
    shape = (length-map m.cells flushed_cell ∙ s.0 ∙ sym (length-map n.cells flushed_cell), s.1);
    marks = λ b h. unmarked m b ∙ sym (unmarked n b);
    currents = λ b h k. absurd (omega (arith, unmarked m b));
  }

-- after both are written
spent_less : (a b : ℕ) → 1 ≤ a → 1 ≤ b → a ≤ 4294967295 → b ≤ 4294967295 → ltb (spent b) (spent a) ≡ ltb b a
spent_less a b p q r s = grind (arith, nat_tests)

spent_min : (a b : ℕ) → 1 ≤ a → 1 ≤ b → a ≤ 4294967295 → b ≤ 4294967295 → min (spent a) (spent b) ≡ spent (min a b)
spent_min a b p q r s = grind (arith, nat_tests)

module _ (m n : Meaning) (a : Alike m n) (b : ℕ) (h : b < blocks_of m) (ws : List ℕ) where
  here : cell_at (written m b ws) b ≡ written_cell ws (cell_at m b)
  here = write_at m b ws h

  there : cell_at (written n b ws) b ≡ written_cell ws (cell_at n b)
  there = write_at n b ws (omega (arith, a.shape.0))

  written_here : both_at (written m b ws) (written n b ws) b ≡ written_cell ws (both_at m n b)
  written_here =
      let c = cell_at m b in
      let d = cell_at n b in
      let e : max (min (c.mark + 1) 2) (min (d.mark + 1) 2) ≡ min (max c.mark d.mark + 1) 2 = omega arith in
      ap (λ x. mirrored_cell x (cell_at (written n b ws) b)) here ∙ ap (mirrored_cell (written_cell ws c)) there ∙ ap remark e
    where
      remark : ℕ → Cell
      remark k = record { persisted = pick (cell_at m b).persisted (cell_at n b).persisted; current = words ws; mark = k }

  written_off : (k : ℕ) → k < blocks_of m → (k ≡ b → ⊥) → both_at (written m b ws) (written n b ws) k ≡ both_at m n k
  written_off k k< ne = ap (λ x. mirrored_cell x (cell_at (written n b ws) k)) (write_off m b k ws ne) ∙ ap (mirrored_cell (cell_at m k)) (write_off n b k ws ne)

  pub mirrored_written : 1 ≤ m.left → 1 ≤ n.left → m.left ≤ 4294967295 → n.left ≤ 4294967295 → mirrored (written m b ws) (written n b ws) ≡ written (mirrored m n) b ws
  mirrored_written p q r s =
      ap (λ cs. make m.width cs (min (spent m.left) (spent n.left)) (raised (cond (ltb (spent n.left) (spent m.left)) n.left_mark m.left_mark)))
      (ap (λ k. map (both_at (written m b ws) (written n b ws)) (range_with_len 0 k)) (length-set m.cells b (written_cell ws (cell_at m b)))
      ∙ set_table (both_at m n) (both_at (written m b ws) (written n b ws)) (blocks_of m) b (written_cell ws (cell_at (mirrored m n) b)) h
      (written_here ∙ sym (ap (written_cell ws) (cell_mirrored m n b h))) written_off)
      ∙ ap (λ l. make m.width after l (raised (cond (ltb (spent n.left) (spent m.left)) n.left_mark m.left_mark))) (spent_min m.left n.left p q r s)
      ∙ ap (λ t. make m.width after (spent (min m.left n.left)) (raised (cond t n.left_mark m.left_mark))) (spent_less m.left n.left p q r s)
    where
      after : List Cell
      after = set (mirrored m n).cells b (written_cell ws (cell_at (mirrored m n) b))

  pub alike_written : Alike (written m b ws) (written n b ws)
  alike_written = record {
    shape = (length-set m.cells b (written_cell ws (cell_at m b)) ∙ a.shape.0 ∙ sym (length-set n.cells b (written_cell ws (cell_at n b))), a.shape.1);
    marks = λ k k<. let k<' : k < blocks_of m = omega (arith, length-set m.cells b (written_cell ws (cell_at m b))) in
        ⊎_elim
        (λ (e : k ≡ b). subst (λ i. (cell_at (written m b ws) i).mark ≡ (cell_at (written n b ws) i).mark) (sym e)
        (ap (λ (c : Cell). c.mark) here ∙ ap (λ i. min (i + 1) 2) (a.marks b h) ∙ sym (ap (λ (c : Cell). c.mark) there)))
        (λ (ne : k ≡ b → ⊥). ap (λ (c : Cell). c.mark) (write_off m b k ws ne) ∙ a.marks k k<' ∙ sym (ap (λ (c : Cell). c.mark) (write_off n b k ws ne)))
        (cases_eq k b);
    currents = λ k k< one. let k<' : k < blocks_of m = omega (arith, length-set m.cells b (written_cell ws (cell_at m b))) in
        ⊎_elim
        (λ (e : k ≡ b). subst (λ i. One (cell_at (written m b ws) i).current (cell_at (written n b ws) i).current) (sym e)
        (ws, ap (λ (c : Cell). c.current) here, ap (λ (c : Cell). c.current) there))
        (λ (ne : k ≡ b → ⊥).
        let o = a.currents k k<' (subst (λ (c : Cell). 1 ≤ c.mark) (write_off m b k ws ne) one) in
        (o.0, ap (λ (c : Cell). c.current) (write_off m b k ws ne) ∙ o.1, ap (λ (c : Cell). c.current) (write_off n b k ws ne) ∙ o.2))
        (cases_eq k b);
  }
