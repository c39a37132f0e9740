-- Cuts by choice, and by the rule.
use Rattle.std.proofs.Common.{◌≡◌, ℕ, zero, suc, ◌+◌, ◌<◌, ◌≤◌, List, [], ◌∷◌, map, length, get_or, sym, refl, ap, ◌∙◌, subst, ap₂, inl, inr, ⊎_elim, arith}
use Rattle.std.specs.List.{AllByRecursion}
use Rattle.std.proofs.lemmas.List.{length-map, get_or-set_same, get_or-set_other, length-set}
use Rattle.device.specs.Meaning.{Content, Cell, Meaning, blocks_of, no_cell, endless, written, written_cell, flushed, flushed_cell, Lawful, LawfulCell, Cut, CutCell, CutTo, cell_at}
use Rattle.device.specs.Cuts.{Op, Op.write, Op.flush, apply, replay, Choice, Choice.persisted, Choice.current, Choice.other, Cutting, remains, cut_cell, cut_cells, cut, Fits, CutsAgree}

cells_length : (k : ℕ → Choice) (i : ℕ) (cs : List Cell) → length (cut_cells k i cs) ≡ length cs
cells_length k i [] = refl
cells_length k i (c ∷ cs) = ap suc (cells_length k (suc i) cs)

cells_at : (k : ℕ → Choice) (i : ℕ) (cs : List Cell) (b : ℕ) → get_or (cut_cells k i cs) b no_cell ≡ cut_cell (k (i + b)) (get_or cs b no_cell)
cells_at k i [] b = refl
cells_at k i (c ∷ cs) zero = ap (λ n. cut_cell (k n) c) (omega arith)
cells_at k i (c ∷ cs) (suc b) = cells_at k (suc i) cs b ∙ ap (λ n. cut_cell (k n) (get_or cs b no_cell)) (omega arith)

pub cut_at : (κ : Cutting) (m : Meaning) (b : ℕ) → cell_at (cut κ m) b ≡ cut_cell (κ.choice b) (cell_at m b)
cut_at κ m b = cells_at κ.choice 0 m.cells b ∙ ap (λ n. cut_cell (κ.choice n) (cell_at m b)) (omega arith)

pub cut_blocks : (κ : Cutting) (m : Meaning) → blocks_of (cut κ m) ≡ blocks_of m
cut_blocks κ m = cells_length κ.choice 0 m.cells

map_at_lem : (cs : List Cell) (b : ℕ) → get_or (map flushed_cell cs) b no_cell ≡ flushed_cell (get_or cs b no_cell)
map_at_lem [] b = refl
map_at_lem (c ∷ cs) zero = refl
map_at_lem (c ∷ cs) (suc b) = map_at_lem cs b

pub flush_at : (m : Meaning) (b : ℕ) → cell_at (flushed m) b ≡ flushed_cell (cell_at m b)
flush_at m b = map_at_lem m.cells b

pub write_at : (m : Meaning) (b : ℕ) (ws : List ℕ) → b < blocks_of m → cell_at (written m b ws) b ≡ written_cell ws (cell_at m b)
write_at m b ws h = get_or-set_same m.cells b (written_cell ws (cell_at m b)) no_cell h

pub write_off : (m : Meaning) (b x : ℕ) (ws : List ℕ) → (x ≡ b → ⊥) → cell_at (written m b ws) x ≡ cell_at m x
write_off m b x ws h = get_or-set_other m.cells b x (written_cell ws (cell_at m b)) no_cell h

pub blocks_apply : (o : Op) (m : Meaning) → blocks_of (apply o m) ≡ blocks_of m
blocks_apply (write b ws) m = length-set m.cells b (written_cell ws (cell_at m b))
blocks_apply flush m = length-map m.cells flushed_cell

pub blocks_replay : (os : List Op) (m : Meaning) → blocks_of (replay os m) ≡ blocks_of m
blocks_replay [] m = refl
blocks_replay (o ∷ os) m = blocks_replay os (apply o m) ∙ blocks_apply o m

pub width_replay : (os : List Op) (m : Meaning) → (replay os m).width ≡ m.width
width_replay [] m = refl
width_replay (write b ws ∷ os) m = width_replay os (apply (write b ws) m)
width_replay (flush ∷ os) m = width_replay os (apply flush m)

-- by choice, so by the rule
remains_cut : (w n : ℕ) (k : Choice) (c : Cell) → LawfulCell w c → Fits w k → CutTo w n c (remains n k c)
remains_cut w zero k c l f = refl
remains_cut w (suc zero) persisted c l f = inl refl
remains_cut w (suc zero) current c l f = inr refl
remains_cut w (suc zero) (other x) c l f = inr refl
remains_cut w (suc (suc n)) persisted c l f = l.persisted
remains_cut w (suc (suc n)) current c l f = l.current
remains_cut w (suc (suc n)) (other x) c l f = f

all_at : (P : Cell → Type 0) (cs : List Cell) (b : ℕ) → AllByRecursion P cs → b < length cs → P (get_or cs b no_cell)
all_at P [] b a h = absurd (omega arith)
all_at P (c ∷ cs) zero a h = a.0
all_at P (c ∷ cs) (suc b) a h = all_at P cs b a.1 (omega arith)

to_rule : (κ : Cutting) (m : Meaning) → Lawful m → ((b : ℕ) → Fits m.width (κ.choice b)) → κ.left ≤ endless → κ.left_mark.depth ≤ 255 → Cut m (cut κ m)
to_rule κ m l f h d = record {
  width = refl;
  blocks = cut_blocks κ m;
  left = h;
  left_mark = d;
  cells = λ b i. subst (λ d. CutCell m.width (cell_at m b) d) (sym (cut_at κ m b)) (record {
    mark = refl;
    equal = refl;
    from = remains_cut m.width (cell_at m b).mark (κ.choice b) (cell_at m b) (all_at (LawfulCell m.width) m.cells b l.cells i) (f b);
  });
}

-- by the rule, so by choice
chosen : (w n : ℕ) (c : Cell) (x : Content) → CutTo w n c x → (k : Choice) × Fits w k × (remains n k c ≡ x)
chosen w zero c x t = (current, tt, sym t)
chosen w (suc zero) c x t = ⊎_elim (λ o. (persisted, tt, sym o)) (λ n. (current, tt, sym n)) t
chosen w (suc (suc n)) c x t = (other x, t, refl)

abbrev one : Choice → (ℕ → Choice) → ℕ → Choice
one p k zero = p
one p k (suc b) = k b

one_fit : (w n : ℕ) (p : Choice) (k : ℕ → Choice) → Fits w p → ((b : ℕ) → b < n → Fits w (k b)) → (b : ℕ) → b < suc n → Fits w (one p k b)
one_fit w n p k f g zero i = f
one_fit w n p k f g (suc b) i = g b (omega arith)

abbrev still : Content → Cell
still y = record { persisted = y; current = y; mark = 0 }

like : (w : ℕ) (c d : Cell) → CutCell w c d → still d.current ≡ d
like w c d x = λ i. record { persisted = sym x.equal i; current = d.current; mark = sym x.mark i }

-- a choice for each block
all_choices : (w : ℕ) (cs ds : List Cell) → length ds ≡ length cs → ((b : ℕ) → b < length cs → CutCell w (get_or cs b no_cell) (get_or ds b no_cell))
    → (k : ℕ → Choice) × ((b : ℕ) → b < length cs → Fits w (k b)) × ((i : ℕ) (j : ℕ → Choice) → ((b : ℕ) → j (i + b) ≡ k b) → ds ≡ cut_cells j i cs)
all_choices w [] [] e h = ((λ b. persisted), (λ b i. tt), (λ i j q. refl))
all_choices w [] (d ∷ ds) e h = absurd (omega (arith, e))
all_choices w (c ∷ cs) [] e h = absurd (omega (arith, e))
all_choices w (c ∷ cs) (d ∷ ds) e h =
    let x = h 0 (omega arith) in
    let p = chosen w c.mark c d.current x.from in
    let r = all_choices w cs ds (omega (arith, e)) (λ b i. h (suc b) (omega arith)) in
    let k : ℕ → Choice = λ b. one p.0 r.0 b in (
      k,
      one_fit w (length cs) p.0 r.0 p.1 r.1,
      (λ i j q.
          let a : d ≡ cut_cell (j i) c = sym (like w c d x) ∙ ap still (sym p.2 ∙ ap (λ y. remains c.mark y c) (sym (q 0) ∙ ap j (omega arith))) in
          ap₂ (λ (y : Cell) (ys : List Cell). y ∷ ys) a (r.2 (suc i) j (λ b. ap j (omega arith) ∙ q (suc b)))),
    )

from_rule : (m n : Meaning) → Cut m n → (κ : Cutting) × ((b : ℕ) → b < blocks_of m → Fits m.width (κ.choice b)) × (n ≡ cut κ m)
from_rule m n c =
    let r = all_choices m.width m.cells n.cells c.blocks c.cells in
    let e = r.2 0 r.0 (λ b. ap r.0 (omega arith)) in
    (record { choice = r.0; left = n.left; left_mark = n.left_mark }, r.1, λ i. record { width = c.width i; cells = e i; left = n.left; left_mark = n.left_mark })

pub cuts_agree : CutsAgree
cuts_agree = (to_rule, from_rule)
