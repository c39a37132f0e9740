-- The mirror layer, as a function of the two meanings below it.
use Rattle.std.specs.Prelude.{◌≡◌, ℕ, ◌<◌, ◌≤◌, min, max, cond, List, map, nat_lt}
use Rattle.std.proofs.Common.{sym, ◌∙◌, subst, arith}
use denote.Struct.Props.{props}
use mathlib.Core.HLevel.{is_prop→PathP}
use Rattle.std.specs.List.{range_with_len}
use Rattle.std.proofs.lemmas.List.FromFn.{length-map-range_with_len}
use Rattle.std.proofs.ByRecursion.{All-get_or}
use Rattle.device.specs.Meaning.{Meaning, Cell, Content, words, damaged, raised, Limits, LawfulCell, Lawful, Held, no_cell, blocks_of, cell_at}
use Rattle.device.proofs.Tables.{all_table}

-- the sides that a mirror is built over: as many blocks, and as wide
abbrev pub Allowed : Meaning → Meaning → Type 0
Allowed m n = (blocks_of m ≡ blocks_of n) × (m.width ≡ n.width)

-- The first side's content unless it is damaged, then the second's; where both are damaged, the first's mark, one deeper.
abbrev pub pick : Content → Content → Content
pick (words ws) y = words ws
pick (damaged j) (words ws) = words ws
pick (damaged j) (damaged k) = damaged (raised j)

abbrev pub mirrored_cell : Cell → Cell → Cell
mirrored_cell c d = record { persisted = pick c.persisted d.persisted; current = pick c.current d.current; mark = max c.mark d.mark }

abbrev pub both_at : Meaning → Meaning → ℕ → Cell
both_at m n b = mirrored_cell (cell_at m b) (cell_at n b)

-- What a mirror means: the greater write mark, and the fewer writes left, with the first side's mark on a tie.
abbrev pub mirrored : Meaning → Meaning → Meaning
mirrored m n = record {
  width = m.width;
  cells = map (both_at m n) (range_with_len 0 (blocks_of m));
  left = min m.left n.left;
  left_mark = raised (cond (nat_lt n.left m.left) n.left_mark m.left_mark);
}

-- the same words
abbrev pub One : Content → Content → Type 0
One x y = (ws : List ℕ) × (x ≡ words ws) × (y ≡ words ws)

-- What building establishes and each call keeps: the sides have one shape and are marked alike, and a block that is marked holds the same words on both.
pub record Alike (m n : Meaning) : Type 0 where
  pub shape : Allowed m n
  pub marks : (b : ℕ) → b < blocks_of m → (cell_at m b).mark ≡ (cell_at n b).mark
  pub currents : (b : ℕ) → b < blocks_of m → 1 ≤ (cell_at m b).mark → One (cell_at m b).current (cell_at n b).current

-- it has one proof at most, as a fact that a type keeps must
Content-set : IsSet Content
Content-set = hlevel props

One-prop : (x y : Content) → IsProp (One x y)
One-prop x y u v =
    let e : u.0 ≡ v.0 = same u.0 v.0 (sym u.1 ∙ v.1) in
    λ i. (
      e i,
      is_prop→PathP (λ i. x ≡ words (e i)) (λ i. Content-set x (words (e i))) u.1 v.1 i,
      is_prop→PathP (λ i. y ≡ words (e i)) (λ i. Content-set y (words (e i))) u.2 v.2 i,
    )
  where
    same : (us vs : List ℕ) → words us ≡ words vs → us ≡ vs
    same us vs p = cc

pub Alike-prop : (m n : Meaning) → IsProp (Alike m n)
Alike-prop m n = hlevel (One-prop, props)

-- It keeps the rules of every device.
pub held_pick : (w : ℕ) (x y : Content) → Held w x → Held w y → Held w (pick x y)
held_pick w (words ws) y h k = h
held_pick w (damaged i) (words ws) h k = k
held_pick w (damaged i) (damaged j) h k = omega arith

lawful : (w : ℕ) (c d : Cell) → LawfulCell w c → LawfulCell w d → LawfulCell w (mirrored_cell c d)
lawful w c d l k = record {
  persisted = held_pick w c.persisted d.persisted l.persisted k.persisted;
  current = held_pick w c.current d.current l.current k.current;
  mark = omega (arith, l.mark, k.mark);
  clean = λ e. let p = l.clean (omega arith) in let q = k.clean (omega arith) in rw (p, q);
}

pub mirrored_blocks : (m n : Meaning) → blocks_of (mirrored m n) ≡ blocks_of m
mirrored_blocks m n = length-map-range_with_len (both_at m n) 0 (blocks_of m)

-- the two sides' cells at a block
module _ (m n : Meaning) (l : Lawful m) (k : Lawful n) (a : Alike m n) (b : ℕ) (h : b < blocks_of m) where
  pub first_lawful : LawfulCell m.width (cell_at m b)
  first_lawful = All-get_or (LawfulCell m.width) m.cells b no_cell h l.cells

  pub second_lawful : LawfulCell m.width (cell_at n b)
  second_lawful =
      subst (λ w. LawfulCell w (cell_at n b)) (sym a.shape.1)
      (All-get_or (LawfulCell n.width) n.cells b no_cell (omega (arith, a.shape.0)) k.cells)

pub fits : (m n : Meaning) → Lawful m → Lawful n → Alike m n → Lawful (mirrored m n)
fits m n l k a = record {
  limits = subst (λ k. Limits k m.width) (sym (mirrored_blocks m n)) l.limits;
  cells = all_table (LawfulCell m.width) (both_at m n) (blocks_of m) (λ b h.
      lawful m.width (cell_at m b) (cell_at n b) (first_lawful m n l k a b h) (second_lawful m n l k a b h));
  left = omega (arith, l.left);
  left_mark = omega arith;
}
