-- A block that is written and linked.
use Rattle.std.proofs.Common.{◌≡◌, ℕ, ◌+◌, ◌<◌, true, get_or, is_some, Some, Option, sym, refl, ap, ◌∙◌, subst}
use Rattle.std.proofs.lemmas.List.{get_or-set_same, get_or-set_other}
use Rattle.device.specs.Meaning.{Meaning, Cell, blocks_of, no_cell, written, written_cell}
use Rattle.page.specs.Block.{Block, block_in, block_at, kids_of, level_of, encode, Layout}
use Rattle.page.proofs.Exact.{back}
use Rattle.counts.specs.Counts.{occ, Counted}
use Rattle.counts.specs.Keeping.{LinkKeeps}
use Rattle.counts.proofs.Steps.{link_in}

module _ (m : Meaning) (x : ℕ) (n : Block) (laid : Layout m.width n) (on : x < blocks_of m) where
  abbrev after : Meaning
  after = written m x (encode m.width n)

  there : block_at after x ≡ Some n
  unfolding block_at
  there =
      ap (λ (k : Cell). block_in k.current) (get_or-set_same m.cells x (written_cell (encode m.width n) (get_or m.cells x no_cell)) no_cell on)
      ∙ back m.width n laid

  elsewhere : (b : ℕ) → (b ≡ x → ⊥) → block_at after b ≡ block_at m b
  unfolding block_at
  elsewhere b ne =
      ap (λ (k : Cell). block_in k.current) (get_or-set_other m.cells x b (written_cell (encode m.width n) (get_or m.cells x no_cell)) no_cell ne)

pub link_keeps : LinkKeeps
link_keeps m cs h x n laid on within free low c =
    let at_x = there m x n laid on in
    link_in (block_at m) (block_at (after m x n laid on)) cs h x (elsewhere m x n laid on) free within
    (subst (λ (o : Option Block). (is_some o ≡ true) × (level_of o < 5)) (sym at_x) (refl, laid.low))
    (λ y p. low y (subst (λ (o : Option Block). 0 < occ y (kids_of o)) at_x p) ∙ ap level_of (sym at_x))
    (subst (λ (o : Option Block). Counted (block_at m) cs (λ b. occ b (kids_of o) + h b)) (sym at_x) c)
