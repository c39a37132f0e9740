-- A tree of two leaves that was written block by block.
use Rattle.std.proofs.Common.{◌≡◌, ℕ, ◌+◌, ◌<◌, ◌≤◌, List, [], ◌∷◌, Some, Option, refl, ap, ◌∙◌, ap₂, length-set, arith, rules}
use Rattle.device.specs.Meaning.{Meaning, Cell, blocks_of, current_at, written}
use Rattle.device.proofs.Choices.{write_at, write_off}
use Rattle.page.specs.Block.{Block, block_in, encode}
use Rattle.page.specs.View.{view, entries}
use Rattle.page.specs.declared.page.Page.{Page}
use Rattle.page.proofs.Exact.{back}
use Rattle.page.proofs.Pages.{laid_out}
use Rattle.model.specs.TreeBlocks.{tree_at, GoodOn}

-- what the device is for the blocks that are written next
pub record Blank (m : Meaning) : Type 0 where
  pub wide : 32 ≤ m.width
  pub blocks : blocks_of m ≡ 16
  pub endless : m.left ≡ 4294967295

abbrev pub after : Meaning → ℕ → Block → Meaning
after m x n = written m x (encode m.width n)

pub blank_after : (m : Meaning) (x : ℕ) (n : Block) → Blank m → Blank (after m x n)
blank_after m x n b = record {
  wide = b.wide;
  blocks = length-set m.cells x _ ∙ b.blocks;
  endless = rw b.endless refl;
}

pub there : (m : Meaning) (x : ℕ) (p : Page) → Blank m → x < 16 → p.level < 5 → block_in (current_at (after m x (view p)) x) ≡ Some (view p)
there m x p b h k =
    ap (λ (z : Cell). block_in z.current) (write_at m x (encode m.width (view p)) (omega (arith, b.blocks))) ∙ back m.width (view p) (laid_out p m.width b.wide k)

pub elsewhere : (m : Meaning) (x y : ℕ) (n : Block) → (y ≡ x → ⊥) → block_in (current_at (after m x n) y) ≡ block_in (current_at m y)
elsewhere m x y n h = ap (λ (z : Cell). block_in z.current) (write_off m x y (encode m.width n) h)

abbrev pub seven : ℕ → ℕ → List (ℕ × ℕ)
seven s a = (s, a) ∷ (s + 100, a) ∷ (s + 200, a) ∷ (s + 300, a) ∷ (s + 400, a) ∷ (s + 500, a) ∷ (s + 600, a) ∷ []

pub good : (m : Meaning) → blocks_of m ≡ 16 → block_in (current_at m 2) ≡ Some (record { level = 0; entries = seven 100 9500 }) → block_in (current_at m 3) ≡ Some (record { level = 0; entries = seven 1100 8900 })
    → block_in (current_at m 4) ≡ Some (record { level = 1; entries = (0, 2) ∷ (1000, 3) ∷ [] }) → GoodOn m (2, 4)
unfolding tree_at
good m n a b c = record {
  height = omega arith;
  stored = rw (c, a, b) (search rules);
  fit = record { laid = rw (c, a, b) (search rules); inside = rw (c, a, b, n) (search rules); angles = rw (c, a, b) (search rules) };
}

pub planted : (m : Meaning) (p q r : Page) → Blank m → p.level ≡ 0 → entries p ≡ seven 100 9500 → q.level ≡ 0 → entries q ≡ seven 1100 8900 → r.level ≡ 1 → entries r ≡ (0, 2) ∷ (1000, 3) ∷ []
    → GoodOn (after (after (after m 2 (view p)) 3 (view q)) 4 (view r)) (2, 4)
planted m p q r b pl pe ql qe rl re =
    let m₁ = after m 2 (view p) in
    let m₂ = after m₁ 3 (view q) in
    let m₃ = after m₂ 4 (view r) in
    let b₁ = blank_after m 2 (view p) b in
    let b₂ = blank_after m₁ 3 (view q) b₁ in
    let b₃ = blank_after m₂ 4 (view r) b₂ in
    good m₃ b₃.blocks
    (elsewhere m₂ 4 2 (view r) (λ e. omega (arith, e)) ∙ elsewhere m₁ 3 2 (view q) (λ e. omega (arith, e)) ∙ there m 2 p b (omega arith) (omega (arith, pl)) ∙ shown p 0 (seven 100 9500) pl pe)
    (elsewhere m₂ 4 3 (view r) (λ e. omega (arith, e)) ∙ there m₁ 3 q b₁ (omega arith) (omega (arith, ql)) ∙ shown q 0 (seven 1100 8900) ql qe)
    (there m₂ 4 r b₂ (omega arith) (omega (arith, rl)) ∙ shown r 1 ((0, 2) ∷ (1000, 3) ∷ []) rl re)
  where
    shown : (p : Page) (l : ℕ) (es : List (ℕ × ℕ)) → p.level ≡ l → entries p ≡ es → ◌≡◌ {A = Option Block} (Some (view p)) (Some (record { level = l; entries = es }))
    shown p l es a e = ap₂ (λ (n : ℕ) (xs : List (ℕ × ℕ)). Some (record { level = n; entries = xs })) a e
