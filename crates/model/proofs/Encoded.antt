-- The words of blocks and slots are as many as a block has, of 32 bits each.
use Rattle.std.proofs.Common.{◌≡◌, ℕ, zero, suc, ◌+◌, ◌-◌, ◌*◌, ◌^◌, ◌<◌, ◌≤◌, Bool, true, false, cond, eqb, List, [], ◌∷◌, map, length, get_or, replicate, Some, None, arith}
use Rattle.std.specs.List.{AllByRecursion}
use Rattle.std.proofs.ByRecursion.{All-append}
use Rattle.device.specs.Meaning.{Words}
use Rattle.page.specs.Block.{Block, flat, value_kind, encode, Layout}
use Rattle.page.specs.Slot.{Root, Table, clone_word, slot_words}
use Rattle.page.proofs.Exact.{encode_length}
use Rattle.page.proofs.Slots.{slot_length}
use Rattle.device.specs.Meaning.{Content}
use Rattle.model.specs.TreeBlocks.{Good, tree_at}
use Rattle.model.specs.World.{sizes}
use Rattle.model.proofs.Frames.{Goods}
use Rattle.model.proofs.Grants.{good_low, sizes_parts}

abbrev Short : ℕ → Type 0
Short x = x < 2 ^ 32

flat_short : (kind : ℕ) → kind ≤ 5 → (es : List (ℕ × ℕ)) → ((i : ℕ) → i < length es → ((get_or es i (0, 0)).0 < 268435456) × ((get_or es i (0, 0)).1 < 268435456)) → AllByRecursion Short (flat kind es)
flat_short kind h [] s = tt
flat_short kind h (e ∷ es) s = let p = s 0 (omega arith) in (omega (arith, p.0), (omega (arith, p.1), flat_short kind h es (λ i l. s (suc i) (omega arith))))

zeros_short : (n : ℕ) → AllByRecursion Short (replicate n 0)
zeros_short zero = tt
zeros_short (suc n) = (omega arith, zeros_short n)

header_short : (b : Bool) (level len : ℕ) → level < 5 → len ≤ 15 → cond b (1 * 2 ^ 28 + len) (2 * 2 ^ 28 + (level * 256 + len)) < 2 ^ 32
header_short true level len h k = omega arith
header_short false level len h k = omega arith

kind_few : (b : Bool) → cond b 4 5 ≤ 5
kind_few true = omega arith
kind_few false = omega arith

pub encoded : (w : ℕ) (n : Block) → Layout w n → Words w (encode w n)
encoded w n y = (
  encode_length w n y,
  (
    header_short (eqb n.level 0) n.level (length n.entries) y.low y.few,
    (
      omega arith,
      All-append Short (flat (value_kind n.level) n.entries) (replicate (w - 2 - 2 * length n.entries) 0)
          (flat_short (value_kind n.level) (kind_few (eqb n.level 0)) n.entries y.small) (zeros_short (w - 2 - 2 * length n.entries)),
    ),
  ),
)

root_short : (n : ℕ) (c : ℕ → Content) (r : Root) → n ≤ 4096 → Good n c r → Short (clone_word (Some r))
unfolding tree_at
root_short n c r k g = let i = g.fit.inside.0.1 in omega (arith, good_low n c r g, i)

roots_short : (n : ℕ) (c : ℕ → Content) (t : Table) → n ≤ 4096 → Goods n c t → AllByRecursion Short (map clone_word t)
roots_short n c [] k g = tt
roots_short n c (None ∷ t) k g = (omega arith, roots_short n c t k g)
roots_short n c (Some r ∷ t) k g = (root_short n c r k g.0, roots_short n c t k g.1)

pub slot_encoded : (n w g : ℕ) (c : ℕ → Content) (t : Table) → sizes n w ≡ true → length t ≡ 24 → Goods n c t → g ≤ 268435455 → Words w (slot_words w g t)
slot_encoded n w g c t z l G h =
    let p = sizes_parts n w z in (
      slot_length w g t p.2 l,
      (omega arith, All-append Short (map clone_word t) (replicate (w - 25) 0) (roots_short n c t p.1 G) (zeros_short (w - 25))),
    )
