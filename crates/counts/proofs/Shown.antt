-- What a device shows of a block is what it holds.
use Rattle.std.proofs.Common.{◌≡◌, ℕ, ap, ◌∙◌}
use Rattle.device.specs.Meaning.{Meaning, Shown, Content, shown_of}
use Rattle.device.specs.Showing.{content_shown}
use Rattle.page.specs.Block.{block_in, block_at, shown_block}

pub shown_is : (m : Meaning) (s : Shown) (b : ℕ) → s ≡ shown_of m → shown_block s b ≡ block_at m b
unfolding block_at
shown_is m s b e = ap (λ (x : Shown). shown_block x b) e ∙ ap (λ (f : ℕ → Content). block_in (f b)) (content_shown m)
