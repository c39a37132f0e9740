-- What put leaves as it was, and what stands afterwards.
use Rattle.std.specs.Prelude.{◌≡◌, ℕ, ◌+◌, ◌*◌, ◌<◌, List, length, ◌≢◌, slice_index}
use Rattle.device.specs.Meaning.{blocks_of, cell_at}
use Rattle.tree.specs.Node.{Every}
use Rattle.tree.specs.Tree.{Pay}
use Rattle.page.specs.Block.{block_at}
use Rattle.counts.specs.Counts.{occ, Counted}
use Rattle.edit.specs.Plan.{kids, Stored}
use Rattle.counts.specs.Moves.{State}

-- the first n places of the grant are free, on the device, and apart
pub record Free (q : State) (gs : List ℕ) (n : ℕ) : Type 0 where
  pub count : (j : ℕ) → j < n → slice_index q.1 (slice_index gs j) ≡ 0
  pub on : (j : ℕ) → j < n → (slice_index gs j < blocks_of q.0) × (slice_index gs j < length q.1)
  pub apart : (i j : ℕ) → i < j → j < n → slice_index gs i ≢ slice_index gs j

-- b is none of the first n places
abbrev pub Outside : List ℕ → ℕ → ℕ → Type 0
Outside gs n b = (j : ℕ) → j < n → b ≢ slice_index gs j

-- blocks outside keep content and marks, and stay free
pub record Kept (gs : List ℕ) (n : ℕ) (q q' : State) : Type 0 where
  pub cells : (b : ℕ) → Outside gs n b → cell_at q'.0 b ≡ cell_at q.0 b
  pub free : (b : ℕ) → Outside gs n b → slice_index q.1 b ≡ 0 → slice_index q'.1 b ≡ 0

-- the entries us stand in the store, and references to them have taken the place of those before
pub record Stands (gs : List ℕ) (l : ℕ) (h : ℕ → ℕ) (q q' : State) (us : List (ℕ × Pay ℕ ℕ l)) : Type 0 where
  pub stored : Every (Stored (block_at q'.0) l) us
  pub counted : Counted (block_at q'.0) q'.1 (λ b. occ b (kids l us) + h b)
  pub kept : Kept gs (2 * l) q q'
