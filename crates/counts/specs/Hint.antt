-- Where the lowest free block may be.
use Rattle.std.specs.Prelude.{◌≢◌, ℕ, ◌<◌, ◌≤◌, List, slice_index}

-- no tree block below n is free
pub record Taken (n : ℕ) (cs : List ℕ) : Type 0 where
  pub slots : 2 ≤ n
  pub all : (b : ℕ) → 2 ≤ b → b < n → 0 < slice_index cs b

-- but for block x
pub record TakenBut (x n : ℕ) (cs : List ℕ) : Type 0 where
  pub slots : 2 ≤ n
  pub others : (b : ℕ) → 2 ≤ b → b < n → b ≢ x → 0 < slice_index cs b
