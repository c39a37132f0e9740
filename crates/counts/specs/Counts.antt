-- Counts of references: the local equation.
use Rattle.std.specs.Prelude.{◌≡◌, ℕ, zero, suc, ◌+◌, ◌-◌, ◌<◌, ◌≤◌, true, cond, List, [], ◌∷◌, length, is_some, Option, ◌==◌, nat_lt, slice_index, slice_set}
use Rattle.page.specs.Block.{Block, kids_of, level_of}

abbrev pub one : ℕ → ℕ → ℕ
one x b = cond (b == x) 1 0

-- how often b stands in a list
abbrev pub occ : ℕ → List ℕ → ℕ
occ b [] = 0
occ b (x ∷ xs) = one x b + occ b xs

-- n, if a block with this count is alive
abbrev pub live : ℕ → ℕ → ℕ
live zero n = 0
live (suc c) n = n

-- how often b is a child of an alive block
abbrev pub parents : (ℕ → List ℕ) → List ℕ → ℕ → ℕ
parents kids [] b = 0
parents kids (c ∷ cs) b = live c (occ b (kids 0)) + parents (λ j. kids (suc j)) cs b

-- The counts are right, if the references from outside the blocks are h.
pub record Counted (g : ℕ → Option Block) (cs : List ℕ) (h : ℕ → ℕ) : Type 0 where
  pub eqn : (b : ℕ) → slice_index cs b ≡ parents (λ x. kids_of (g x)) cs b + h b
  pub nodes : (x : ℕ) → 0 < slice_index cs x → (is_some (g x) ≡ true) × (level_of (g x) < 5)
  pub lower : (x y : ℕ) → 0 < slice_index cs x → 0 < occ y (kids_of (g x)) → level_of (g y) + 1 ≡ level_of (g x)

-- what a place reaches
pub data Reached (g : ℕ → Option Block) (h : ℕ → ℕ) : ℕ → Type 0 where
  root : {b : ℕ} → 0 < h b → Reached g h b
  child : {x b : ℕ} → Reached g h x → 0 < occ b (kids_of (g x)) → Reached g h b

-- with the equation, a block is alive exactly when a place reaches it
abbrev pub AliveIsReached : Type 0
AliveIsReached = (g : ℕ → Option Block) (cs : List ℕ) (h : ℕ → ℕ) → Counted g cs h → (b : ℕ) → (0 < slice_index cs b → Reached g h b) × (Reached g h b → 0 < slice_index cs b)

-- one reference more to each block of a list
abbrev pub add_all : List ℕ → List ℕ → List ℕ
add_all [] cs = cs
add_all (k ∷ ks) cs = add_all ks (slice_set cs k (slice_index cs k + 1))

-- counts that stay small enough while references to ks are added
pub record Roomy (ks cs : List ℕ) : Type 0 where
  pub few : length ks ≤ 15
  pub within : (i : ℕ) → i < length ks → slice_index ks i < length cs
  pub small : (b : ℕ) → slice_index cs b ≤ 65000

-- a reference to x given up for references to its children ks
abbrev pub opened : List ℕ → ℕ → List ℕ → List ℕ
opened ks x cs = cond (slice_index cs x == 1) (slice_set cs x 0) (slice_set (add_all ks cs) x (slice_index (add_all ks cs) x - 1))

-- of the k blocks from b on, those that nothing refers to
abbrev pub spare : ℕ → ℕ → List ℕ → List ℕ
spare zero b cs = []
spare (suc k) b cs = cond (nat_lt 0 (slice_index cs b)) (spare k (suc b) cs) (b ∷ spare k (suc b) cs)

-- the free tree blocks, ascending; blocks 0 and 1 are slots
abbrev pub free_blocks : List ℕ → List ℕ
free_blocks cs = spare (length cs - 2) 2 cs
