-- Put on numbered blocks: the entries that result, and the moves that make them.
use Rattle.std.specs.Prelude.{◌≡◌, ℕ, zero, suc, ◌+◌, ◌*◌, cond, List, [], ◌∷◌, ◌++◌, length, take, drop, Some, Option, ◌==◌, nat_lt, slice_index}
use Rattle.tree.specs.Node.{ins, at, ahead, first, map_e}
use Rattle.tree.specs.Tree.{Pay, Tree, Root, All, only}
use Rattle.page.specs.Block.{Block, kids_of}
use Rattle.counts.specs.Moves.{Move, opening, linking}

-- rows, or separators with the children's numbers
abbrev pub shallow : (l : ℕ) → List (ℕ × Pay ℕ ℕ l) → List (ℕ × ℕ)
shallow zero es = es
shallow (suc l) es = map_e (λ c. c.0) es

abbrev pub page : ℕ → List (ℕ × ℕ) → Block
page l es = record { level = l; entries = es }

abbrev pub node_of : (l : ℕ) → List (ℕ × Pay ℕ ℕ l) → Block
node_of l es = page l (shallow l es)

abbrev pub kids : (l : ℕ) → List (ℕ × Pay ℕ ℕ l) → List ℕ
kids l es = kids_of (Some (node_of l es))

-- each block of the tree stands in the store
abbrev pub Stored : (ℕ → Option Block) → (l : ℕ) → Pay ℕ ℕ l → Type 0
Stored g l p = All ℕ ℕ (λ i u. g u.0 ≡ Some (node_of i u.1)) l p

-- One child: the part that s belongs to, and the parts that stand for the child once that part is made anew.
module _ {X : Type 0} (s : ℕ) where
  abbrev pub chosen : List (ℕ × X) → List (ℕ × X)
  chosen es = cond (length es == 15) (cond (nat_lt s (first (drop 7 es))) (take 7 es) (drop 7 es)) es

  abbrev pub unchosen : List (ℕ × X) → List (ℕ × X)
  unchosen es = cond (length es == 15) (cond (nat_lt s (first (drop 7 es))) (drop 7 es) (take 7 es)) []

  abbrev pub parted : ℕ → List (ℕ × X) → List (ℕ × X) → List (ℕ × List (ℕ × X))
  parted k es made =
      cond (length es == 15)
      (cond (nat_lt s (first (drop 7 es))) ((k, made) ∷ (first (drop 7 es), drop 7 es) ∷ []) ((k, take 7 es) ∷ (first (drop 7 es), made) ∷ []))
      ((k, made) ∷ [])

-- the left block, and the right one
abbrev pub placed : {X : Type 0} → ℕ → ℕ → List (ℕ × X) → List (ℕ × (ℕ × X))
placed x y [] = []
placed x y (e ∷ r) = (e.0, (x, e.1)) ∷ placed y y r

abbrev pub links : ℕ → List (ℕ × (ℕ × List (ℕ × ℕ))) → List Move
links l [] = []
links l (e ∷ r) = linking e.1.0 (page l e.1.1) ∷ links l r

abbrev pub down : {X : Type 0} → ℕ → (ℕ → X → List Move) → List (ℕ × X) → List Move
down s f [] = []
down s f (e ∷ r) = cond (ahead s r) (f e.0 e.1) (down s f r)

-- new blocks of level l go to the places 2l and 2l + 1 of the grant gs
module _ (gs : List ℕ) (s a : ℕ) where
  abbrev pub kid_n : (l : ℕ) → (List (ℕ × Pay ℕ ℕ l) → List (ℕ × Pay ℕ ℕ l)) → ℕ → Tree ℕ ℕ l → List (ℕ × Tree ℕ ℕ l)
  kid_n l g k t = placed (slice_index gs (2 * l)) (slice_index gs (2 * l + 1)) (parted s k t.1 (g (chosen s t.1)))

  abbrev pub put_n : (l : ℕ) → List (ℕ × Pay ℕ ℕ l) → List (ℕ × Pay ℕ ℕ l)
  put_n zero es = ins s a es
  put_n (suc l) es = at s (kid_n l (put_n l)) es

  abbrev pub kid_moves : (l : ℕ) → (List (ℕ × Pay ℕ ℕ l) → List Move) → ℕ → Tree ℕ ℕ l → List Move
  kid_moves l ms k t = opening t.0 ∷ (ms (chosen s t.1) ++ links l (map_e (λ c. (c.0, shallow l c.1)) (kid_n l (put_n l) k t)))

  abbrev pub moves : (l : ℕ) → List (ℕ × Pay ℕ ℕ l) → List Move
  moves zero es = []
  moves (suc l) es = down s (kid_moves l (moves l)) es

  -- the whole tree, as the one child of a block above it
  abbrev pub put_root_n : Root ℕ ℕ → Root ℕ ℕ
  put_root_n r = only ℕ ℕ r.0 (slice_index gs (2 * suc r.0)) (put_n (suc r.0) ((0, r.1) ∷ []))
