-- The volume by its trees; and without angles, by their shapes.
use Rattle.std.specs.Prelude.{ℕ, zero, suc, ◌+◌, ◌-◌, ◌*◌, Bool, cond, List, [], ◌∷◌, ◌++◌, length, Some, None, Option, ◌==◌, nat_lt}
use Rattle.std.specs.Option.{option_or}
use Rattle.device.specs.declared.LayerMark.{LayerMark}
use Rattle.model.specs.declared.refusal.Refusal.{Refusal}
use Rattle.model.specs.declared.refusal.Refusal.TheVariants.{Short, Worn, Last}
use Rattle.model.specs.Plain.{Maps, Ask, place, has, first, early}
use Rattle.model.specs.Plain.{Ask.create, Ask.clone, Ask.delete, Ask.put, Ask.remove, Ask.get, Ask.at, Ask.rows, Ask.summary, Ask.seal}
use Rattle.page.specs.Slot.{Root}
use Rattle.model.specs.TreeBlocks.{Tree, Form, Change, Change.begin, Change.puts, Change.takes, form, bare_tree, elem, rows_of, keys_of, reach, changed_on}

abbrev pub Trees : Type 0
Trees = List (Option (Root × Tree))

abbrev pub Forms : Type 0
Forms = List (Option (Root × Form))

pub record Model : Type 0 where
  pub working : Trees
  pub committed : Trees
  pub generation : ℕ
  pub blocks : ℕ
  pub left : ℕ
  pub layer : LayerMark

pub record Shapes : Type 0 where
  pub working : Forms
  pub committed : Forms
  pub generation : ℕ
  pub blocks : ℕ
  pub left : ℕ
  pub layer : LayerMark

abbrev pub forms : Trees → Forms
forms [] = []
forms (None ∷ t) = None ∷ forms t
forms (Some x ∷ t) = Some (x.0, form x.1) ∷ forms t

abbrev pub maps_of : Trees → Maps
maps_of [] = []
maps_of (None ∷ t) = None ∷ maps_of t
maps_of (Some x ∷ t) = Some (rows_of x.1) ∷ maps_of t

abbrev pub shape_of : Model → Shapes
shape_of M = record { working = forms M.working; committed = forms M.committed; generation = M.generation; blocks = M.blocks; left = M.left; layer = M.layer }

abbrev pub reaches : Forms → List ℕ
reaches [] = []
reaches (None ∷ t) = reaches t
reaches (Some x ∷ t) = reach x.1 ++ reaches t

-- k blocks from b on, without the used ones
abbrev pub unused : ℕ → ℕ → List ℕ → List ℕ
unused zero b used = []
unused (suc k) b used = cond (elem b used) (unused k (suc b) used) (b ∷ unused k (suc b) used)

abbrev pub used : Shapes → List ℕ
used S = reaches S.working ++ reaches S.committed

-- the tree blocks that no working or committed clone reaches
abbrev pub free : Shapes → List ℕ
free S = unused (S.blocks - 2) 2 (used S)

abbrev pub form_at : Shapes → ℕ → Form
form_at S n = elim (place S.working n) [ Some x ↦ x.1 | None ↦ form bare_tree ]

abbrev pub height : Shapes → ℕ → ℕ
height S n = elim (place S.working n) [ Some x ↦ x.0.0 | None ↦ 0 ]

abbrev pub holds : Shapes → ℕ → ℕ → Bool
holds S n s = elem s (keys_of (form_at S n))

-- the refusals of a change of clone n that needs k blocks, where `spare` are free and `left` writes are left
abbrev pub lacking : ℕ → ℕ → LayerMark → ℕ → ℕ → Option Refusal
lacking spare left layer n k = first ((nat_lt spare k, Short) ∷ (nat_lt left k, Worn (Some n) layer) ∷ [])

abbrev pub needs : Shapes → ℕ → ℕ → Option Refusal
needs S n k = lacking (length (free S)) S.left S.layer n k

-- the refusals 10 to 12
abbrev pub late : Shapes → Ask → Option Refusal
late S (create n) = needs S n 1
late S (put n s a) = needs S n (2 * height S n + 1)
late S (remove n s) = cond (holds S n s) (needs S n (2 * height S n + 1)) None
late S seal = first ((nat_lt S.left 1, Worn None S.layer) ∷ ((S.generation == 268435455), Last) ∷ [])
late S (clone f g) = None
late S (delete n) = None
late S (get n s) = None
late S (at n s) = None
late S (rows n s k) = None
late S (summary k n) = None

-- refusals depend on no angle that is put
abbrev pub refusal : Shapes → Ask → Option Refusal
refusal S q = option_or (early (has S.working) q) (late S q)

abbrev pub tree_of : Model → ℕ → Tree
tree_of M n = elim (place M.working n) [ Some x ↦ x.1 | None ↦ bare_tree ]

-- the tree that a deed starts from
abbrev pub source : Model → ℕ → Change ℕ → Tree
source M n begin = bare_tree
source M n (puts s a) = tree_of M n
source M n (takes s) = tree_of M n

-- the new tree, on the lowest free blocks
abbrev pub new_tree : Model → ℕ → Change ℕ → Tree
new_tree M n d = changed_on ℕ d (free (shape_of M)) (source M n d)
