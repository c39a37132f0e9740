-- Two piles of the same layers in two runs, and cuts of their bottoms by the same choices.
use Rattle.std.specs.Prelude.{◌≡◌, ℕ, zero, suc, ◌<◌, ◌≤◌, ◌⊎◌, Bool, true, false, List, [], ◌∷◌, length}
use Rattle.device.specs.declared.Layer.TheVariants.{Memory}
use Rattle.device.specs.Meaning.{Meaning, Content, Content.words, Content.damaged, own, Cell, cell_at, blocks_of}
use Rattle.device.specs.Cuts.{Op, Op.write, Op.flush, Choice, Cutting, keeps_persisted, remains, cut, Fits}
use Rattle.check_layer.specs.Checked.{with_check}
use Rattle.mirror.specs.Mirrored.{pick, mirrored_cell}
use Rattle.model.specs.TwoRuns.{SameCut}
use Rattle.piles.specs.Piles.{Pile, Pile.bottom, Pile.check, Pile.quota, Pile.mirror, shows, Built, PerBottom, on, part, Accepts, anew, counted}

-- words as they stand below n checks
abbrev pub through : ℕ → List ℕ → List ℕ
through zero ws = ws
through (suc n) ws = with_check (through n ws)

-- What the two runs hold at one place below n checks: the same, or in each run words that were written from above the checks.
-- So either both or neither are damaged, there and as each layer above shows them.
abbrev pub Kin : ℕ → ℕ → Content → Content → Type 0
Kin w n x y =
    (x ≡ y)
    ⊎ ((us : List ℕ) × (vs : List ℕ) × (length (through n us) ≡ w) × (length (through n vs) ≡ w) × (x ≡ words (through n us)) × (y ≡ words (through n vs)))

pub record KinCell (w n : ℕ) (c d : Cell) : Type 0 where
  pub mark : c.mark ≡ d.mark
  pub persisted : Kin w n c.persisted d.persisted
  pub current : Kin w n c.current d.current

-- the same of block b of a device
pub record KinBlock (b n : ℕ) (m m₂ : Meaning) : Type 0 where
  pub width : m.width ≡ m₂.width
  pub blocks : blocks_of m ≡ blocks_of m₂
  pub cell : KinCell m.width n (cell_at m b) (cell_at m₂ b)

-- the same layers, and of block b the same of each bottom
abbrev pub KinPile : ℕ → ℕ → Pile → Pile → Type 0
KinPile b n (bottom m) (bottom m₂) = KinBlock b n m m₂
KinPile b n (check p) (check q) = KinPile b (suc n) p q
KinPile b n (quota i p) (quota j q) = (i ≡ j) × KinPile b n p q
KinPile b n (mirror p q) (mirror r s) = KinPile b n p r × KinPile b n q s
KinPile b n p q = ⊥

-- one call of both runs: both write block b, or neither does, or both flush
abbrev pub SameCall : ℕ → ℕ → Op → Op → Type 0
SameCall b n (write x us) (write y vs) =
    ((x ≡ b) × (y ≡ b) × ((ws : List ℕ) × (us ≡ through n ws)) × ((ws : List ℕ) × (vs ≡ through n ws)))
    ⊎ ((x ≡ b → ⊥) × (y ≡ b → ⊥))
SameCall b n flush flush = Unit
SameCall b n o o₂ = ⊥

-- the power fails, and of each bottom is left what these choices leave
abbrev pub cut_bottoms : PerBottom Cutting → Pile → Pile
cut_bottoms K (bottom m) = bottom (cut (K []) m)
cut_bottoms K (check p) = check (cut_bottoms K p)
cut_bottoms K (quota n p) = quota n (cut_bottoms K p)
cut_bottoms K (mirror p q) = mirror (cut_bottoms (on false K) p) (cut_bottoms (on true K) q)

-- choices that the bottoms can hold
abbrev pub Fitting : PerBottom Cutting → Pile → Type 0
Fitting K (bottom m) = ((b : ℕ) → Fits m.width ((K []).choice b)) × ((K []).left ≤ 4294967295) × ((K []).left_mark.depth ≤ 255)
Fitting K (check p) = Fitting K p
Fitting K (quota n p) = Fitting K p
Fitting K (mirror p q) = Fitting (on false K) p × Fitting (on true K) q

-- in both runs each bottom is cut by the same choices at the slots, and as many writes are left of it; at all other blocks the choices may differ
pub record SameChoices (κ κ₂ : Cutting) : Type 0 where
  pub slots : (b : ℕ) → b < 2 → κ.choice b ≡ κ₂.choice b
  pub left : κ.left ≡ κ₂.left
  pub left_mark : κ.left_mark ≡ κ₂.left_mark

abbrev pub TwinChoices : PerBottom Cutting → PerBottom Cutting → Pile → Pile → Type 0
TwinChoices K K₂ p p₂ = Fitting K p × Fitting K₂ p₂ × ((s : List Bool) → SameChoices (K s) (K₂ s))

-- of both slots the two runs' bottoms hold the same, or what was written there from above
abbrev pub Slots : Pile → Pile → Type 0
Slots p p₂ = (b : ℕ) → b < 2 → KinPile b 0 p p₂

-- the two runs' cuts n of m are one cut in the sense of the law of two runs
pub record OneCut (m m₂ n n₂ : Meaning) : Type 0 where
  pub first : Cutting
  pub second : Cutting
  pub first_cut : n ≡ cut first m
  pub second_cut : n₂ ≡ cut second m₂
  pub same : SameCut first second

-- The same choices at the bottoms come out at the top as one cut; and of the slots the bottoms hold the same as before.
abbrev pub SameRises : Type 0
SameRises =
    (p p₂ : Pile) (o o₂ : Op) (d : PerBottom Bool) (K K₂ : PerBottom Cutting)
    → Built p → Built p₂ → 2 ≤ blocks_of (shows p) → Slots p p₂
    → Accepts (shows p) o → Accepts (shows p₂) o₂ → ((b : ℕ) → b < 2 → SameCall b 0 o o₂)
    → TwinChoices K K₂ p p₂
    → let q = anew (cut_bottoms K (part o d p)) in
    let q₂ = anew (cut_bottoms K₂ (part o₂ d p₂)) in
    OneCut (counted o d p) (counted o₂ d p₂) (shows q) (shows q₂) × Slots q q₂

-- a block written once: what was persisted, and the words 2
abbrev pub one_write : Content → Cell
one_write x = record { persisted = x; current = words (2 ∷ []); mark = 1 }

-- Without it the law of two runs has no such cut: in both runs the first side of a mirror keeps the old content and the second the
-- new. What the first side kept is damaged in one run, which shows the new content, and not in the other, which shows the old.
abbrev pub DamageCounts : Type 0
DamageCounts =
    let spoilt = damaged (own Memory) in
    let kept = words (1 ∷ []) in
    (k k₂ : Choice) → keeps_persisted k ≡ keeps_persisted k₂
    → pick spoilt (words (2 ∷ [])) ≡ remains 1 k (mirrored_cell (one_write spoilt) (one_write kept))
    → pick kept (words (2 ∷ [])) ≡ remains 1 k₂ (mirrored_cell (one_write kept) (one_write kept))
    → ⊥
