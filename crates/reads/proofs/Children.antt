-- A block of a sound tree and its children.
use Rattle.std.proofs.Common.{◌≡◌, ℕ, zero, suc, ◌<◌, ◌≤◌, List, [], ◌∷◌, ◌++◌, length, get_or, take, drop, Some, sym, refl, ap, ◌∙◌, subst, ap₂, not-suc-le-zero, arith, append_assoc, append-nil, take-append-drop, length-append}
use Rattle.std.proofs.ByRecursion.{All-append}
use Rattle.device.specs.Meaning.{Content}
use Rattle.page.specs.Block.{Block, block_in}
use Rattle.tree.specs.Node.{flat, Every, map_e}
use Rattle.tree.specs.Tree.{Rows, Pay, All, Cell, Span}
use Rattle.tree.proofs.Puts.{enough, cell_asc, span_asc}
use Rattle.tree.proofs.Over.{map_length, map-append}
use Rattle.tree.proofs.Segs.{flat_append}
use Rattle.tree.proofs.Removes.{cell_le}
use Rattle.model.specs.TreeBlocks.{entries_in, pay_at, payload, block_of, Each}
use Rattle.model.proofs.Frames.{each_map}
use Rattle.reads.specs.Sound.{Valid, held, rows_in, rows_at, Sound, FullAt}
use Rattle.reads.proofs.Lists.{each_left, each_right, asc_below, asc_above}
use Rattle.model.proofs.Walks.{payload_pay}

module _ (c : ℕ → Content) where
  payloads : (l : ℕ) (es : List (ℕ × ℕ)) → map_e (payload l) (held c l es) ≡ es
  payloads l [] = refl
  payloads l (e ∷ r) = ap₂ (λ (x : ℕ) (y : List (ℕ × ℕ)). (e.0, x) ∷ y) (payload_pay 0 c l e.1) (payloads l r)

  -- the entries of block x
  abbrev pub inside : ℕ → List (ℕ × ℕ)
  inside x = entries_in (block_in (c x))

  abbrev pub Stands : (l : ℕ) → Pay ℕ ℕ l → Type 0
  Stands l p = All ℕ ℕ (λ i u. block_in (c u.0) ≡ Some (block_of i u)) l p

  abbrev pub block : ℕ → ℕ → Block
  block l x = record { level = l; entries = inside x }

  pub stands_block : (l x : ℕ) → Stands (suc l) (pay_at c (suc l) x) → block_in (c x) ≡ Some (block l x)
  stands_block l x a = a.0 ∙ ap (λ (y : List (ℕ × ℕ)). Some (record { level = l; entries = y })) (payloads l (inside x))

  pub length_held : (l : ℕ) (es : List (ℕ × ℕ)) → length (held c l es) ≡ length es
  length_held l es = map_length (pay_at c l) es

  -- the child of an entry
  pub record Kid (l x : ℕ) : Type 0 where
    pub full : FullAt c x
    pub stands : block_in (c x) ≡ Some (block l x)
    pub rows : rows_at c x ≡ rows_in c l (inside x)
    pub some : 1 ≤ length (inside x)
    pub sound : Sound c l (inside x)

  kid : (l k m x : ℕ) → Stands (suc l) (pay_at c (suc l) x) → Cell ℕ ℕ (suc l) k m (pay_at c (suc l) x) → Each Valid (rows_in c l (inside x)) → Kid l x
  kid l k m x a p v =
      let e : length (held c l (inside x)) ≡ length (inside x) = length_held l (inside x) in
      let st = stands_block l x a in
      let so : Sound c l (inside x) = record { low = k; high = m; below = a.1; span = p.0; enough = enough l (length (inside x)) (omega (arith, p.1, e)); valid = v } in
      record {
        full = record { sound = record { block = block l x; stands = st; sound = so }; some = omega (arith, p.1, e) };
        stands = st;
        rows = rw st refl;
        some = omega (arith, p.1, e);
        sound = so;
      }

  -- the key and the child of the entry at a place
  abbrev pub key : List (ℕ × ℕ) → ℕ → ℕ
  key es i = (get_or es i (0, 0)).0

  abbrev pub to : List (ℕ × ℕ) → ℕ → ℕ
  to es i = (get_or es i (0, 0)).1

  entry : (l lo hi : ℕ) (es : List (ℕ × ℕ)) (i : ℕ) → i < length es → Every (Stands (suc l)) (held c (suc l) es) → Span ℕ ℕ (suc l) lo hi (held c (suc l) es)
      → Stands (suc l) (pay_at c (suc l) (to es i)) × ((mid : ℕ) × Cell ℕ ℕ (suc l) (key es i) mid (pay_at c (suc l) (to es i)))
  entry l lo hi [] i h a p = absurd (not-suc-le-zero h)
  entry l lo hi (e ∷ r) zero h a p = (a.0, (p.1.0, p.1.1))
  entry l lo hi (e ∷ r) (suc i) h a p = entry l p.1.0 hi r i (omega arith) a.1 p.1.2

  -- the rows before a child, its own, and those after it
  pub split : (l : ℕ) (es : List (ℕ × ℕ)) (i : ℕ) → i < length es → rows_in c (suc l) es ≡ rows_in c (suc l) (take i es) ++ (rows_in c l (inside (to es i)) ++ rows_in c (suc l) (drop (suc i) es))
  split l [] i h = absurd (not-suc-le-zero h)
  split l (e ∷ r) zero h = refl
  split l (e ∷ r) (suc i) h =
      ap (λ (z : List (ℕ × ℕ)). rows_in c l (inside e.1) ++ z) (split l r i (omega arith))
      ∙ sym (append_assoc (rows_in c l (inside e.1)) (rows_in c (suc l) (take i r)) (rows_in c l (inside (to r i)) ++ rows_in c (suc l) (drop (suc i) r)))

  pub rows_more : (l : ℕ) (es : List (ℕ × ℕ)) (i : ℕ) → i < length es → rows_in c (suc l) (take (suc i) es) ≡ rows_in c (suc l) (take i es) ++ rows_in c l (inside (to es i))
  rows_more l [] i h = absurd (not-suc-le-zero h)
  rows_more l (e ∷ r) zero h = append-nil (rows_in c l (inside e.1))
  rows_more l (e ∷ r) (suc i) h =
      ap (λ (z : List (ℕ × ℕ)). rows_in c l (inside e.1) ++ z) (rows_more l r i (omega arith)) ∙ sym (append_assoc (rows_in c l (inside e.1)) (rows_in c (suc l) (take i r)) (rows_in c l (inside (to r i))))

  pub child : (l : ℕ) (es : List (ℕ × ℕ)) (i : ℕ) → i < length es → Sound c (suc l) es → Kid l (to es i)
  child l es i h p =
      let q = entry l p.low p.high es i h p.below p.span in
      let v : Each Valid (rows_in c (suc l) (take i es) ++ (rows_in c l (inside (to es i)) ++ rows_in c (suc l) (drop (suc i) es))) = subst (Each Valid) (split l es i h) p.valid in
      kid l (key es i) q.1.0 (to es i) q.0 q.1.1
      (each_left Valid (rows_in c l (inside (to es i))) (rows_in c (suc l) (drop (suc i) es)) (each_right Valid (rows_in c (suc l) (take i es)) _ v))

  above_low : (l lo hi : ℕ) (es : List (ℕ × ℕ)) (i : ℕ) → i < length es → Span ℕ ℕ (suc l) lo hi (held c (suc l) es) → lo ≤ key es i
  above_low l lo hi [] i h p = absurd (not-suc-le-zero h)
  above_low l lo hi (e ∷ r) zero h p = omega (arith, p.0)
  above_low l lo hi (e ∷ r) (suc i) h p = omega (arith, p.0, cell_le ℕ ℕ (suc l) e.0 p.1.0 (pay_at c (suc l) e.1) p.1.1, above_low l p.1.0 hi r i (omega arith) p.1.2)

  before : (l lo hi s : ℕ) (es : List (ℕ × ℕ)) (i : ℕ) → i < length es → key es i ≤ s → Span ℕ ℕ (suc l) lo hi (held c (suc l) es) → Each (λ (r : ℕ × ℕ). r.0 < s) (rows_in c (suc l) (take i es))
  before l lo hi s [] i h k p = absurd (not-suc-le-zero h)
  before l lo hi s (e ∷ r) zero h k p = tt
  before l lo hi s (e ∷ r) (suc i) h k p =
      All-append _ (rows_in c l (inside e.1)) (rows_in c (suc l) (take i r))
      (each_map _ _ (λ x q. omega (arith, q, above_low l p.1.0 hi r i (omega arith) p.1.2)) (rows_in c l (inside e.1)) (asc_below e.0 p.1.0 (rows_in c l (inside e.1)) (cell_asc ℕ ℕ (suc l) e.0 p.1.0 (pay_at c (suc l) e.1) p.1.1)))
      (before l p.1.0 hi s r i (omega arith) k p.1.2)

  after : (l lo hi s : ℕ) (es : List (ℕ × ℕ)) (i : ℕ) → (suc i < length es → s < key es (suc i)) → Span ℕ ℕ (suc l) lo hi (held c (suc l) es) → Each (λ (r : ℕ × ℕ). s < r.0) (rows_in c (suc l) (drop (suc i) es))
  after l lo hi s [] i k p = tt
  after l lo hi s (e ∷ []) zero k p = tt
  after l lo hi s (e ∷ x ∷ r) zero k p =
      each_map _ _ (λ y q. omega (arith, q, k (omega arith))) (rows_in c (suc l) (x ∷ r)) (asc_above x.0 p.1.0 hi (rows_in c (suc l) (x ∷ r)) (omega (arith, p.1.2.0)) (span_asc ℕ ℕ (suc l) p.1.0 hi (held c (suc l) (x ∷ r)) p.1.2))
  after l lo hi s (e ∷ r) (suc i) k p = after l p.1.0 hi s r i (λ h. k (omega arith)) p.1.2

  -- The child that covers a speed: the rows before it lie below, those after it above.
  module _ (l s : ℕ) (es : List (ℕ × ℕ)) (i : ℕ) (h : i < length es) (p : Sound c (suc l) es) where
    pub rows_before : ((k : ℕ) → k < i → key es (suc k) ≤ s) → Each (λ (r : ℕ × ℕ). r.0 < s) (rows_in c (suc l) (take i es))
    rows_before past = go i h past
      where
        go : (i : ℕ) → i < length es → ((k : ℕ) → k < i → key es (suc k) ≤ s) → Each (λ (r : ℕ × ℕ). r.0 < s) (rows_in c (suc l) (take i es))
        go zero h past = tt
        go (suc i) h past = before l p.low p.high s es (suc i) h (past i (omega arith)) p.span

    pub rows_after : (suc i < length es → s < key es (suc i)) → Each (λ (r : ℕ × ℕ). s < r.0) (rows_in c (suc l) (drop (suc i) es))
    rows_after high = after l p.low p.high s es i high p.span

  -- a leaf's entries are its rows
  pub leaf : (es : List (ℕ × ℕ)) → rows_in c 0 es ≡ es
  leaf [] = refl
  leaf (e ∷ r) = ap (λ (z : List (ℕ × ℕ)). e ∷ z) (leaf r)

  -- a block that has entries has rows
  some_rows : (l : ℕ) (es : List (ℕ × ℕ)) → Sound c l es → 1 ≤ length es → 1 ≤ length (rows_in c l es)
  some_rows zero es p h = subst (λ (z : List (ℕ × ℕ)). 1 ≤ length z) (sym (leaf es)) h
  some_rows (suc l) [] p h = absurd (not-suc-le-zero h)
  some_rows (suc l) (e ∷ r) p h =
      let k = child l (e ∷ r) 0 (omega arith) p in
      omega (arith, some_rows l (inside e.1) k.sound k.some, length-append (rows_in c l (inside e.1)) (rows_in c (suc l) r))

  pub full_rows : (x : ℕ) → FullAt c x → 1 ≤ length (rows_at c x)
  full_rows x f = rw f.sound.stands (some_rows f.sound.block.level f.sound.block.entries f.sound.sound f.some)

  -- the rows of the entries before a place, and those from it on
  pub rows_split : (l : ℕ) (es : List (ℕ × ℕ)) (k : ℕ) → rows_in c l es ≡ rows_in c l (take k es) ++ rows_in c l (drop k es)
  rows_split l es k =
      ap (rows_in c l) (sym (take-append-drop k es)) ∙ ap (flat (Rows ℕ ℕ l)) (map-append (pay_at c l) (take k es) (drop k es))
      ∙ flat_append (Rows ℕ ℕ l) (held c l (take k es)) (held c l (drop k es))
