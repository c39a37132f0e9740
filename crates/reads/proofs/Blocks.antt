-- A block of a sound tree, as its words hold it.
use Rattle.std.proofs.Common.{◌≡◌, ℕ, zero, suc, ◌+◌, ◌<◌, ◌≤◌, true, List, [], ◌∷◌, ◌++◌, length, get_or, take, is_some, Some, add-one, sym, refl, ap, ◌∙◌, subst, not-suc-le-zero, arith}
use Rattle.std.proofs.lemmas.List.{take_more}
use Rattle.std.proofs.lemmas.Option.{same_Some}
use Rattle.device.specs.Meaning.{Meaning, Content, current_at}
use Rattle.page.specs.Block.{Block, block_at, block_in, level_of}
use Rattle.tree.specs.Node.{map_e}
use Rattle.tree.proofs.Over.{map-append}
use Rattle.table.specs.Rows.{angle_of}
use Rattle.model.specs.TreeBlocks.{Each}
use Rattle.reads.specs.Sound.{Valid, rows_in, rows_at, Sound, SoundAt, FullAt}
use Rattle.reads.specs.Lists.{due}
use Rattle.reads.proofs.Children.{to, key, leaf, child, rows_more, rows_before}
use Rattle.reads.proofs.Places.{child_full}
use Rattle.reads.proofs.Written.{due_below}

-- block b is what block x of the device holds
pub record Here (m : Meaning) (x : ℕ) (b : Block) : Type 0 where
  pub stands : block_in (current_at m x) ≡ Some b
  pub sound : Sound (current_at m) b.level b.entries
  pub level : level_of (block_at m x) ≡ b.level
  pub rows : rows_at (current_at m) x ≡ rows_in (current_at m) b.level b.entries

pub here : (m : Meaning) (x : ℕ) (b : Block) → SoundAt (current_at m) x → block_at m x ≡ Some b → Here m x b
unfolding block_at
here m x b s e = record {
  stands = e;
  sound = subst (λ (d : Block). Sound (current_at m) d.level d.entries) (same_Some s.block b (sym s.stands ∙ e)) s.sound;
  level = ap level_of e;
  rows = rw e refl;
}

pub readable : (m : Meaning) (x : ℕ) → SoundAt (current_at m) x → is_some (block_at m x) ≡ true
unfolding block_at
readable m x s = ap is_some s.stands

module _ (m : Meaning) (x : ℕ) (b : Block) (h : Here m x b) where
  pub leaf_rows : b.level ≡ 0 → rows_at (current_at m) x ≡ b.entries
  leaf_rows z = h.rows ∙ ap (λ (n : ℕ). rows_in (current_at m) n b.entries) z ∙ leaf (current_at m) b.entries

  pub leaf_valid : b.level ≡ 0 → Each Valid b.entries
  leaf_valid z = subst (Each Valid) (ap (λ (n : ℕ). rows_in (current_at m) n b.entries) z ∙ leaf (current_at m) b.entries) h.sound.valid

  -- the child y of the entry at place i
  pub record Next (i y : ℕ) : Type 0 where
    pub full : FullAt (current_at m) y
    pub lower : level_of (block_at m y) < b.level
    pub more : rows_in (current_at m) b.level (take (i + 1) b.entries) ≡ rows_in (current_at m) b.level (take i b.entries) ++ rows_at (current_at m) y

  pub next_of : (i y : ℕ) → 0 < b.level → i < length b.entries → y ≡ (get_or b.entries i (0, 0)).1 → Next i y
  unfolding block_at
  next_of i y u l e =
      let c = current_at m in
      let f = child_full c b.level b.entries i u l h.sound in
      record {
        full = subst (FullAt c) (sym e) f.0;
        lower = omega (arith, f.1, ap (λ (z : ℕ). level_of (block_in (c z))) e);
        more = ap (λ (j : ℕ). rows_in c b.level (take j b.entries)) (add-one i) ∙ grown c b.level b.entries i u l h.sound ∙ ap (λ (z : ℕ). rows_in c b.level (take i b.entries) ++ rows_at c z) (sym e);
      }
    where
      grown : (c : ℕ → Content) (n : ℕ) (es : List (ℕ × ℕ)) (i : ℕ) → 0 < n → i < length es → Sound c n es → rows_in c n (take (suc i) es) ≡ rows_in c n (take i es) ++ rows_at c (to c es i)
      grown c zero es i u l p = absurd (not-suc-le-zero u)
      grown c (suc n) es i u l p = rows_more c n es i l ∙ ap (λ (z : List (ℕ × ℕ)). rows_in c (suc n) (take i es) ++ z) (sym (child c n es i l p).rows)

  -- the rows before the child that covers a speed are not due
  pub due_before : (s k : ℕ) → 0 < b.level → k < length b.entries → ((j : ℕ) → j < k → (get_or b.entries (suc j) (0, 0)).0 ≤ s) → due s (map_e angle_of (rows_in (current_at m) b.level (take k b.entries))) ≡ []
  due_before s k u l past = go (current_at m) b.level b.entries u l h.sound past
    where
      go : (c : ℕ → Content) (n : ℕ) (es : List (ℕ × ℕ)) → 0 < n → k < length es → Sound c n es → ((j : ℕ) → j < k → key c es (suc j) ≤ s) → due s (map_e angle_of (rows_in c n (take k es))) ≡ []
      go c zero es u l p past = absurd (not-suc-le-zero u)
      go c (suc n) es u l p past = due_below angle_of s (rows_in c (suc n) (take k es)) (rows_before c n s es k l p past)

-- one entry of a leaf more
pub entry_more : (es : List (ℕ × ℕ)) (i : ℕ) → i < length es → map_e angle_of (take (i + 1) es) ≡ map_e angle_of (take i es) ++ ((get_or es i (0, 0)).0, angle_of (get_or es i (0, 0)).1) ∷ []
entry_more es i h = ap (map_e angle_of) (take_more es i (0, 0) h) ∙ map-append angle_of (take i es) (get_or es i (0, 0) ∷ [])

pub valid_entry : (es : List (ℕ × ℕ)) (i : ℕ) → Each Valid es → i < length es → Valid (get_or es i (0, 0))
valid_entry [] i v h = absurd (not-suc-le-zero h)
valid_entry (e ∷ r) zero v h = v.0
valid_entry (e ∷ r) (suc i) v h = valid_entry r i v.1 (omega (arith, h))
