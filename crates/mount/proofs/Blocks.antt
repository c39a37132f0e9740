-- One block: its own fault, and what is known where it has none.
use Rattle.std.proofs.Common.{◌≡◌, ℕ, ◌<◌, Bool, true, false, cond, List, Some, None, Ok, Err, Option, Result, sym, refl, ap, ◌∙◌, subst, arith}
use Rattle.std.specs.Option.{option_or}
use Rattle.std.specs.Result.{MatchResult}
use Rattle.device.specs.declared.DeviceFault.{DeviceFault}
use Rattle.device.specs.declared.Layer.{Layer}
use Rattle.device.specs.Meaning.{Meaning, Content, words, damaged, blocks_of, current_at, shown_of, held, reading}
use Rattle.device.specs.Showing.{count_shown, content_shown}
use Rattle.device.proofs.Calls.{reading_at}
use Rattle.page.specs.Io.{ReadAs}
use Rattle.page.specs.Block.{Block, decode, block_in, block_at}
use Rattle.model.specs.declared.refusal.Refusal.TheVariants.{Malformed}
use Rattle.model.specs.TreeBlocks.{entries_in}
use Rattle.model.specs.Walk.{Fault, well_made, if_made, in_block, in_content, fault_below, fault_at}
use Rattle.model.proofs.Walks.{content_part, Made, made_parts}
use Rattle.mount.specs.declared.walk.Due.{Due}
use Rattle.mount.specs.Due.{own_fault, first_fault, passes, Loaded}

-- the fault at a block: its own, or else the first below
module _ (n k l lo hi b : ℕ) (f : List (ℕ × ℕ) → Option Fault) where
  split_made : (q : Bool) (o : Option Fault) → if_made b q o ≡ option_or (if_made b q None) o
  split_made true o = refl
  split_made false o = refl

  split_block : (o : Option Block) → in_block n k l lo hi b f o ≡ option_or (in_block n k l lo hi b (λ es. None) o) (f (entries_in o))
  split_block None = refl
  split_block (Some x) = split_made (well_made n k l lo hi x) (f x.entries)

  pub split_content : (x : Content) → in_content n k l lo hi b f x ≡ option_or (in_content n k l lo hi b (λ es. None) x) (f (entries_in (block_in x)))
  split_content (words ws) = split_block (decode ws)
  split_content (damaged m) = refl

pub split_fault : (m : Meaning) (d : Due) → first_fault m d ≡ option_or (own_fault m d) (fault_below (blocks_of m) (current_at m) d.level d.high (entries_in (block_at m d.block)))
unfolding block_at
split_fault m d = split_content (blocks_of m) d.least d.level d.low d.high d.block (fault_below (blocks_of m) (current_at m) d.level d.high) (current_at m d.block)

-- a block without fault
pub record Sound (m : Meaning) (k l lo hi b : ℕ) : Type 0 where
  pub block : Block
  pub here : block_at m b ≡ Some block
  pub made : Made (blocks_of m) k l lo hi block
  pub below : fault_below (blocks_of m) (current_at m) l hi block.entries ≡ None

pub sound_block : (m : Meaning) (k l lo hi b : ℕ) → fault_at (blocks_of m) (current_at m) k l lo hi b ≡ None → Sound m k l lo hi b
unfolding block_at
sound_block m k l lo hi b h =
    let p = content_part (blocks_of m) k l lo hi b (fault_below (blocks_of m) (current_at m) l hi) (current_at m b) h in
    record { block = p.0; here = p.1; made = made_parts (blocks_of m) k l lo hi p.0 p.2; below = p.3 }

-- a block that was loaded
pub loaded_made : (m : Meaning) (d : Due) (p : Block) → Loaded m d p → Made (blocks_of m) d.least d.level d.low d.high p
unfolding block_at
loaded_made m d p ld =
    let q = content_part (blocks_of m) d.least d.level d.low d.high d.block (λ es. None) (current_at m d.block) ld.fine in
    let e : ◌≡◌ {A = Option Block} (Some q.0) (Some p) = sym q.1 ∙ ld.here in
    let s : q.0 ≡ p = cc in
    subst (Made (blocks_of m) d.least d.level d.low d.high) s (made_parts (blocks_of m) d.least d.level d.low d.high q.0 q.2)

-- what is read of a block is held there
held_ok : (k : Content) (ws : List ℕ) → held k ≡ Ok ws → k ≡ words ws
held_ok (words vs) ws h = let e : vs ≡ ws = cc in ap words e
held_ok (damaged k) ws h = absurd (let z : ◌≡◌ {A = ℕ} 0 1 = cc in omega arith)

pub read_words : (c : Layer) (m : Meaning) (b : ℕ) (ws : List ℕ) → b < blocks_of m → reading c (shown_of m) b m.width ≡ Ok ws → current_at m b ≡ words ws
read_words c m b ws lt h =
    held_ok (current_at m b) ws
    (sym (reading_at c (shown_of m) b m.width refl (omega (arith, lt, count_shown m)) ∙ ap (λ (f : ℕ → Content). held (f b)) (content_shown m)) ∙ h)

-- the answer that was good
is_good : {T : Type 0} (F : Type 0) (r : Result T DeviceFault) (x : T) → MatchResult r (λ y. ◌≡◌ {A = Result T F} (Ok x) (Ok y)) (λ e. ⊥) → r ≡ Ok x
is_good F (Ok y) x h = let e : x ≡ y = cc in ap Ok (sym e)
is_good F (Err e) x h = absurd h

-- Where a block is due it was read whether there is one, b; the answer r was good.
module _ (c : Layer) (m : Meaning) (d : Due) (lt : d.block < blocks_of m) (b : Block) (F : Type 0) (r : Result Bool DeviceFault) (holds : Bool)
    (read : ReadAs (λ (ws : List ℕ) (t : Bool). decode ws ≡ cond t (Some b) None) (reading c (shown_of m) d.block m.width) r) (good : MatchResult r (λ t. ◌≡◌ {A = Result Bool F} (Ok holds) (Ok t)) (λ e. ⊥)) where
  there : block_in (current_at m d.block) ≡ cond holds (Some b) None
  there =
      let a = subst (ReadAs (λ (ws : List ℕ) (t : Bool). decode ws ≡ cond t (Some b) None) (reading c (shown_of m) d.block m.width)) (is_good F r holds good) read in
      ap block_in (read_words c m d.block a.0 lt a.1) ∙ a.2

  own_of : (o : Option Block) → cond holds (Some b) None ≡ o → own_fault m d ≡ in_block (blocks_of m) d.least d.level d.low d.high d.block (λ es. None) o
  own_of o e =
      let a = subst (ReadAs (λ (ws : List ℕ) (t : Bool). decode ws ≡ cond t (Some b) None) (reading c (shown_of m) d.block m.width)) (is_good F r holds good) read in
      ap (in_content (blocks_of m) d.least d.level d.low d.high d.block (λ es. None)) (read_words c m d.block a.0 lt a.1)
      ∙ ap (in_block (blocks_of m) d.least d.level d.low d.high d.block (λ es. None)) (a.2 ∙ e)

  pub none_held : holds ≡ false → Err (Malformed d.block d.clone) ≡ passes d.clone (own_fault m d)
  none_held e = sym (ap (passes d.clone) (own_of None (ap (λ (t : Bool). cond t (Some b) None) e)))

  module _ (n : ℕ) (same : n ≡ blocks_of m) (e : holds ≡ true) (t : Bool) (tested : t ≡ well_made n d.least d.level d.low d.high b) where
    own : own_fault m d ≡ if_made d.block t None
    own =
        own_of (Some b) (ap (λ (t : Bool). cond t (Some b) None) e)
        ∙ ap (λ (x : Bool). if_made d.block x None) (sym (tested ∙ ap (λ (k : ℕ). well_made k d.least d.level d.low d.high b) same))

    pub off_layout : t ≡ false → Err (Malformed d.block d.clone) ≡ passes d.clone (own_fault m d)
    off_layout k = sym (ap (passes d.clone) (own ∙ ap (λ (x : Bool). if_made d.block x None) k))

    pub on_layout : t ≡ true → Loaded m d b
    unfolding block_at
    on_layout k = record { fine = own ∙ ap (λ (x : Bool). if_made d.block x None) k; here = there ∙ ap (λ (t : Bool). cond t (Some b) None) e }
