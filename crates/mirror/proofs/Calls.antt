-- What a mirror answers to a read, by its sides.
use Rattle.std.proofs.Common.{◌≡◌, ℕ, ◌<◌, List, Ok, Err, Result, MatchResult, sym, refl, ap, ◌∙◌, arith}
use Rattle.device.specs.declared.Layer.{Layer}
use Rattle.device.specs.declared.Layer.TheVariants.{Mirror}
use Rattle.device.specs.declared.DeviceFault.{DeviceFault}
use Rattle.device.specs.declared.DeviceFault.TheVariants.{Damaged}
use Rattle.device.specs.Meaning.{Meaning, Shown, Content, words, damaged, Cell, raised_fault, blocks_of, count_of, current_at, shown_of, admitted, reading, writing, held, answered, filled}
use Rattle.device.specs.Showing.{count_shown, content_shown}
use Rattle.device.proofs.Calls.{reading_at, writing_at, spending_ok, let_in}
use Rattle.mirror.specs.Mirrored.{mirrored, mirrored_blocks, pick}
use Rattle.mirror.proofs.Follows.{cell_mirrored}

-- the blocks that a mirror shows
pub count_mirrored : (m n : Meaning) → count_of (shown_of (mirrored m n)) ≡ blocks_of m
count_mirrored m n = count_shown (mirrored m n) ∙ mirrored_blocks m n

-- what is admitted has the right length and a block that is there
pub admitted_at : (m n : Meaning) (b k : ℕ) → Ok tt ≡ admitted Mirror (shown_of (mirrored m n)) b k → (k ≡ m.width) × (b < blocks_of m)
admitted_at m n b k e =
    let t = let_in Mirror (shown_of (mirrored m n)) b k e in
    (t.0, omega (arith, t.1, count_mirrored m n))

-- reading one side, and the mirror
pub side_reads : (l : Layer) (m : Meaning) (s : Shown) → s ≡ shown_of m → (b k : ℕ) → b < blocks_of m → k ≡ m.width → reading l s b k ≡ held (current_at m b)
side_reads l m s e b k h size =
    ap (λ x. reading l x b k) e ∙ reading_at l (shown_of m) b k size (omega (arith, h, count_shown m))
    ∙ ap (λ (f : ℕ → Content). held (f b)) (content_shown m)

pub mirror_reads : (m n : Meaning) (b k : ℕ) → b < blocks_of m → k ≡ m.width → reading Mirror (shown_of (mirrored m n)) b k ≡ held (pick (current_at m b) (current_at n b))
mirror_reads m n b k h size =
    side_reads Mirror (mirrored m n) (shown_of (mirrored m n)) refl b k (omega (arith, h, mirrored_blocks m n)) size
    ∙ ap (λ (c : Cell). held c.current) (cell_mirrored m n b h)

apart : (e : DeviceFault) → ◌≡◌ {A = Result Unit DeviceFault} (Ok tt) (Err e) → ⊥
apart e r = let z : ◌≡◌ {A = ℕ} 0 1 = cc in omega arith

-- where the first side is read
pub by_first : (x y : Content) → Ok tt ≡ answered (held x) → Ok tt ≡ answered (held (pick x y))
by_first (words ws) y e = refl
by_first (damaged k) y e = absurd (apart (Damaged k) e)

pub filled_by_first : (x y : Content) (o : List ℕ) → Ok tt ≡ answered (held x) → filled (held x) o ≡ filled (held (pick x y)) o
filled_by_first (words ws) y o e = refl
filled_by_first (damaged k) y o e = absurd (apart (Damaged k) e)

-- where it refuses
pub unfilled : (r : Result (List ℕ) DeviceFault) (f : DeviceFault) (o : List ℕ) → Err f ≡ answered r → filled r o ≡ o
unfilled (Ok ws) f o e = absurd (apart f (sym e))
unfilled (Err g) f o e = refl

same_fault : (f g : DeviceFault) → ◌≡◌ {A = Result Unit DeviceFault} (Err f) (Err g) → f ≡ g
same_fault f g e = cc

pub by_second : (x y : Content) (f : DeviceFault) (r q : Result Unit DeviceFault) → Err f ≡ answered (held x) → r ≡ answered (held y)
    → MatchResult r (λ u. q ≡ Ok tt) (λ e. q ≡ Err (raised_fault f)) → q ≡ answered (held (pick x y))
by_second (words ws) y f r q e s m = absurd (apart f (sym e))
by_second (damaged j) (words ws) f (Ok u) q e s m = m
by_second (damaged j) (words ws) f (Err g) q e s m = absurd (apart g (sym s))
by_second (damaged j) (damaged k) f (Ok u) q e s m = absurd (apart (Damaged k) s)
by_second (damaged j) (damaged k) f (Err g) q e s m = m ∙ ap (λ h. Err (raised_fault h)) (same_fault f (Damaged j) e)

pub filled_by_second : (x y : Content) (f : DeviceFault) (o : List ℕ) → Err f ≡ answered (held x) → filled (held y) o ≡ filled (held (pick x y)) o
filled_by_second (words ws) y f o e = absurd (apart f (sym e))
filled_by_second (damaged j) (words ws) f o e = refl
filled_by_second (damaged j) (damaged k) f o e = refl

-- a write that nothing refuses
pub accepted : (l : Layer) (m : Meaning) (b k : ℕ) → k ≡ m.width → b < blocks_of m → 0 < m.left → writing l m b k ≡ Ok tt
accepted l m b k size on left = writing_at l m b k size on ∙ spending_ok m left
