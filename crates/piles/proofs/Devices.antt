-- A pile is a device.
use Rattle.std.proofs.Common.{◌≡◌, ℕ, ◌-◌, ◌*◌, ◌/◌, ◌%◌, ◌^◌, ◌<◌, ◌≤◌, Bool, false, List, [], ◌∷◌, Ok, sym, refl, ap, ap₂, ◌∙◌, subst, subst₂, arith}
use Rattle.std.specs.Prelude.{bit_or, bit_xor, fold}
use Rattle.std.specs.List.{AllByRecursion}
use Rattle.std.proofs.ByRecursion.{All-map, All-append, All-set, All-get_or, All-weaker}
use Rattle.std.proofs.lemmas.Bool.Decides.{nat_tests}
use Rattle.std.proofs.lemmas.List.{length-map, length-set, length-append}
use Rattle.std.proofs.lemmas.Nat.{or_lt, xor_lt}
use Rattle.device.specs.Meaning.{Meaning, Cell, Limits, Lawful, LawfulCell, Words, flushed_cell, written_cell, spent, no_cell, cell_at, blocks_of, shown_of}
use Rattle.device.specs.Showing.{count_shown}
use Rattle.device.specs.Cuts.{Op, Op.write, Op.flush, apply}
use Rattle.device.proofs.Choices.{blocks_apply}
use Rattle.check_layer.specs.Checked as checks
use Rattle.check_layer.specs.Checked.{checked, checked_cell, check_of, with_check, below_op}
use Rattle.check_layer.proofs.Follows.{checked_flushed, checked_after}
use Rattle.quota.specs.Limited as quotas
use Rattle.quota.specs.Limited.{limited, limited_blocks}
use Rattle.quota.proofs.Follows.{limited_flushed, limited_after}
use Rattle.mirror.specs.Mirrored as mirrors
use Rattle.mirror.specs.Mirrored.{mirrored, mirrored_blocks, Alike}
use Rattle.mirror.proofs.Follows.{mirrored_flushed, mirrored_written, alike_flushed, alike_written}
use Rattle.piles.specs.Piles.{Pile, Pile.bottom, Pile.check, Pile.quota, Pile.mirror, shows, Built, PerBottom, part, whole, Accepts, PilesAreDevices}

pub lawful : (p : Pile) → Built p → Lawful (shows p)
lawful (bottom m) b = b
lawful (check p) b = checks.fits (shows p) (lawful p b.0) b.1
lawful (quota n p) b = quotas.fits n (shows p) (lawful p b.0) b.1
lawful (mirror p q) b = mirrors.fits (shows p) (shows q) (lawful p b.0) (lawful q b.1) b.2

-- no bottom has done its part
abbrev pub none : PerBottom Bool
none s = false

pub part_none : (o : Op) (p : Pile) → part o none p ≡ p
part_none o (bottom m) = refl
part_none o (check p) = ap check (part_none (below_op o) p)
part_none o (quota n p) = ap (quota n) (part_none o p)
part_none o (mirror p q) = ap₂ mirror (part_none o p) (part_none o q)

-- the check of words of 32 bits has 32 bits
small : (s : ℕ) (ws : List ℕ) → s < 2 ^ 32 → AllByRecursion (λ x. x < 2 ^ 32) ws → fold (λ s x. bit_xor (bit_or ((s * 2 ^ 5) % 2 ^ 32) (s / 2 ^ 27)) x) s ws < 2 ^ 32
small s [] h a = h
small s (x ∷ ws) h a =
    small (bit_xor (bit_or ((s * 2 ^ 5) % 2 ^ 32) (s / 2 ^ 27)) x) ws
    (xor_lt 32 (bit_or ((s * 2 ^ 5) % 2 ^ 32) (s / 2 ^ 27)) x (or_lt 32 ((s * 2 ^ 5) % 2 ^ 32) (s / 2 ^ 27) (omega arith) (omega arith)) a.0) a.1

checked_words : (w : ℕ) (ws : List ℕ) → 2 ≤ w → Words (w - 1) ws → Words w (with_check ws)
checked_words w ws h k = (
  simp length-append (omega (arith, k.0)),
  All-append _ ws (check_of ws ∷ []) k.1 (small 1 ws (omega arith) k.1, tt),
)

-- what is accepted above is accepted below
module _ (m : Meaning) (wide : checks.Allowed (shown_of m)) where
  pub check_accepts : (o : Op) → Accepts (checked m) o → Accepts m (below_op o)
  check_accepts (write b ws) a = (omega (arith, a.0, length-map m.cells (checked_cell (m.width - 1))), checked_words m.width ws wide a.1, a.2)
  check_accepts flush a = tt

  pub check_apply : (o : Op) → Accepts (checked m) o → checked (apply (below_op o) m) ≡ apply o (checked m)
  check_apply (write b ws) a = checked_after m b ws (omega (arith, a.0, length-map m.cells (checked_cell (m.width - 1)))) a.1.0 (Ok tt)
  check_apply flush a = checked_flushed m

module _ (n : ℕ) (m : Meaning) (within : quotas.Allowed n (shown_of m)) where
  inside : n ≤ blocks_of m
  inside = quotas.enough n m within

  pub quota_accepts : (o : Op) → Accepts (limited n m) o → Accepts m o
  quota_accepts (write b ws) a = (omega (arith, a.0, limited_blocks n m inside, inside), a.1, a.2)
  quota_accepts flush a = tt

  pub quota_apply : (o : Op) → Accepts (limited n m) o → limited n (apply o m) ≡ apply o (limited n m)
  quota_apply (write b ws) a = limited_after n m inside b (omega (arith, a.0, limited_blocks n m inside)) (Ok tt) ws
  quota_apply flush a = limited_flushed n m

module _ (m n : Meaning) (k : Alike m n) where
  pub first_accepts : (o : Op) → Accepts (mirrored m n) o → Accepts m o
  first_accepts (write b ws) a = (omega (arith, a.0, mirrored_blocks m n), a.1, omega (arith, a.2))
  first_accepts flush a = tt

  pub second_accepts : (o : Op) → Accepts (mirrored m n) o → Accepts n o
  second_accepts (write b ws) a =
      (omega (arith, a.0, mirrored_blocks m n, k.shape.0), subst (λ w. Words w ws) k.shape.1 a.1, omega (arith, a.2))
  second_accepts flush a = tt

  pub mirror_apply : Lawful m → Lawful n → (o : Op) → Accepts (mirrored m n) o → mirrored (apply o m) (apply o n) ≡ apply o (mirrored m n)
  mirror_apply l l' (write b ws) a =
      mirrored_written m n k b (omega (arith, a.0, mirrored_blocks m n)) ws (omega (arith, a.2)) (omega (arith, a.2)) l.left l'.left
  mirror_apply l l' flush a = mirrored_flushed m n

  pub alike_apply : (o : Op) → Accepts (mirrored m n) o → Alike (apply o m) (apply o n)
  alike_apply (write b ws) a = alike_written m n k b (omega (arith, a.0, mirrored_blocks m n)) ws
  alike_apply flush a = alike_flushed m n k.shape

-- once all bottoms have done their part
pub shows_whole : (o : Op) (p : Pile) → Built p → Accepts (shows p) o → shows (whole o p) ≡ apply o (shows p)
shows_whole o (bottom m) b a = refl
shows_whole o (check p) b a = ap checked (shows_whole (below_op o) p b.0 (check_accepts (shows p) b.1 o a)) ∙ check_apply (shows p) b.1 o a
shows_whole o (quota n p) b a = ap (limited n) (shows_whole o p b.0 (quota_accepts n (shows p) b.1 o a)) ∙ quota_apply n (shows p) b.1 o a
shows_whole o (mirror p q) b a =
    ap₂ mirrored (shows_whole o p b.0 (first_accepts (shows p) (shows q) b.2 o a)) (shows_whole o q b.1 (second_accepts (shows p) (shows q) b.2 o a))
    ∙ mirror_apply (shows p) (shows q) b.2 (lawful p b.0) (lawful q b.1) o a

written_lawful : (w : ℕ) (ws : List ℕ) (c : Cell) → Words w ws → LawfulCell w c → LawfulCell w (written_cell ws c)
written_lawful w ws c h l = record { persisted = l.persisted; current = h; mark = omega arith; clean = λ e. absurd (omega arith) }

flushed_lawful : (w : ℕ) (c : Cell) → LawfulCell w c → LawfulCell w (flushed_cell c)
flushed_lawful w c l = record { persisted = l.current; current = l.current; mark = omega arith; clean = λ e. refl }

spent_few : (n : ℕ) → n ≤ 4294967295 → spent n ≤ 4294967295
spent_few n h = grind (arith, nat_tests)

pub apply_lawful : (o : Op) (m : Meaning) → Accepts m o → Lawful m → Lawful (apply o m)
apply_lawful (write b ws) m a l = record {
  limits = subst (λ n. Limits n m.width) (sym (length-set m.cells b (written_cell ws (cell_at m b)))) l.limits;
  cells = All-set (LawfulCell m.width) m.cells b (written_cell ws (cell_at m b)) (written_lawful m.width ws (cell_at m b) a.1 (All-get_or (LawfulCell m.width) m.cells b no_cell a.0 l.cells)) l.cells;
  left = spent_few m.left l.left;
  left_mark = l.left_mark;
}
apply_lawful flush m a l = record {
  limits = subst (λ n. Limits n m.width) (sym (length-map m.cells flushed_cell)) l.limits;
  cells = All-map (LawfulCell m.width) flushed_cell m.cells (All-weaker _ _ (flushed_lawful m.width) m.cells l.cells);
  left = l.left;
  left_mark = l.left_mark;
}

pub width_apply : (o : Op) (m : Meaning) → (apply o m).width ≡ m.width
width_apply (write b ws) m = refl
width_apply flush m = refl

pub built_whole : (o : Op) (p : Pile) → Built p → Accepts (shows p) o → Built (whole o p)
built_whole o (bottom m) b a = apply_lawful o m a b
built_whole o (check p) b a =
    let a' = check_accepts (shows p) b.1 o a in (
      built_whole (below_op o) p b.0 a',
      subst (λ m. checks.Allowed (shown_of m)) (sym (shows_whole (below_op o) p b.0 a')) (omega (arith, b.1, width_apply (below_op o) (shows p))),
    )
built_whole o (quota n p) b a =
    let a' = quota_accepts n (shows p) b.1 o a in (
      built_whole o p b.0 a',
      subst (λ m. quotas.Allowed n (shown_of m)) (sym (shows_whole o p b.0 a'))
          (b.1.0, omega (arith, quotas.enough n (shows p) b.1, blocks_apply o (shows p), count_shown (apply o (shows p)))),
    )
built_whole o (mirror p q) b a =
    let a₁ = first_accepts (shows p) (shows q) b.2 o a in
    let a₂ = second_accepts (shows p) (shows q) b.2 o a in (
      built_whole o p b.0 a₁,
      built_whole o q b.1 a₂,
      subst₂ Alike (sym (shows_whole o p b.0 a₁)) (sym (shows_whole o q b.1 a₂)) (alike_apply (shows p) (shows q) b.2 o a),
    )

pub piles_are_devices : PilesAreDevices
piles_are_devices p b = (lawful p b, λ o a. (shows_whole o p b a, built_whole o p b a))
