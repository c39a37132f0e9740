-- Products and quotients of rises and distances fit 32 bits.
use Rattle.std.proofs.Common.{◌≡◌, ℕ, zero, suc, ◌*◌, ◌/◌, ◌^◌, ◌<◌, ◌≤◌, ℤ, pos, negsuc, ◌+ℤ◌, ◌-ℤ◌, ◌*ℤ◌, neg_ℤ, nat_abs, ◌≤ℤ◌, sym, refl, ap, ◌∙◌, subst, ap₂, div-le_self, arith, w32, SFits, to_z, of_z}
use lib.IntN.{pos-*ℤ-pos, negsuc-*ℤ-pos}
use lib.Signed.{quot_z}
use Rattle.std.proofs.lemmas.Nat.{mul-le}
use Rattle.std.proofs.lemmas.Int.{ints, to_z-of_z, to_z_pos}

abs_neg : (n : ℕ) → nat_abs (neg_ℤ (pos n)) ≡ n
abs_neg zero = refl
abs_neg (suc n) = refl

pub abs_mul : (d : ℤ) (n a b : ℕ) → nat_abs d ≤ a → n ≤ b → nat_abs (d *ℤ pos n) ≤ a * b
abs_mul (pos m) n a b h k = subst (λ z. nat_abs z ≤ a * b) (sym (pos-*ℤ-pos m n)) (mul-le m n a b h k)
abs_mul (negsuc m) n a b h k =
    subst (λ z. nat_abs z ≤ a * b) (sym (negsuc-*ℤ-pos m n)) (subst (λ i. i ≤ a * b) (sym (abs_neg (suc m * n))) (mul-le (suc m) n a b h k))

pub abs_quot : (z : ℤ) (k : ℕ) → nat_abs (quot_z z (pos k)) ≤ nat_abs z
abs_quot (pos m) k = div-le_self m k
abs_quot (negsuc m) k = subst (λ i. i ≤ suc m) (sym (abs_neg (suc m / k))) (div-le_self (suc m) k)

pub abs_within : (z : ℤ) (b : ℕ) → neg_ℤ (pos b) ≤ℤ z → z ≤ℤ pos b → nat_abs z ≤ b
abs_within (pos n) b low high = omega (arith, ints)
abs_within (negsuc n) b low high = omega (arith, ints)

pub within_abs : (z : ℤ) (b : ℕ) → nat_abs z ≤ b → (neg_ℤ (pos b) ≤ℤ z) × (z ≤ℤ pos b)
within_abs (pos n) b h = (omega (arith, ints), omega (arith, ints))
within_abs (negsuc n) b h = (omega (arith, ints), omega (arith, ints))

pub fits_abs : (z : ℤ) → nat_abs z < 2 ^ 31 → SFits w32 z
fits_abs (pos n) h = record { sfits = h }
fits_abs (negsuc n) h = record { sfits = omega arith }

-- a number as a register of 32 bits holds it
abbrev pub stored : ℤ → ℤ
stored z = to_z w32 (of_z w32 z)

pub record InRange (a : ℤ) : Type 0 where
  pub low : negsuc 8999 ≤ℤ a
  pub high : a ≤ℤ pos 9000

pub same : (a : ℤ) → InRange a → stored a ≡ a
same a h = to_z-of_z w32 a (fits_abs a (omega (arith, abs_within a 9000 (omega (arith, ints, h.low)) h.high)))

-- from a to b, n along of k
module _ (a b : ℤ) (n k : ℕ) (ra : InRange a) (rb : InRange b) (few : n ≤ 9999) (small : k ≤ 9999) where
  rise_abs : nat_abs (b -ℤ a) ≤ 18000
  rise_abs = abs_within (b -ℤ a) 18000 (omega (arith, ints, ra.high, rb.low)) (omega (arith, ints, ra.low, rb.high))

  rise : stored (stored b -ℤ stored a) ≡ b -ℤ a
  rise = ap stored (ap₂ ◌-ℤ◌ (same b rb) (same a ra)) ∙ to_z-of_z w32 (b -ℤ a) (fits_abs (b -ℤ a) (omega (arith, rise_abs)))

  pub product : stored (stored b -ℤ stored a) *ℤ to_z w32 n ≡ (b -ℤ a) *ℤ pos n
  product = ap₂ ◌*ℤ◌ rise (to_z_pos w32 n (omega arith))

  product_abs : nat_abs ((b -ℤ a) *ℤ pos n) ≤ 179982000
  product_abs = abs_mul (b -ℤ a) n 18000 9999 rise_abs few

  product_small : SFits w32 ((b -ℤ a) *ℤ pos n)
  product_small = fits_abs ((b -ℤ a) *ℤ pos n) (omega (arith, product_abs))

  pub product_fits : SFits w32 (stored (stored b -ℤ stored a) *ℤ to_z w32 n)
  product_fits = subst (SFits w32) (sym product) product_small

  pub quotient : quot_z (stored (stored (stored b -ℤ stored a) *ℤ to_z w32 n)) (to_z w32 k) ≡ quot_z ((b -ℤ a) *ℤ pos n) (pos k)
  quotient = ap₂ quot_z (ap stored product ∙ to_z-of_z w32 ((b -ℤ a) *ℤ pos n) product_small) (to_z_pos w32 k (omega arith))

  quotient_abs : nat_abs (quot_z ((b -ℤ a) *ℤ pos n) (pos k)) ≤ 179982000
  quotient_abs = omega (arith, abs_quot ((b -ℤ a) *ℤ pos n) k, product_abs)

  quotient_small : SFits w32 (quot_z ((b -ℤ a) *ℤ pos n) (pos k))
  quotient_small = fits_abs (quot_z ((b -ℤ a) *ℤ pos n) (pos k)) (omega (arith, quotient_abs))

  pub quotient_fits : SFits w32 (quot_z (stored (stored (stored b -ℤ stored a) *ℤ to_z w32 n)) (to_z w32 k))
  quotient_fits = subst (SFits w32) (sym quotient) quotient_small

  pub total : stored a +ℤ stored (quot_z (stored (stored (stored b -ℤ stored a) *ℤ to_z w32 n)) (to_z w32 k)) ≡ a +ℤ quot_z ((b -ℤ a) *ℤ pos n) (pos k)
  total = ap₂ ◌+ℤ◌ (same a ra) (ap stored quotient ∙ to_z-of_z w32 (quot_z ((b -ℤ a) *ℤ pos n) (pos k)) quotient_small)

  total_small : SFits w32 (a +ℤ quot_z ((b -ℤ a) *ℤ pos n) (pos k))
  total_small =
      let q = quot_z ((b -ℤ a) *ℤ pos n) (pos k) in
      let w = within_abs q 179982000 quotient_abs in
      fits_abs (a +ℤ q) (omega (arith, abs_within (a +ℤ q) 179991000 (omega (arith, ints, w.0, ra.low)) (omega (arith, ints, w.1, ra.high))))

  pub total_fits : SFits w32 (stored a +ℤ stored (quot_z (stored (stored (stored b -ℤ stored a) *ℤ to_z w32 n)) (to_z w32 k)))
  total_fits = subst (SFits w32) (sym total) total_small

  pub answer : stored (stored a +ℤ stored (quot_z (stored (stored (stored b -ℤ stored a) *ℤ to_z w32 n)) (to_z w32 k))) ≡ a +ℤ quot_z ((b -ℤ a) *ℤ pos n) (pos k)
  answer = ap stored total ∙ to_z-of_z w32 (a +ℤ quot_z ((b -ℤ a) *ℤ pos n) (pos k)) total_small
