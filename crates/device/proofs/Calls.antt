-- What reading and writing answer where they are admitted.
use Rattle.std.proofs.Common.{◌≡◌, ℕ, List, refl, ◌<◌, ◌≤◌, Ok, Err, Result, ◌∙◌, ⊎_elim, arith}
use Rattle.std.proofs.lemmas.List.{length-map}
use Rattle.std.proofs.lemmas.Bool.{eq-eqb, ne_eqb, lt-ltb, le-ltb, cases_eq, cases_lt}
use Rattle.device.specs.declared.Layer.{Layer}
use Rattle.device.specs.declared.DeviceFault.TheVariants.{Length, Range, Worn}
use Rattle.device.specs.Meaning.{Meaning, Shown, blocks_of, count_of, content_at, shown_of, current_of, admitted, reading, writing, held, own, spending, after_write}
use Rattle.device.specs.Cuts.{replay, written_ops}
use Rattle.device.specs.declared.DeviceFault.{DeviceFault}

module _ (l : Layer) (m : Shown) (b n : ℕ) where
  pub reading_at : n ≡ m.width → b < count_of m → reading l m b n ≡ held (content_at m b)
  reading_at e h = rw (eq-eqb n m.width e, lt-ltb b (count_of m) h)

  -- what is admitted has the right length and a block that is there
  pub let_in : Ok tt ≡ admitted l m b n → (n ≡ m.width) × (b < count_of m)
  let_in p =
      ⊎_elim
      (λ (e : n ≡ m.width).
      ⊎_elim
      (λ (h : b < count_of m). (e, h))
      (λ (h : count_of m ≤ b). absurd (no (Range (own l)) (p ∙ (let a = eq-eqb n m.width e in let c = le-ltb b (count_of m) h in rw (a, c)))))
      (cases_lt b (count_of m)))
      (λ (e : n ≡ m.width → ⊥). absurd (no (Length (own l)) (p ∙ (let a = ne_eqb n m.width e in rw a))))
      (cases_eq n m.width)
    where
      no : (e : DeviceFault) → ◌≡◌ {A = Result Unit DeviceFault} (Ok tt) (Err e) → ⊥
      no e r = let z : ◌≡◌ {A = ℕ} 0 1 = cc in omega arith

pub writing_at : (l : Layer) (m : Meaning) (b n : ℕ) → n ≡ m.width → b < blocks_of m → writing l m b n ≡ spending m
writing_at l m b n e h = let c : b < count_of (shown_of m) = omega (arith, length-map m.cells current_of) in rw (eq-eqb n m.width e, lt-ltb b (count_of (shown_of m)) c)

pub spending_ok : (m : Meaning) → 0 < m.left → spending m ≡ Ok tt
spending_ok m h = let e = lt-ltb 0 m.left h in rw e

pub spending_worn : (m : Meaning) → m.left ≤ 0 → spending m ≡ Err (Worn m.left_mark)
spending_worn m h = let e = le-ltb 0 m.left h in rw e

-- what a write leaves is its replay
pub after_ops : (r : Result Unit DeviceFault) (m : Meaning) (b : ℕ) (ws : List ℕ) → after_write r m b ws ≡ replay (written_ops r b ws) m
after_ops (Ok u) m b ws = refl
after_ops (Err e) m b ws = refl
