-- The hint where the lowest free block may be.
use Rattle.std.proofs.Common.{◌≡◌, ℕ, zero, suc, ◌+◌, ◌-◌, ◌<◌, ◌≤◌, min, max, Bool, true, false, cond, eqb, List, length, get_or, set, sym, ap, ◌∙◌, subst, ⊎_elim, arith}
use Rattle.std.proofs.lemmas.Bool.{lt-ltb, cases_eq, cases_lt}
use Rattle.std.proofs.lemmas.List.{get_or-set_other}
use Rattle.counts.specs.Counts.{spare, free_blocks, add_all, opened}
use Rattle.counts.specs.Hint.{Taken, TakenBut}
use Rattle.counts.proofs.Granting.{spare_none}
use Rattle.counts.proofs.Opens.{add_all_ge}

pub start : (cs : List ℕ) → Taken 2 cs
start cs = record { slots = omega arith; all = λ b l h. absurd (omega (arith, l, h)) }

-- blocks that are taken are no free ones
skip : (cs : List ℕ) (j k b : ℕ) → j ≤ k → ((i : ℕ) → b ≤ i → i < b + j → 0 < get_or cs i 0) → spare k b cs ≡ spare (k - j) (b + j) cs
skip cs zero k b h t = ap₂' (omega arith) (omega arith)
  where
    ap₂' : {m n x y : ℕ} → m ≡ n → x ≡ y → spare m x cs ≡ spare n y cs
    ap₂' {m} {n} {x} {y} p q = ap (λ (z : ℕ). spare z x cs) p ∙ ap (λ (z : ℕ). spare n z cs) q
skip cs (suc j) zero b h t = absurd (omega (arith, h))
skip cs (suc j) (suc k) b h t =
    rw (lt-ltb 0 (get_or cs b 0) (t b (omega arith) (omega arith)))
    (skip cs j k (suc b) (omega (arith, h)) (λ i l m. t i (omega (arith, l)) (omega (arith, m)))
    ∙ ap (λ (z : ℕ). spare (k - j) z cs) (omega arith) ∙ ap (λ (z : ℕ). spare z (b + suc j) cs) (omega arith))

pub free_from : (cs : List ℕ) (n : ℕ) → Taken n cs → free_blocks cs ≡ spare (length cs - n) n cs
free_from cs n t = ⊎_elim
    (λ (past : length cs < n).
    let z : length cs - n ≡ 0 = omega (arith, past) in
    spare_none cs (length cs - 2) 2 (λ i l m. t.all i l (omega (arith, past, m, l, t.slots)))
    ∙ sym (ap (λ (k : ℕ). spare k n cs) z))
    (λ (within : n ≤ length cs).
    let a : (length cs - 2) - (n - 2) ≡ length cs - n = omega (arith, within, t.slots) in
    let b : 2 + (n - 2) ≡ n = omega (arith, t.slots) in
    skip cs (n - 2) (length cs - 2) 2 (omega (arith, within)) (λ i l m. t.all i l (omega (arith, m, b)))
    ∙ ap (λ (k : ℕ). spare k (2 + (n - 2)) cs) a ∙ ap (λ (x : ℕ). spare (length cs - n) x cs) b)
    (cases_lt (length cs) n)

-- one taken block more
pub further : (cs : List ℕ) (n : ℕ) → Taken n cs → 0 < get_or cs n 0 → Taken (n + 1) cs
further cs n t h = record {
  slots = omega (arith, t.slots);
  all = λ b l m. ⊎_elim (λ (e : b ≡ n). subst (λ (x : ℕ). 0 < get_or cs x 0) (sym e) h) (λ ne. t.all b l (omega (arith, m, ne))) (cases_eq b n);
}

pub lowered : (cs : List ℕ) (x n m : ℕ) → m ≡ min n (max x 2) → TakenBut x n cs → Taken m cs
lowered cs x n m e t = record {
  slots = omega (arith, e, t.slots);
  all = λ b l h. t.others b l (omega (arith, h, e)) (λ q. absurd (omega (arith, h, e, q, l)));
}

-- what the moves do to the other blocks
pub after_set : (cs : List ℕ) (x v n : ℕ) → Taken n cs → TakenBut x n (set cs x v)
after_set cs x v n t = record {
  slots = t.slots;
  others = λ b l m ne. omega (arith, get_or-set_other cs x b v 0 ne, t.all b l m);
}

opened_by : (ks : List ℕ) (x : ℕ) (cs : List ℕ) (n : ℕ) (one : Bool) → Taken n cs → TakenBut x n (cond one (set cs x 0) (set (add_all ks cs) x (get_or (add_all ks cs) x 0 - 1)))
opened_by ks x cs n true t = after_set cs x 0 n t
opened_by ks x cs n false t = after_set (add_all ks cs) x (get_or (add_all ks cs) x 0 - 1) n (record { slots = t.slots; all = λ b l m. omega (arith, add_all_ge ks cs b, t.all b l m) })

pub after_open : (ks : List ℕ) (x : ℕ) (cs : List ℕ) (n : ℕ) → Taken n cs → TakenBut x n (opened ks x cs)
after_open ks x cs n t = opened_by ks x cs n (eqb (get_or cs x 0) 1) t

pub up_to : (cs : List ℕ) (n m : ℕ) → Taken n cs → n ≤ m → ((i : ℕ) → n ≤ i → i < m → 0 < get_or cs i 0) → Taken m cs
up_to cs n m t on over = record {
  slots = omega (arith, t.slots, on);
  all = λ b l h. ⊎_elim (λ (e : b < n). t.all b l e) (λ (e : n ≤ b). over b e h) (cases_lt b n);
}
