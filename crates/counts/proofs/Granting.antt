-- The free blocks, as they are found one after the other.
use Rattle.std.proofs.Common.{◌≡◌, ℕ, zero, suc, ◌+◌, ◌-◌, ◌<◌, ◌≤◌, List, [], ◌∷◌, ◌++◌, length, get_or, sym, refl, ap, ◌∙◌, ap₂, arith}
use Rattle.std.proofs.lemmas.Bool.{lt-ltb, le-ltb}
use Rattle.std.proofs.lemmas.List.{append_assoc, append-nil}
use Rattle.counts.specs.Counts.{spare, free_blocks}

module _ (cs : List ℕ) where
  -- of k blocks from b on, the one at `at` is the first that nothing refers to
  spare_first : (k b j at : ℕ) → at ≡ b + j → j < k → ((i : ℕ) → b ≤ i → i < at → 0 < get_or cs i 0) → get_or cs at 0 ≡ 0 → spare k b cs ≡ at ∷ spare (k - (j + 1)) (at + 1) cs
  spare_first zero b j at e h before here = absurd (omega arith)
  spare_first (suc k) b zero at e h before here =
      let same : at ≡ b = omega arith in
      rw (le-ltb 0 (get_or cs b 0) (omega (arith, ap (λ (x : ℕ). get_or cs x 0) same, here))) (ap₂ (λ (x y : ℕ). x ∷ spare k y cs) (sym same) (omega arith) ∙ ap (λ n. at ∷ spare n (at + 1) cs) (omega arith))
  spare_first (suc k) b (suc j) at e h before here =
      rw (lt-ltb 0 (get_or cs b 0) (before b (omega arith) (omega arith)))
      (spare_first k (suc b) j at (omega arith) (omega arith) (λ i l m. before i (omega arith) m) here ∙ ap (λ n. at ∷ spare n (at + 1) cs) (omega arith))

  -- there is none
  pub spare_none : (k b : ℕ) → ((i : ℕ) → b ≤ i → i < b + k → 0 < get_or cs i 0) → spare k b cs ≡ []
  spare_none zero b all = refl
  spare_none (suc k) b all = rw (lt-ltb 0 (get_or cs b 0) (all b (omega arith) (omega arith))) (spare_none k (suc b) (λ i l m. all i (omega arith) (omega arith)))

  -- a search for a free block from `next` on came to `at`
  module _ (xs : List ℕ) (next at : ℕ) (over : (i : ℕ) → next ≤ i → i < at → 0 < get_or cs i 0) (these : free_blocks cs ≡ xs ++ spare (length cs - next) next cs) where
    pub found_at : next ≤ at → at < length cs → get_or cs at 0 ≡ 0 → free_blocks cs ≡ (xs ++ at ∷ []) ++ spare (length cs - (at + 1)) (at + 1) cs
    found_at on within here =
        these
        ∙ ap (λ (r : List ℕ). xs ++ r) (spare_first (length cs - next) next (at - next) at (omega (arith, on)) (omega (arith, on, within)) over here
        ∙ ap (λ (n : ℕ). at ∷ spare n (at + 1) cs) (omega (arith, on, within))) ∙ sym (append_assoc xs (at ∷ []) (spare (length cs - (at + 1)) (at + 1) cs))

    pub found_end : length cs ≤ at → free_blocks cs ≡ xs
    found_end past =
        these ∙ ap (λ (r : List ℕ). xs ++ r) (spare_none (length cs - next) next (λ i l m. over i l (omega (arith, past, l, m)))) ∙ append-nil xs
