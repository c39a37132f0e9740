-- The first records of an image, taken one after another.
use Rattle.std.proofs.Common.{◌≡◌, ℕ, ◌+◌, ◌-◌, ◌*◌, ◌/◌, ◌<◌, ◌≤◌, List, ◌++◌, length, get_or, take, drop, sym, ap, ◌∙◌, ⊎_elim, arith, add-mul}
use Rattle.std.proofs.lemmas.Nat.{mul-le, div-mul-add}
use Rattle.std.proofs.lemmas.Bool.{cases_lt}
use Rattle.std.proofs.lemmas.List.{length-take-le, length-drop, length-append, drop-drop, drop-append-le, drop_all, take-append-drop, get_or-take, get_or-drop, get_or_append_left}
use Rattle.log_device.specs.Log.{place_of}
use Rattle.device.proofs.Tables.{rows}

-- what is left after i of k records
abbrev pub left_of : List ℕ → ℕ → ℕ → ℕ → List ℕ
left_of img w k i = drop (i * (w + 1)) (take (k * (w + 1)) (drop 1 img))

module _ (img : List ℕ) (w k : ℕ) (room : place_of w k ≤ length img) where
  left_length : (i : ℕ) → length (left_of img w k i) ≡ k * (w + 1) - i * (w + 1)
  left_length i =
      let d : length (drop 1 img) ≡ length img - 1 = length-drop 1 img in
      length-drop (i * (w + 1)) (take (k * (w + 1)) (drop 1 img)) ∙ ap (λ n. n - i * (w + 1)) (length-take-le (k * (w + 1)) (drop 1 img) (omega arith))

  pub one_more : (i : ℕ) → w + 1 ≤ length (left_of img w k i) → i < k
  one_more i h = ⊎_elim (λ (l : i < k). l) (λ (g : k ≤ i). absurd (omega (arith, left_length i, mul-le k (w + 1) i (w + 1) g (omega arith)))) (cases_lt i k)

  pub no_more : (i : ℕ) → length (left_of img w k i) < w + 1 → k ≤ i
  no_more i h = ⊎_elim (λ (l : i < k). absurd (omega (arith, left_length i, rows i k (w + 1) l))) (λ (g : k ≤ i). g) (cases_lt i k)

  module _ (i : ℕ) (xs ys : List ℕ) (cut : left_of img w k i ≡ xs ++ ys) (size : length xs ≡ w + 1) where
    pub is_one : i < k
    is_one = one_more i (omega (arith, ap length cut, length-append xs ys))

    pub rest_left : ys ≡ left_of img w k (i + 1)
    rest_left =
        sym (ap (λ zs. zs ++ ys) (drop_all (w + 1) xs (omega arith))) ∙ sym (drop-append-le (w + 1) xs ys (omega arith)) ∙ ap (drop (w + 1)) (sym cut)
        ∙ drop-drop (w + 1) (i * (w + 1)) (take (k * (w + 1)) (drop 1 img)) ∙ ap (λ n. drop n (take (k * (w + 1)) (drop 1 img))) (sym (add-mul i 1 (w + 1) ∙ omega arith))

    pub word_at : get_or xs 0 0 ≡ get_or img (place_of w i) 0
    word_at =
        sym (get_or_append_left xs ys 0 0 (omega arith)) ∙ ap (λ zs. get_or zs 0 0) (sym cut) ∙ get_or-drop (i * (w + 1)) (take (k * (w + 1)) (drop 1 img)) 0 0
        ∙ get_or-take (k * (w + 1)) (drop 1 img) (i * (w + 1) + 0) 0 (omega (arith, rows i k (w + 1) is_one))
        ∙ get_or-drop 1 img (i * (w + 1) + 0) 0 ∙ ap (λ n. get_or img n 0) (omega arith)

  -- record i among the chunks
  module _ (i : ℕ) (xs : List ℕ) (is : xs ≡ take (w + 1) (left_of img w k i)) (size : length xs ≡ w + 1) where
    whole : left_of img w k i ≡ xs ++ drop (w + 1) (left_of img w k i)
    whole = sym (take-append-drop (w + 1) (left_of img w k i)) ∙ ap (λ zs. zs ++ drop (w + 1) (left_of img w k i)) (sym is)

    pub chunk_is_one : i < k
    chunk_is_one = is_one i xs _ whole size

    pub chunk_word : get_or xs 0 0 ≡ get_or img (place_of w i) 0
    chunk_word = word_at i xs _ whole size

  pub chunks : length (take (k * (w + 1)) (drop 1 img)) / (w + 1) ≡ k
  chunks =
      let d : length (drop 1 img) ≡ length img - 1 = length-drop 1 img in
      let e : length (take (k * (w + 1)) (drop 1 img)) ≡ k * (w + 1) + 0 = omega (arith, length-take-le (k * (w + 1)) (drop 1 img) (omega arith)) in
      ap (λ n. n / (w + 1)) e ∙ div-mul-add k (w + 1) 0 (omega arith)
