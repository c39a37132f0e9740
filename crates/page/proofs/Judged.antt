-- Words judged where they lie: they are a page's where each is what the page that is read of them has in its place.
use Rattle.std.proofs.Common.{◌≡◌, ℕ, zero, suc, ◌+◌, ◌-◌, ◌*◌, ◌/◌, ◌%◌, ◌<◌, ◌≤◌, Bool, true, false, cond, eqb, List, [], ◌∷◌, ◌++◌, length, get_or, drop, replicate, is_some, Some, None, sym, refl, ap, ◌∙◌, ⊎_elim, arith, length-append}
use lib.ListN.{length-replicate}
use Rattle.std.specs.List.{list_all}
use Rattle.std.proofs.lemmas.Bool.{false≢true, eq-eqb, eqb-true, and_from, and_parts, cases_eq, cases_lt}
use Rattle.std.proofs.lemmas.List.{ext_get_or, get_or-drop}
use Rattle.word.specs.Words.{payload_of, word_of}
use Rattle.page.specs.Block.{value_kind, header_of, flat, read, encode, same, decode}
use Rattle.page.proofs.Words.{same_eq, same_refl, flat_length, decode_by}
use Rattle.page.proofs.Seen.{read_length, read_at}

-- the words of pair k are a speed and a value of a block of this level
pub record Pair (ws : List ℕ) (level k : ℕ) : Type 0 where
  pub speed : get_or ws (2 * k + 2) 0 ≡ word_of 3 (payload_of (get_or ws (2 * k + 2) 0))
  pub value : get_or ws (2 * k + 3) 0 ≡ word_of (value_kind level) (payload_of (get_or ws (2 * k + 3) 0))

-- the words of entries, one by one, and the zeros behind them
flat_speed : (k : ℕ) (es : List (ℕ × ℕ)) (zs : List ℕ) (i : ℕ) → i < length es → get_or (flat k es ++ zs) (2 * i) 0 ≡ word_of 3 (get_or es i (0, 0)).0
flat_speed k [] zs i h = absurd (omega arith)
flat_speed k (e ∷ es) zs zero h = refl
flat_speed k (e ∷ es) zs (suc i) h = ap (λ j. get_or (flat k (e ∷ es) ++ zs) j 0) (let q : 2 * suc i ≡ suc (suc (2 * i)) = omega arith in q) ∙ flat_speed k es zs i (omega arith)

flat_value : (k : ℕ) (es : List (ℕ × ℕ)) (zs : List ℕ) (i : ℕ) → i < length es → get_or (flat k es ++ zs) (2 * i + 1) 0 ≡ word_of k (get_or es i (0, 0)).1
flat_value k [] zs i h = absurd (omega arith)
flat_value k (e ∷ es) zs zero h = refl
flat_value k (e ∷ es) zs (suc i) h = ap (λ j. get_or (flat k (e ∷ es) ++ zs) j 0) (let q : 2 * suc i + 1 ≡ suc (suc (2 * i + 1)) = omega arith in q) ∙ flat_value k es zs i (omega arith)

flat_zero : (k : ℕ) (es : List (ℕ × ℕ)) (n j : ℕ) → 2 * length es ≤ j → get_or (flat k es ++ replicate n 0) j 0 ≡ 0
flat_zero k [] zero j h = refl
flat_zero k [] (suc n) zero h = refl
flat_zero k [] (suc n) (suc j) h = flat_zero k [] n j (omega arith)
flat_zero k (e ∷ es) n zero h = absurd (omega arith)
flat_zero k (e ∷ es) n (suc zero) h = absurd (omega arith)
flat_zero k (e ∷ es) n (suc (suc j)) h = flat_zero k es n j (omega arith)

-- whether all words are zeros
pub zeros_at : (xs : List ℕ) → list_all (λ (w : ℕ). eqb w 0) xs ≡ true → (j : ℕ) → get_or xs j 0 ≡ 0
zeros_at [] h j = refl
zeros_at (x ∷ xs) h zero = eqb-true x 0 (and_parts (eqb x 0) (list_all (λ (w : ℕ). eqb w 0) xs) h).0
zeros_at (x ∷ xs) h (suc j) = zeros_at xs (and_parts (eqb x 0) (list_all (λ (w : ℕ). eqb w 0) xs) h).1 j

pub all_zeros : (xs : List ℕ) → ((j : ℕ) → get_or xs j 0 ≡ 0) → list_all (λ (w : ℕ). eqb w 0) xs ≡ true
all_zeros [] h = refl
all_zeros (x ∷ xs) h = and_from (eqb x 0) (list_all (λ (w : ℕ). eqb w 0) xs) (eq-eqb x 0 (h 0)) (all_zeros xs (λ j. h (suc j)))

module _ (ws : List ℕ) (wide : 32 ≤ length ws) (few : get_or ws 0 0 % 256 ≤ 15) (low : get_or ws 0 0 % 268435456 / 256 ≤ 4) where
  abbrev n : ℕ
  n = get_or ws 0 0 % 256

  abbrev level : ℕ
  level = get_or ws 0 0 % 268435456 / 256

  abbrev es : List (ℕ × ℕ)
  es = (read ws).entries

  abbrev own : List ℕ
  own = encode (length ws) (read ws)

  -- a test of the words that holds just where they are those of the page that is read
  pub judged : (t : Bool) → (t ≡ true → ws ≡ own) → (ws ≡ own → t ≡ true) → t ≡ is_some (decode ws)
  judged t if_so so = go t (same ws own) if_so so refl ∙ ap is_some (decode_by ws (read ws) (same ws own) few low refl refl)
    where
      go : (t s : Bool) → (t ≡ true → ws ≡ own) → (ws ≡ own → t ≡ true) → s ≡ same ws own → t ≡ is_some (cond s (Some (read ws)) None)
      go true true if_so so e = refl
      go false false if_so so e = refl
      go true false if_so so e = absurd (false≢true (e ∙ ap (λ (xs : List ℕ). same ws xs) (sym (if_so refl)) ∙ same_refl ws))
      go false true if_so so e = so (same_eq ws own (sym e))

  own_length : length ws ≡ length own
  own_length = omega (arith, length-append (flat (value_kind level) es) (replicate (length ws - 2 - 2 * length es) 0), flat_length (value_kind level) es, length-replicate {A = ℕ} (length ws - 2 - 2 * length es) 0, read_length ws, wide, few)

  own_speed : (i : ℕ) → i < length es → get_or own (2 * i + 2) 0 ≡ word_of 3 (payload_of (get_or ws (2 * i + 2) 0))
  own_speed i h =
      ap (λ j. get_or own j 0) (let q : 2 * i + 2 ≡ suc (suc (2 * i)) = omega arith in q)
      ∙ flat_speed (value_kind level) es (replicate (length ws - 2 - 2 * length es) 0) i h ∙ ap (λ (e : ℕ × ℕ). word_of 3 e.0) (read_at ws i h)

  own_value : (i : ℕ) → i < length es → get_or own (2 * i + 3) 0 ≡ word_of (value_kind level) (payload_of (get_or ws (2 * i + 3) 0))
  own_value i h =
      ap (λ j. get_or own j 0) (let q : 2 * i + 3 ≡ suc (suc (2 * i + 1)) = omega arith in q)
      ∙ flat_value (value_kind level) es (replicate (length ws - 2 - 2 * length es) 0) i h ∙ ap (λ (e : ℕ × ℕ). word_of (value_kind level) e.1) (read_at ws i h)

  own_zero : (j : ℕ) → 2 * length es + 2 ≤ j → get_or own j 0 ≡ 0
  own_zero zero h = absurd (omega arith)
  own_zero (suc zero) h = absurd (omega arith)
  own_zero (suc (suc j)) h = flat_zero (value_kind level) es (length ws - 2 - 2 * length es) j (omega arith)

  -- what the words of a page are, one by one
  pub own_pair : ws ≡ own → (i : ℕ) → i < n → Pair ws level i
  own_pair e i h =
      let l : i < length es = omega (arith, read_length ws, h) in
      record { speed = ap (λ xs. get_or xs (2 * i + 2) 0) e ∙ own_speed i l; value = ap (λ xs. get_or xs (2 * i + 3) 0) e ∙ own_value i l }

  pub own_rest : ws ≡ own → list_all (λ (w : ℕ). eqb w 0) (drop (2 * n + 2) ws) ≡ true
  own_rest e = all_zeros (drop (2 * n + 2) ws) (λ j. get_or-drop (2 * n + 2) ws j 0 ∙ ap (λ xs. get_or xs (2 * n + 2 + j) 0) e ∙ own_zero (2 * n + 2 + j) (omega (arith, read_length ws)))

  -- words that are so, one by one, are those of a page
  pub all_own : get_or ws 0 0 ≡ header_of level n → get_or ws 1 0 ≡ 0 → ((k : ℕ) → k < n → Pair ws level k) → list_all (λ (w : ℕ). eqb w 0) (drop (2 * n + 2) ws) ≡ true → ws ≡ own
  all_own head second pairs rest = ext_get_or 0 ws own own_length (λ k h. at k)
    where
      in_pair : (k : ℕ) → 2 ≤ k → k < 2 * n + 2 → get_or ws k 0 ≡ get_or own k 0
      in_pair k two h =
          let i : ℕ = (k - 2) / 2 in
          let l : i < n = omega arith in
          let m : i < length es = omega (arith, read_length ws, l) in
          ⊎_elim
          (λ even.
          let q : 2 * i + 2 ≡ k = omega (arith, even, two) in
          ap (λ j. get_or ws j 0) (sym q) ∙ (pairs i l).speed ∙ sym (own_speed i m) ∙ ap (λ j. get_or own j 0) q)
          (λ odd.
          let q : 2 * i + 3 ≡ k = omega (arith, odd, two) in
          ap (λ j. get_or ws j 0) (sym q) ∙ (pairs i l).value ∙ sym (own_value i m) ∙ ap (λ j. get_or own j 0) q)
          (cases_eq (k % 2) 0)

      behind : (k : ℕ) → 2 * n + 2 ≤ k → get_or ws k 0 ≡ get_or own k 0
      behind k h =
          let q : 2 * n + 2 + (k - (2 * n + 2)) ≡ k = omega (arith, h) in
          ap (λ j. get_or ws j 0) (sym q) ∙ sym (get_or-drop (2 * n + 2) ws (k - (2 * n + 2)) 0) ∙ zeros_at (drop (2 * n + 2) ws) rest (k - (2 * n + 2)) ∙ sym (own_zero k (omega (arith, read_length ws, h)))

      at : (k : ℕ) → get_or ws k 0 ≡ get_or own k 0
      at zero = head ∙ ap (header_of level) (sym (read_length ws))
      at (suc zero) = second
      at (suc (suc k)) = ⊎_elim (in_pair (suc (suc k)) (omega arith)) (behind (suc (suc k))) (cases_lt (suc (suc k)) (2 * n + 2))
