-- Words of tree blocks, written and read in order.
use Rattle.std.proofs.Common.{◌≡◌, ℕ, zero, suc, ◌+◌, ◌-◌, ◌*◌, ◌/◌, ◌%◌, ◌<◌, ◌≤◌, Bool, true, cond, ◌&&◌, ltb, leb, List, [], ◌∷◌, ◌++◌, length, get_or, take, drop, set, replicate, Some, None, sym, refl, ap, ◌∙◌, arith, length-append}
use Rattle.std.proofs.lemmas.List.{take_more, append_assoc, set_at, length-take-le}
use Rattle.std.proofs.lemmas.Slice.Eq.{bytes_eq-Decides}
use Rattle.std.proofs.lemmas.Bool.{and_from, le-leb, lt-ltb}
use Rattle.word.specs.Words.{word_of}
use Rattle.page.specs.Block.{Block, flat, pairs, encode, read, same, decode}

pub flat_push : (k : ℕ) (es : List (ℕ × ℕ)) (e : ℕ × ℕ) → flat k (es ++ e ∷ []) ≡ flat k es ++ word_of 3 e.0 ∷ word_of k e.1 ∷ []
flat_push k [] e = refl
flat_push k (x ∷ es) e = ap (λ r. word_of 3 x.0 ∷ word_of k x.1 ∷ r) (flat_push k es e)

pub flat_length : (k : ℕ) (es : List (ℕ × ℕ)) → length (flat k es) ≡ 2 * length es
flat_length k [] = refl
flat_length k (e ∷ es) = omega (arith, flat_length k es)

-- One entry written, over zeros.
pub enc_step : (out : List ℕ) (w k h i : ℕ) (es : List (ℕ × ℕ)) (s v b : ℕ) → 2 * i + 3 < w → i < length es → get_or es i (0, 0) ≡ (s, v) → b ≡ word_of k v
    → out ≡ h ∷ 0 ∷ (flat k (take i es) ++ replicate (w - 2 - 2 * i) 0)
    → set (set out (2 * i + 2) (word_of 3 s)) (2 * i + 3) b ≡ h ∷ 0 ∷ (flat k (take (i + 1) es) ++ replicate (w - 2 - 2 * (i + 1)) 0)
enc_step out w k h i es s v b l lt e eb inv =
    let P : List ℕ = h ∷ 0 ∷ flat k (take i es) in
    let R : List ℕ = replicate (w - 2 - 2 * (i + 1)) 0 in
    let n : w - 2 - 2 * i ≡ suc (suc (w - 2 - 2 * (i + 1))) = omega arith in
    let z : P ++ replicate (w - 2 - 2 * i) 0 ≡ P ++ 0 ∷ 0 ∷ R = ap (λ m. P ++ replicate m 0) n in
    let len : length P ≡ 2 * i + 2 = omega (arith, flat_length k (take i es), length-take-le i es (omega arith)) in
    let last : length (P ++ word_of 3 s ∷ []) ≡ 2 * i + 3 = omega (arith, length-append P (word_of 3 s ∷ []), len) in
    ap (λ xs. set (set xs (2 * i + 2) (word_of 3 s)) (2 * i + 3) b) (inv ∙ z)
    ∙ ap (λ xs. set xs (2 * i + 3) b) (set_at P 0 (0 ∷ R) (word_of 3 s) (2 * i + 2) len ∙ sym (append_assoc P (word_of 3 s ∷ []) (0 ∷ R)))
    ∙ set_at (P ++ word_of 3 s ∷ []) 0 R b (2 * i + 3) last
    ∙ append_assoc P (word_of 3 s ∷ []) (b ∷ R)
    ∙ ap (λ x. P ++ word_of 3 s ∷ x ∷ R) eb
    ∙ sym (ap (λ xs. h ∷ 0 ∷ (xs ++ R)) (ap (flat k) (take_more es i (0, 0) lt ∙ ap (λ p. take i es ++ p ∷ []) e) ∙ flat_push k (take i es) (s, v))
    ∙ append_assoc P (word_of 3 s ∷ word_of k v ∷ []) R)

pub same_refl : (xs : List ℕ) → same xs xs ≡ true
same_refl xs = (bytes_eq-Decides xs xs).1 refl

pub same_eq : (xs ys : List ℕ) → same xs ys ≡ true → xs ≡ ys
same_eq xs ys h = (bytes_eq-Decides xs ys).0 h

pub pairs_length : (n : ℕ) (ws : List ℕ) → length (pairs n ws) ≡ n
pairs_length zero ws = refl
pairs_length (suc n) ws = ap suc (pairs_length n (drop 2 ws))

fits_yes : (n l : ℕ) (ws : List ℕ) → n ≤ 15 → l ≤ 4 → (leb (length (pairs n ws)) 15 && ltb l 5) ≡ true
fits_yes n l ws a b = and_from (leb (length (pairs n ws)) 15) (ltb l 5) (le-leb (length (pairs n ws)) 15 (omega (arith, pairs_length n ws))) (lt-ltb l 5 (omega arith))

-- where there are not too many entries and the level is not too high, the test decides
pub decode_by : (ws : List ℕ) (n : Block) (b : Bool) → get_or ws 0 0 % 256 ≤ 15 → get_or ws 0 0 % 268435456 / 256 ≤ 4 → n ≡ read ws → b ≡ same ws (encode (length ws) n) → cond b (Some n) None ≡ decode ws
decode_by ws n b h l e t =
    ap (λ d. cond d (Some n) None) t
    ∙ ap (λ m. cond (same ws (encode (length ws) m)) (Some m) None) e
    ∙ ap (λ d. cond (d && same ws (encode (length ws) (read ws))) (Some (read ws)) None) (sym (fits_yes (get_or ws 0 0 % 256) (get_or ws 0 0 % 268435456 / 256) (drop 2 ws) h l))
