-- Rows written to a slice.
use Rattle.std.proofs.Common.{◌≡◌, ℕ, zero, suc, ◌+◌, ◌-◌, ◌<◌, ◌≤◌, min, true, cond, eqb, leb, List, [], ◌∷◌, ◌++◌, map, length, take, drop, set, ℤ, sym, refl, ap, ◌∙◌, append-nil, length-append, length-drop, arith}
use Rattle.std.proofs.lemmas.Bool.{cond_both, eqb-true, lt-leb, le-leb, leb-true}
use borrow.Rule.Slice.PartMut.{put_mid, mid_of, post_of}
use Rattle.std.proofs.Math.ListN.{drop_of_length-le}
use Rattle.std.proofs.lemmas.List.{take_all}
use Rattle.std.proofs.lemmas.List.Elements.{filter-append}
use Rattle.tree.specs.Node.{Asc, map_e}
use Rattle.table.specs.declared.pair.Pair.{Pair}
use Rattle.model.specs.Plain.{from}
use Rattle.model.specs.TreeBlocks.{Each}
use Rattle.reads.specs.Lists.{row_in, pair_for, due, written}
use Rattle.reads.proofs.Lists.{asc_above}

pub length_written : (rs : List (ℕ × ℤ)) (out : List Pair) → length (written rs out) ≡ length out
length_written [] out = refl
length_written (r ∷ rs) [] = refl
length_written (r ∷ rs) (p ∷ out) = ap suc (length_written rs out)

-- one row more, where there is room for it, and where there is none
pub written_one : (rs : List (ℕ × ℤ)) (r : ℕ × ℤ) (out : List Pair) → length rs < length out → written (rs ++ (r ∷ [])) out ≡ set (written rs out) (length rs) (pair_for r)
written_one [] r [] h = absurd (omega arith)
written_one [] r (p ∷ out) h = refl
written_one (q ∷ rs) r [] h = absurd (omega arith)
written_one (q ∷ rs) r (p ∷ out) h = ap (λ (z : List Pair). pair_for q ∷ z) (written_one rs r out (omega arith))

pub written_full : (rs : List (ℕ × ℤ)) (r : ℕ × ℤ) (out : List Pair) → length out ≤ length rs → written (rs ++ (r ∷ [])) out ≡ written rs out
written_full [] r [] h = refl
written_full [] r (p ∷ out) h = absurd (omega arith)
written_full (q ∷ rs) r [] h = refl
written_full (q ∷ rs) r (p ∷ out) h = ap (λ (z : List Pair). pair_for q ∷ z) (written_full rs r out (omega arith))

pub written_none : (rs : List (ℕ × ℤ)) → written rs [] ≡ []
written_none [] = refl
written_none (r ∷ rs) = refl

-- more rows go to the rest of the slice
pub written_more : (n : ℕ) (rs qs : List (ℕ × ℤ)) (out : List Pair) → n ≡ min (length out) (length rs) → written (rs ++ qs) out ≡ take n (written rs out) ++ written qs (drop n (written rs out))
written_more zero [] qs out e = refl
written_more (suc n) [] qs out e = absurd (omega arith)
written_more zero (r ∷ rs) qs [] e = sym (written_none qs)
written_more (suc n) (r ∷ rs) qs [] e = absurd (omega arith)
written_more zero (r ∷ rs) qs (p ∷ out) e = absurd (omega arith)
written_more (suc n) (r ∷ rs) qs (p ∷ out) e = ap (λ (z : List Pair). pair_for r ∷ z) (written_more n rs qs out (omega arith))

-- what a slice shows afterwards
pub shown : (n : ℕ) (rs : List (ℕ × ℤ)) (out : List Pair) → n ≡ min (length out) (length rs) → map row_in (take n (written rs out)) ≡ take (length out) rs
shown zero [] [] e = refl
shown zero [] (p ∷ out) e = refl
shown (suc n) [] out e = absurd (omega arith)
shown zero (r ∷ rs) [] e = refl
shown (suc n) (r ∷ rs) [] e = absurd (omega arith)
shown zero (r ∷ rs) (p ∷ out) e = absurd (omega arith)
shown (suc n) (r ∷ rs) (p ∷ out) e = ap (λ (z : List (ℕ × ℤ)). r ∷ z) (shown n rs out (omega arith))

pub beyond : (n : ℕ) (rs : List (ℕ × ℤ)) (out : List Pair) → n ≡ min (length out) (length rs) → drop n (written rs out) ≡ drop n out
beyond zero [] out e = refl
beyond (suc n) [] out e = absurd (omega arith)
beyond zero (r ∷ rs) [] e = refl
beyond (suc n) (r ∷ rs) [] e = absurd (omega arith)
beyond zero (r ∷ rs) (p ∷ out) e = absurd (omega arith)
beyond (suc n) (r ∷ rs) (p ∷ out) e = beyond n rs out (omega arith)

-- the rows from a speed on
pub due_append : (s : ℕ) (xs ys : List (ℕ × ℤ)) → due s (xs ++ ys) ≡ due s xs ++ due s ys
due_append s xs ys = filter-append (λ (r : ℕ × ℤ). leb s r.0) xs ys

pub due_one : (s : ℕ) (r : ℕ × ℤ) → s ≤ r.0 → due s (r ∷ []) ≡ r ∷ []
due_one s r h = rw (le-leb s r.0 h) refl

pub due_not : (s : ℕ) (r : ℕ × ℤ) → r.0 < s → due s (r ∷ []) ≡ []
due_not s r h = rw (lt-leb s r.0 h) refl

module _ {X : Type 0} (f : X → ℤ) (s : ℕ) where
  pub due_below : (xs : List (ℕ × X)) → Each (λ (r : ℕ × X). r.0 < s) xs → due s (map_e f xs) ≡ []
  due_below [] h = refl
  due_below (e ∷ r) h = rw (lt-leb s e.0 h.0) (due_below r h.1)

  due_above : (xs : List (ℕ × X)) → Each (λ (r : ℕ × X). s ≤ r.0) xs → due s (map_e f xs) ≡ map_e f xs
  due_above [] h = refl
  due_above (e ∷ r) h = rw (le-leb s e.0 h.0) (ap (λ (z : List (ℕ × ℤ)). (e.0, f e.1) ∷ z) (due_above r h.1))

  pub from_due : (lo hi : ℕ) (xs : List (ℕ × X)) → Asc lo hi xs → from s (map_e f xs) ≡ due s (map_e f xs)
  from_due lo hi [] p = refl
  from_due lo hi (e ∷ r) p =
      cond_both (leb s e.0) ((e.0, f e.1) ∷ map_e f r) (from s (map_e f r)) (λ (z : List (ℕ × ℤ)). z ≡ cond (leb s e.0) ((e.0, f e.1) ∷ due s (map_e f r)) (due s (map_e f r)))
      (λ t. rw t (ap (λ (z : List (ℕ × ℤ)). (e.0, f e.1) ∷ z) (sym (due_above r (asc_above s p.1.0 hi r (omega (arith, leb-true s e.0 t, p.1.1)) p.1.2)))))
      (λ t. rw t (from_due p.1.0 hi r p.1.2))

-- the part of a slice from n on, lent to a callee and back
mid_rest : (n : ℕ) (out : List Pair) → mid_of n (length out - n) out ≡ drop n out
mid_rest n out = take_all (length out - n) (drop n out) (omega (arith, length-drop n out))

put_rest : (n : ℕ) (out new : List Pair) → n ≤ length out → put_mid n (length out - n) out new ≡ take n out ++ new
put_rest n out new h = ap (λ (z : List Pair). take n out ++ (new ++ z)) none ∙ ap (λ (z : List Pair). take n out ++ z) (append-nil new)
  where
    none : post_of n (length out - n) out ≡ []
    none = drop_of_length-le (drop n out) (omega (arith, length-drop n out))

-- rows rs were written, n of them; then rows qs are written to the rest, k of them
pub record Both (n k : ℕ) (rs qs : List (ℕ × ℤ)) (first out new : List Pair) : Type 0 where
  pub count : n + k ≡ min (length first) (length (rs ++ qs))
  pub listed : put_mid n (length out - n) out new ≡ written (rs ++ qs) first

pub both : (n k : ℕ) (rs qs : List (ℕ × ℤ)) (first out new : List Pair) → n ≡ min (length first) (length rs) → out ≡ written rs first
    → k ≡ min (length (mid_of n (length out - n) out)) (length qs) → new ≡ written qs (mid_of n (length out - n) out) → Both n k rs qs first out new
both n k rs qs first out new a e b f =
    let size : length out ≡ length first = ap length e ∙ length_written rs first in
    let rest = mid_rest n out in
    record {
      count = omega (arith, a, b, ap length rest, length-drop n out, size, length-append rs qs);
      listed = put_rest n out new (omega arith) ∙ ap (λ (z : List Pair). take n out ++ z) (f ∙ ap (written qs) rest)
          ∙ ap (λ (z : List Pair). take n z ++ written qs (drop n z)) e ∙ sym (written_more n rs qs first a);
    }

pub empty_slice : (rs : List (ℕ × ℤ)) (out : List Pair) → eqb (length out) 0 ≡ true → out ≡ written rs out
empty_slice rs [] h = sym (written_none rs)
empty_slice rs (p ∷ out) h = absurd (omega (arith, eqb-true (suc (length out)) 0 h))
