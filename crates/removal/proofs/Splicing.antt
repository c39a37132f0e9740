-- Pages to which code adds the entries of a neighbour, or one of them.
use Rattle.std.proofs.Common.{◌≡◌, ℕ, suc, ◌-◌, ◌<◌, List, [], ◌∷◌, ◌++◌, map, length, get_or, take, drop, slice_range, sym, refl, ap, ◌∙◌, ap₂, append-nil, not-suc-le-zero, arith, length-drop}
use Rattle.std.proofs.lemmas.List.{take_all, drop_all}
use Rattle.tree.specs.Node.{first}
use Rattle.page.specs.InUse.{in_use}
use Rattle.page.specs.View.{pair, entries}
use Rattle.page.specs.declared.page.Page.{Page}
use Rattle.page.specs.declared.page.Entry.{Entry}
use Rattle.page.proofs.Pages.{entries_length, entries_at}
use Rattle.removal.proofs.Indexed.{drop_one}

-- others after seven entries
pub at_end : (es us vs : List (ℕ × ℕ)) → length es ≡ 7 → us ≡ vs → take 7 es ++ (us ++ drop 7 es) ≡ es ++ vs
at_end es us vs n e = ap₂ (λ (a b : List (ℕ × ℕ)). a ++ (us ++ b)) (take_all 7 es (omega (arith, n))) (drop_all 7 es (omega (arith, n))) ∙ ap (λ (z : List (ℕ × ℕ)). es ++ z) (append-nil us ∙ e)

-- others before the entries
pub at_start : (es us vs : List (ℕ × ℕ)) → us ≡ vs → take 0 es ++ (us ++ drop 0 es) ≡ vs ++ es
at_start [] us vs e = ap (λ (z : List (ℕ × ℕ)). z ++ []) e
at_start (x ∷ es) us vs e = ap (λ (z : List (ℕ × ℕ)). z ++ x ∷ es) e

-- the first entry, and the rest
pub first_is : (p : Page) (x : Entry) (es : List Entry) → 0 < length (in_use p.entries) → es ≡ (in_use p.entries) → x ≡ get_or es 0 x → pair x ∷ [] ≡ take 1 (entries p)
first_is p x es h e is = ap (λ (z : Entry). pair z ∷ []) is ∙ ap (λ (zs : List Entry). pair (get_or zs 0 x) ∷ []) e ∙ go (in_use p.entries) h
  where
    go : (es : List Entry) → 0 < length es → pair (get_or es 0 x) ∷ [] ≡ take 1 (map pair es)
    go [] h = absurd (not-suc-le-zero h)
    go (z ∷ es) h = refl

pub but_first : (p : Page) (n : ℕ) → n ≡ length (in_use p.entries) → slice_range (entries p) 1 n ≡ drop 1 (entries p)
but_first p n e = take_all (n - 1) (drop 1 (entries p)) (omega (arith, length-drop 1 (entries p), entries_length p, e))

-- the last entry, and the rest
pub last_is : (p : Page) (n : ℕ) (d : Entry) (es : List Entry) → 0 < n → n ≡ length (in_use p.entries) → es ≡ (in_use p.entries) → d ≡ get_or es (n - 1) d → pair d ∷ [] ≡ drop (length (entries p) - 1) (entries p)
last_is p n d es h e same is =
    let k : ℕ = length (entries p) - 1 in
    let kn : n - 1 ≡ k = omega (arith, e, entries_length p) in
    ap (λ (z : Entry). pair z ∷ []) is ∙ ap₂ (λ (zs : List Entry) (i : ℕ). pair (get_or zs i d) ∷ []) same kn
    ∙ ap₂ (λ (x : ℕ × ℕ) (z : List (ℕ × ℕ)). x ∷ z) (sym (entries_at p k d (omega (arith, kn, e, h)))) (sym (drop_all (suc k) (entries p) (omega arith)))
    ∙ sym (drop_one (entries p) k (0, 0) (omega (arith, kn, e, h, entries_length p)))

pub but_last : (p : Page) (n : ℕ) → n ≡ length (in_use p.entries) → slice_range (entries p) 0 (n - 1) ≡ take (length (in_use p.entries) - 1) (entries p)
but_last p n e = ap₂ (λ (k : ℕ) (es : List (ℕ × ℕ)). take k es) (omega (arith, e)) (none (entries p))
  where
    none : (es : List (ℕ × ℕ)) → drop 0 es ≡ es
    none [] = refl
    none (x ∷ es) = refl

-- a page's first speed fits an entry
pub first_small : (p : Page) → first (entries p) < 268435456
first_small p = go (in_use p.entries)
  where
    go : (xs : List Entry) → first (map pair xs) < 268435456
    go [] = omega arith
    go (x ∷ xs) = x.small.0
