-- Pages in memory, and their words.
use Rattle.std.proofs.Common.{◌≡◌, ℕ, zero, suc, ◌<◌, ◌≤◌, List, [], ◌∷◌, map, length, get_or, Some, refl, ap, ◌∙◌, arith}
use Rattle.std.proofs.lemmas.List.{get_or-map, length-map, length-take}
use Rattle.page.specs.InUse.{in_use}
use Rattle.page.specs.Block.{children, kids_of, Layout}
use Rattle.page.specs.View.{pair, entries, view}
use Rattle.page.specs.declared.page.Entry.{Entry}
use Rattle.page.specs.declared.page.Page.{Page}

pub entries_length : (p : Page) → length (entries p) ≡ length (in_use p.entries)
entries_length p = length-map (in_use p.entries) pair

pub entries_at : (p : Page) (i : ℕ) (r : Entry) → i < length (in_use p.entries) → get_or (entries p) i (0, 0) ≡ pair (get_or (in_use p.entries) i r)
entries_at p i r h = get_or-map pair (in_use p.entries) i r (0, 0) h

pub entries_few : (p : Page) → length (entries p) ≤ 15
entries_few p = omega (arith, entries_length p, length-take p.entries.len p.entries.cells, p.entries.few)

nought : Entry
nought = record { speed = 0; value = 0; small = (omega arith, omega arith) }

-- a page has words
pub laid_out : (p : Page) (w : ℕ) → 32 ≤ w → p.level < 5 → Layout w (view p)
laid_out p w h k = record {
  wide = h;
  few = entries_few p;
  low = k;
  small = λ i l.
      let e = entries_at p i nought (omega (arith, entries_length p)) in
      let it : Entry = get_or (in_use p.entries) i nought in
      (omega (arith, ap (λ (q : ℕ × ℕ). q.0) e, it.small.0), omega (arith, ap (λ (q : ℕ × ℕ). q.1) e, it.small.1));
}

kids_of_lem : (l : ℕ) (es : List (ℕ × ℕ)) → 0 < l → children l es ≡ map (λ e. e.1) es
kids_of_lem zero es h = absurd (omega arith)
kids_of_lem (suc l) es h = refl

pub page_kids_length : (p : Page) → 0 < p.level → length (kids_of (Some (view p))) ≡ length (in_use p.entries)
page_kids_length p h = ap length (kids_of_lem p.level (entries p) h) ∙ length-map (entries p) (λ e. e.1) ∙ entries_length p

pub page_kids_at : (p : Page) (i : ℕ) (r : Entry) → 0 < p.level → i < length (in_use p.entries) → get_or (kids_of (Some (view p))) i 0 ≡ (get_or (in_use p.entries) i r).value
page_kids_at p i r h lt =
    ap (λ ks. get_or ks i 0) (kids_of_lem p.level (entries p) h)
    ∙ get_or-map (λ e. e.1) (entries p) i (0, 0) 0 (omega (arith, entries_length p))
    ∙ ap (λ e. e.1) (entries_at p i r lt)

pub page_kids : (p : Page) → 0 < p.level → kids_of (Some (view p)) ≡ map (λ (e : Entry). e.value) (in_use p.entries)
page_kids p h = kids_of_lem p.level (entries p) h ∙ values (in_use p.entries)
  where
    values : (xs : List Entry) → map (λ (e : ℕ × ℕ). e.1) (map pair xs) ≡ map (λ (e : Entry). e.value) xs
    values [] = refl
    values (x ∷ xs) = ap (λ ks. x.value ∷ ks) (values xs)
