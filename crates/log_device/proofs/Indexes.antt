-- The index of the last records.
use Rattle.std.proofs.Common.{◌≡◌, ℕ, ◌+◌, ◌<◌, cond, eqb, List, [], ◌∷◌, Option, None, Some, get_or, set, replicate, sym, refl, ap, ◌∙◌, ⊎_elim, arith}
use Rattle.std.proofs.lemmas.List.{length-set, get_or-set_same, get_or-set_other}
use Rattle.std.proofs.lemmas.List.FromFn.{map-range_with_len_more}
use Rattle.std.proofs.lemmas.Bool.{cases_eq, eq-eqb, ne_eqb}
use Rattle.device.proofs.Tables.{same_table}
use Rattle.log_device.specs.Log.{last_of, record_at, records, numbered, Indexed}
use Rattle.log_device.specs.Fit.{last_append}

last_next : (w : ℕ) (img : List ℕ) (i b : ℕ) (d : List ℕ) → last_of (records w img (i + 1)) b d ≡ cond (eqb (record_at w img i).0 b) (record_at w img i).1 (last_of (records w img i) b d)
last_next w img i b d = ap (λ rs. last_of rs b d) (map-range_with_len_more (record_at w img) 0 i i (omega arith)) ∙ last_append (records w img i) (record_at w img i ∷ []) b d

same_number : (i j : ℕ) → Some i ≡ Some j → i ≡ j
same_number i j e = cc

-- record i is entered
pub index_more : (img : List ℕ) (n w i b : ℕ) (index : List (Option ℕ)) → Indexed img n w i index → (record_at w img i).0 ≡ b → b < n → Indexed img n w (i + 1) (set index b (Some i))
index_more img n w i b index x e h =
    let here : get_or (set index b (Some i)) b None ≡ Some i = get_or-set_same index b (Some i) None (omega (arith, x.long)) in
    record {
      long = length-set index b (Some i) ∙ x.long;
      within = λ c j c< q. ⊎_elim
          (λ (p : c ≡ b). omega (arith, same_number i j (sym here ∙ ap (λ d. get_or (set index b (Some i)) d None) (sym p) ∙ q)))
          (λ (ne : c ≡ b → ⊥). omega (arith, x.within c j c< (sym (get_or-set_other index b c (Some i) None ne) ∙ q)))
          (cases_eq c b);
      last = λ c c<. last_next w img i c (replicate w 0) ∙ ⊎_elim
          (λ (p : c ≡ b).
          ap (λ t. cond t (record_at w img i).1 (last_of (records w img i) c (replicate w 0))) (eq-eqb (record_at w img i).0 c (e ∙ sym p))
          ∙ sym (ap (numbered w img) (ap (λ d. get_or (set index b (Some i)) d None) p ∙ here)))
          (λ (ne : c ≡ b → ⊥).
          ap (λ t. cond t (record_at w img i).1 (last_of (records w img i) c (replicate w 0))) (ne_eqb (record_at w img i).0 c (λ q. ne (sym q ∙ e)))
          ∙ x.last c c<
          ∙ ap (numbered w img) (sym (get_or-set_other index b c (Some i) None ne)))
          (cases_eq c b);
    }

-- an image with the same records
pub index_same : (img img' : List ℕ) (n w k : ℕ) (index : List (Option ℕ)) → ((i : ℕ) → i < k → record_at w img' i ≡ record_at w img i) → Indexed img n w k index → Indexed img' n w k index
index_same img img' n w k index same x = record {
  long = x.long;
  within = x.within;
  last = λ b h.
      ap (λ rs. last_of rs b (replicate w 0)) (same_table (record_at w img) (record_at w img') k same) ∙ x.last b h ∙ numbers (get_or index b None) (λ j. x.within b j h);
}
  where
    numbers : (o : Option ℕ) → ((j : ℕ) → o ≡ Some j → j < k) → numbered w img o ≡ numbered w img' o
    numbers None h = refl
    numbers (Some j) h = ap (λ r. r.1) (sym (same j (h j refl)))
