-- Summaries of rows, joined in parts and taken row by row.
use Rattle.std.proofs.Common.{◌≡◌, ℕ, List, [], ◌∷◌, ◌++◌, ℤ, sym, ap, ◌∙◌}
use Rattle.table.specs.Summary.{Summing}
use Rattle.reads.specs.Summary.{summary_of}

module _ {S : Type 0} (x : Summing S) (before : (u : S) → x.joined x.none u ≡ u) (after : (u : S) → x.joined u x.none ≡ u) (assoc : (u v w : S) → x.joined (x.joined u v) w ≡ x.joined u (x.joined v w)) where
  pub summary-append : (rs ts : List (ℕ × ℤ)) → summary_of x (rs ++ ts) ≡ x.joined (summary_of x rs) (summary_of x ts)
  summary-append [] ts = sym (before (summary_of x ts))
  summary-append (e ∷ r) ts = ap (x.joined (x.value_of e.0 e.1)) (summary-append r ts) ∙ sym (assoc (x.value_of e.0 e.1) (summary_of x r) (summary_of x ts))

  pub summary-push : (rs : List (ℕ × ℤ)) (s : ℕ) (a : ℤ) → summary_of x (rs ++ (s, a) ∷ []) ≡ x.joined (summary_of x rs) (x.value_of s a)
  summary-push rs s a = summary-append rs ((s, a) ∷ []) ∙ ap (x.joined (summary_of x rs)) (after (x.value_of s a))
