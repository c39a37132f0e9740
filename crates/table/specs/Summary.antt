-- What a summary of rows is made of.
use Rattle.std.specs.Prelude.{ℕ, ℤ}

pub record Summing (S : Type 0) : Type 0 where
  -- the value of no row
  pub none : S
  -- the value of one row, by its speed and angle
  pub value_of : ℕ → ℤ → S
  -- the value of two runs, the first one's rows before the second one's
  pub joined : S → S → S

-- two summaries in one
abbrev pub in_pairs : {A B : Type 0} → Summing A → Summing B → Summing (A × B)
in_pairs x y = record {
  none = (x.none, y.none);
  value_of = λ s a. (x.value_of s a, y.value_of s a);
  joined = λ p q. (x.joined p.0 q.0, y.joined p.1 q.1);
}
