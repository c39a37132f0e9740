-- The kinds of words that a log knows.
use Rattle.std.proofs.Common.{◌≡◌, ℕ, Bool, true, false, cond, Ok, Err, Result, sym, refl, ap, ◌∙◌, arith}
use Rattle.std.specs.Result.{result_eq}
use Rattle.word.specs.declared.Kind.{Kind}
use Rattle.word.specs.declared.Kind.TheVariants.{Leaf, Index, Speed, Angle, Child, Slot, Clone, Log, Record}
use Rattle.word.specs.declared.UnknownKind.{UnknownKind}
use Rattle.word.specs.Words.{kind_of, number, KindIs}

is_log : (k : Kind) → number k ≡ 8 → k ≡ Log
is_log Leaf e = absurd (omega arith)
is_log Index e = absurd (omega arith)
is_log Speed e = absurd (omega arith)
is_log Angle e = absurd (omega arith)
is_log Child e = absurd (omega arith)
is_log Slot e = absurd (omega arith)
is_log Clone e = absurd (omega arith)
is_log Log e = refl
is_log Record e = absurd (omega arith)

is_record : (k : Kind) → number k ≡ 9 → k ≡ Record
is_record Leaf e = absurd (omega arith)
is_record Index e = absurd (omega arith)
is_record Speed e = absurd (omega arith)
is_record Angle e = absurd (omega arith)
is_record Child e = absurd (omega arith)
is_record Slot e = absurd (omega arith)
is_record Clone e = absurd (omega arith)
is_record Log e = absurd (omega arith)
is_record Record e = refl

pub clash : false ≡ true → ⊥
clash e = absurd (let z : ◌≡◌ {A = ℕ} 0 1 = ap (λ t. cond t 1 0) e in omega arith)

-- a word whose kind is not found equal to it is not of that kind
module _ (x : ℕ) (E : Kind → Kind → Bool) (F : UnknownKind → UnknownKind → Bool) where
  pub not_log : (r : Result Kind UnknownKind) → KindIs x r → E Log Log ≡ true → false ≡ result_eq E F r (Ok Log) → kind_of x ≡ 8 → ⊥
  not_log (Ok k) is t f e = clash (f ∙ ap (λ j. E j Log) (is_log k (is ∙ e)) ∙ t)
  not_log (Err u) is t f e = is.1 Log (sym e)

  pub not_record : (r : Result Kind UnknownKind) → KindIs x r → E Record Record ≡ true → false ≡ result_eq E F r (Ok Record) → kind_of x ≡ 9 → ⊥
  not_record (Ok k) is t f e = clash (f ∙ ap (λ j. E j Record) (is_record k (is ∙ e)) ∙ t)
  not_record (Err u) is t f e = is.1 Record (sym e)
