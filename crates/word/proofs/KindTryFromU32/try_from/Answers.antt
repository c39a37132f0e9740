use Rattle.std.proofs.Common.{◌≡◌, ◌≢◌, ℕ, Option, None, Some, length, sym, refl, ap, ◌∙◌, subst, rules, tests}
use Rattle.std.specs.List.{AllWithin}
use Rattle.std.specs.Option.{MatchOption, ok_or}
use Rattle.std.specs.Slice.Iter.{iter_rest}
use Rattle.std.proofs.lemmas.Iterator.{YieldsList-from_slice, first_from_find}
use Rattle.std.proofs.lemmas.Iterator.Consumers.{YieldsList-from_copied}
use Rattle.word.specs.declared.Kind.{Kind}
use Rattle.word.specs.Words.{number, kind_of, KindIs}
use Rattle.word.specs.declared.TheConstants.{KINDS}
use Rattle.word.proofs.EachKind.{each_kind}
use Rattle.word.proofs.KindTryFromU32.try_from.Goals as goal

named : (x : ℕ) (Found : Kind → Type 0) (r : Option Kind) → MatchOption r (AllWithin (λ k. number k ≢ kind_of x) KINDS 0 (length KINDS)) Found → ((k : Kind) → Found k → number k ≡ kind_of x)
    → KindIs x (ok_or r (record { 0 = kind_of x }))
named x F None h f = (refl, each_kind _ h)
named x F (Some k) h f = f k h

pub returns : goal.returns
returns c =
    let x = c.args.word in
    subst (KindIs x) (sym c.ok_or.ensures.value)
    (named x _ c.find.result
    (first_from_find {v = λ y. y} {all = KINDS} _ _ c.find.result (λ k. number k ≡ kind_of x) (λ k. number k ≢ kind_of x) c.find.ensures.ran
    (YieldsList-from_copied (YieldsList-from_slice KINDS (ap iter_rest c.copied.ensures.source ∙ c.iter.ensures.rest)))
    (λ y q k. search (rules, tests)) (λ y q k. search (rules, tests)))
    (λ k h. h.0))
