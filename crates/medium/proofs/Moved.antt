-- What a mirror shows, over devices that mean what their words do, and what a refusal says of the words.
use Rattle.std.proofs.Common.{◌≡◌, Result, Ok, Err, sym, ◌∙◌, subst}
use Rattle.std.specs.Result.{MatchResult, IfOk}
use Rattle.device.specs.Meaning.{Meaning}

pub moved : {S F : Type 0} (meaning : S → Meaning) (P Q : F → Type 0) (m m′ : Meaning) → m ≡ m′ → ((e : F) → P e → Q e)
    → (r : Result S F) → MatchResult r (λ s. meaning s ≡ m) P → MatchResult r (λ s. meaning s ≡ m′) Q
moved meaning P Q m m′ p f (Ok s) h = h ∙ p
moved meaning P Q m m′ p f (Err e) h = f e h

pub failed : {S F : Type 0} (P : S → Type 0) (Q : F → Type 0) (r : Result S F) (e : F) → r ≡ Err e → Q e → MatchResult r P Q
failed P Q r e p q = subst (λ r. MatchResult r P Q) (sym p) q

-- what is answered shows x, and P holds of x
pub shown_so : {A E : Type 0} (f : A → Meaning) (P : Meaning → Type 0) (Q : E → Type 0) (x : Meaning) → P x → (r : Result A E) → MatchResult r (λ s. f s ≡ x) Q → IfOk r (λ s. P (f s))
shown_so f P Q x p (Ok s) e = subst P (sym e) p
shown_so f P Q x p (Err e) h = tt
