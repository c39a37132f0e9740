use Rattle.std.proofs.Common.{◌≡◌, ℕ, suc, ◌≤◌, get_or, sym, ap, ◌∙◌, subst, ⊎_elim, add-one, arith}
use Rattle.std.proofs.lemmas.Bool.{cases_eq}
use Rattle.page.proofs.page_words.PageWords.covering.Goals as goal

pub loop-i-preserved : goal.loop-i-preserved
loop-i-preserved c k h = ⊎_elim
    (λ (e : k ≡ c.loop-i.i). subst (λ (n : ℕ). (get_or c.args.self.now.entries n (0, 0)).0 ≤ c.args.speed) (add-one c.loop-i.i ∙ ap suc (sym e)) (omega (arith, c.speed.ensures.is, c.if-speed.false)))
    (λ ne. c.loop-i.invariant k (omega (arith, ne, h)))
    (cases_eq k c.loop-i.i)
