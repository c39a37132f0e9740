use Rattle.std.proofs.Common.{◌≡◌, ℕ, get_or, Some, sym, ap, ◌∙◌, ⊎_elim, arith}
use Rattle.std.proofs.lemmas.Bool.{cases_eq}
use Rattle.page.proofs.Seen.{look_hit, look_miss}
use Rattle.page.proofs.page_words.PageWords.find.Goals as goal

pub loop-i-preserved : goal.loop-i-preserved
loop-i-preserved c k h = ⊎_elim
    (λ (e : k ≡ c.loop-i.i). λ q. c.if-speed.false (q ∙ ap (λ (n : ℕ). (get_or c.args.self.now.entries n (0, 0)).0) e ∙ sym c.speed.ensures.is))
    (λ ne. c.loop-i.invariant k (omega (arith, ne, h)))
    (cases_eq k c.loop-i.i)

pub returns-then-speed : goal.returns-then-speed
returns-then-speed c =
    ap Some c.value.ensures.is ∙ sym (look_hit c.args.speed c.args.self.now.entries c.loop-i.i (omega (arith, c.loop-i-test.true, c.len-i-end.ensures.len)) c.loop-i.invariant (c.if-speed.true ∙ c.speed.ensures.is))

pub returns : goal.returns
returns c =
    sym (look_miss c.args.speed c.args.self.now.entries (λ k h. c.loop-i.invariant k (omega (arith, h, c.loop-i-test.false, c.loop-i.auto.i-end, c.len-i-end.ensures.len))))
