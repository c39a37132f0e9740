use Rattle.std.proofs.Common.{◌≡◌, ℕ, ◌<◌, ◌≤◌, List, map, length, drop, unwrap_or, sym, ap, ◌∙◌, subst, arith, rules, tests}
use Rattle.std.proofs.lemmas.List.{drop-map}
use Rattle.std.proofs.lemmas.Slice.{between_to_end}
use Rattle.std.proofs.lemmas.Iterator.{IsFirst-from_position, YieldsList-from_slice}
use Rattle.std.specs.Slice.Iter.{iter_rest}
use Rattle.page.specs.InUse.{in_use}
use Rattle.page.specs.View.{pair, entries}
use Rattle.page.proofs.Editing.{First, first_found, covers_past, covers_low}
use Rattle.page.proofs.page.Page.covering.Goals as goal

found : (c : goal.After-unwrap_or) → First (λ k. k ≤ c.args.speed) (λ k. c.args.speed < k) (drop 1 (entries c.args.self.now)) c.unwrap_or.result
found c =
    let s = c.args.speed in
    let xs = (in_use c.args.self.now.entries) in
    let later : iter_rest c.iter.result ≡ drop 1 xs = c.iter.ensures.rest ∙ between_to_end c.deref.result.now 1 _ (omega arith) ∙ ap (drop 1) c.deref.ensures.0 in
    let f : First (λ k. k ≤ s) (λ k. s < k) (map pair (drop 1 xs)) (unwrap_or c.position-at.result (length (drop 1 xs)))
    = first_found (λ k. k ≤ s) (λ k. s < k) (drop 1 xs) c.position-at.result
    (IsFirst-from_position _ _ _ (λ e. s < e.speed) (λ e. e.speed ≤ s) c.position-at.ensures.ran
    (YieldsList-from_slice (drop 1 xs) later)
    (λ x q k. search (rules, tests)) (λ x q k. search (rules, tests))) in
    subst (λ (es : List (ℕ × ℕ)). First (λ k. k ≤ s) (λ k. s < k) es c.unwrap_or.result) (sym (drop-map pair 1 xs))
    (subst (First (λ k. k ≤ s) (λ k. s < k) (map pair (drop 1 xs))) (ap (λ (n : ℕ). unwrap_or c.position-at.result n) (ap length (sym later ∙ c.iter.ensures.rest)) ∙ sym c.unwrap_or.ensures) f)

pub returns-clause-past : goal.returns-clause-past
returns-clause-past c = covers_past _ _ _ (found c)

pub returns-clause-low : goal.returns-clause-low
returns-clause-low c = covers_low _ _ _ (found c)
