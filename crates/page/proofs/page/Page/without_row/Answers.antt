use Rattle.std.proofs.Common.{◌≡◌, Some, None, map, sym, ap, ◌∙◌, arith, rules, tests}
use Rattle.std.proofs.lemmas.Iterator.{IsFirst-from_position, YieldsList-from_slice}
use Rattle.page.specs.InUse.{in_use}
use Rattle.page.specs.View.{pair, entries}
use Rattle.page.proofs.Editing.{first_found, del_here, del_none}
use Rattle.page.proofs.Pages.{entries_length}
use Rattle.page.proofs.page.Page.without_row.Goals as goal

pub returns-in-Some-clause-these : goal.returns-in-Some-clause-these
returns-in-Some-clause-these c =
    let s = c.args.speed in
    let p = c.args.self.now in
    let h = IsFirst-from_position _ _ _ (λ e. s ≡ e.speed) (λ e. s ≡ e.speed → ⊥) c.in-Some.ensures.ran (YieldsList-from_slice (in_use p.entries) cc) (λ x q k. search (rules, tests)) (λ x q k. search (rules, tests)) in
    c.spliced.ensures.these ∙ sym (del_here s (entries p) c.in-Some.i (first_found (λ k. s ≡ k → ⊥) (λ k. s ≡ k) (in_use p.entries) (Some c.in-Some.i) h) (omega (arith, entries_length p, h.0)))

pub returns-in-None-clause-these : goal.returns-in-None-clause-these
returns-in-None-clause-these c =
    let s = c.args.speed in
    let p = c.args.self.now in
    let f = first_found (λ k. s ≡ k → ⊥) (λ k. s ≡ k) (in_use p.entries) None
    (IsFirst-from_position _ _ _ (λ e. s ≡ e.speed) (λ e. s ≡ e.speed → ⊥) c.in-None.ensures.ran (YieldsList-from_slice (in_use p.entries) cc) (λ x q k. search (rules, tests)) (λ x q k. search (rules, tests))) in
    c.new.ensures.these ∙ ap (map pair) c.as_slice-entries.ensures.value ∙ sym (del_none s (entries p) _ f (omega (arith, entries_length p)))
