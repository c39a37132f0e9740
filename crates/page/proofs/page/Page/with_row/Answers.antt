use Rattle.std.proofs.Common.{◌≡◌, ℕ, ◌<◌, ◌≤◌, ◌∷◌, ◌++◌, length, get_or, take, drop, Some, None, sym, ap, ◌∙◌, arith, rules, tests}
use Rattle.std.proofs.lemmas.Iterator.{IsFirst-from_position, YieldsList-from_slice}
use Rattle.page.specs.InUse.{in_use}
use Rattle.page.specs.View.{pair, entries}
use Rattle.page.proofs.Editing.{first_found, ins_here, ins_before}
use Rattle.page.proofs.Pages.{entries_length, entries_at}
use Rattle.page.proofs.page.Page.with_row.Goals as goal

pub returns-in-Some-clause-these : goal.returns-in-Some-clause-these
returns-in-Some-clause-these c =
    let s = c.args.e.speed in
    let p = c.args.self.now in
    let i = c.in-Some.i in
    let r = c.index-entries-i.result in
    let h = IsFirst-from_position _ _ _ (λ e. s ≤ e.speed) (λ e. e.speed < s) c.in-Some.ensures.ran (YieldsList-from_slice (in_use p.entries) cc) (λ x q k. search (rules, tests)) (λ x q k. search (rules, tests)) in
    let at : (get_or (entries p) i (0, 0)).0 ≡ s = ap (λ (q : ℕ × ℕ). q.0) (entries_at p i r h.0) ∙ ap (λ xs. (get_or xs i r).speed) (sym c.as_slice-entries.ensures.value) ∙ c.if-entries-i.true in
    c.spliced.ensures.these
    ∙ sym (ins_here s (entries p) i c.args.e.value (first_found (λ k. k < s) (λ k. s ≤ k) (in_use p.entries) (Some i) h) (omega (arith, entries_length p, h.0)) at)

pub returns-in-Some-2-clause-these : goal.returns-in-Some-2-clause-these
returns-in-Some-2-clause-these c =
    let s = c.args.e.speed in
    let p = c.args.self.now in
    let i = c.in-Some.i in
    let r = c.index-entries-i.result in
    let h = IsFirst-from_position _ _ _ (λ e. s ≤ e.speed) (λ e. e.speed < s) c.in-Some.ensures.ran (YieldsList-from_slice (in_use p.entries) cc) (λ x q k. search (rules, tests)) (λ x q k. search (rules, tests)) in
    let at : (get_or c.as_slice-entries.result.now i r).speed ≡ (get_or (entries p) i (0, 0)).0
    = ap (λ xs. (get_or xs i r).speed) c.as_slice-entries.ensures.value ∙ sym (ap (λ (q : ℕ × ℕ). q.0) (entries_at p i r h.0)) in
    c.spliced-in-Some-2.ensures.these
    ∙ sym (ins_before s (entries p) i c.args.e.value (first_found (λ k. k < s) (λ k. s ≤ k) (in_use p.entries) (Some i) h) (λ _ q. c.if-entries-i.false (at ∙ q)))

pub returns-in-None-clause-these : goal.returns-in-None-clause-these
returns-in-None-clause-these c =
    let s = c.args.e.speed in
    let p = c.args.self.now in
    let f = first_found (λ k. k < s) (λ k. s ≤ k) (in_use p.entries) None
    (IsFirst-from_position _ _ _ (λ e. s ≤ e.speed) (λ e. e.speed < s) c.in-None.ensures.ran (YieldsList-from_slice (in_use p.entries) cc) (λ x q k. search (rules, tests)) (λ x q k. search (rules, tests))) in
    c.spliced-in-None.ensures.these
    ∙ ap (λ xs. take (length xs) (entries p) ++ pair c.args.e ∷ drop (length xs) (entries p)) c.as_slice-entries.ensures.value
    ∙ sym (ins_before s (entries p) (length (in_use p.entries)) c.args.e.value f (λ l _. absurd (omega (arith, entries_length p))))
