use Rattle.std.proofs.Common.{◌≡◌, ℕ, ◌+◌, ◌<◌, List, length, get_or, Some, sym, ap, ◌∙◌, arith, length-set}
use Rattle.page.specs.InUse.{in_use}
use Rattle.page.specs.Block.{kids_of}
use Rattle.page.specs.declared.page.Page.{Page}
use Rattle.page.specs.declared.page.Entry.{Entry}
use Rattle.page.specs.View.{view}
use Rattle.page.proofs.Pages.{entries_few, entries_length, page_kids_length, page_kids_at}
use Rattle.counts.proofs.Opens.{add_next, add_le}
use Rattle.counts.proofs.Counts.add_kids.Goals as goal

-- the entry that the loop is at holds the next child
kid_at : (p : Page) (xs : List Entry) (i : ℕ) (r : Entry) → 0 < p.level → xs ≡ (in_use p.entries) → i < length xs → r ≡ get_or xs i r → get_or (kids_of (Some (view p))) i 0 ≡ r.value
kid_at p xs i r up e h here = page_kids_at p i r up (omega (arith, ap length e)) ∙ ap (λ (zs : List Entry). (get_or zs i r).value) (sym e) ∙ ap (λ (r : Entry). r.value) (sym here)

pub retain-requires : goal.retain-requires
retain-requires c =
    let p : Page = c.args.page.now in
    let i = c.loop-entry.entry-index in
    let few = c.deref-entry-items.ensures in
    let kid = kid_at p c.deref-entry-items.result.now i c.entry-item.result c.if-page-gt0.true few.0 c.loop-entry-test.true c.entry-item.is in
    record {
      within = omega (arith, kid, c.loop-entry.invariant.long, c.requires.within i (omega (arith, page_kids_length p c.if-page-gt0.true, ap length few.0)));
      room = omega (arith, c.loop-entry.invariant.small c.entry-item.result.value, c.requires.small c.entry-item.result.value, entries_few p, entries_length p, ap length few.0);
    }

pub loop-entry-preserved : goal.loop-entry-preserved
loop-entry-preserved c =
    let p : Page = c.args.page.now in
    let i = c.loop-entry.entry-index in
    let x = c.entry-item.result.value in
    let cs : List ℕ = c.loop-entry.self.of.items in
    let few = c.deref-entry-items.ensures in
    let kid = kid_at p c.deref-entry-items.result.now i c.entry-item.result c.if-page-gt0.true few.0 c.loop-entry-test.true c.entry-item.is in
    record {
      long = ap length c.retain.ensures.counts ∙ length-set cs x (get_or cs x 0 + 1) ∙ c.loop-entry.invariant.long;
      small = λ b. omega (arith, ap (λ ds. get_or ds b 0) c.retain.ensures.counts, add_le cs x b, c.loop-entry.invariant.small b);
      rest = add_next (kids_of (Some (view p))) cs c.retain.new.self.of.items i x (omega (arith, page_kids_length p c.if-page-gt0.true, ap length few.0)) kid c.retain.ensures.counts ∙ c.loop-entry.invariant.rest;
    }
