use Rattle.std.proofs.Common.{◌≡◌, ℕ, suc, ◌+◌, ◌<◌, ◌≤◌, List, map, length, get_or, Some, refl, ap, ◌∙◌, add-one, arith, length-drop}
use Rattle.page.specs.InUse.{in_use}
use Rattle.page.specs.Block.{block_at}
use Rattle.page.specs.View.{pair, view, entries}
use Rattle.page.proofs.Pages.{entries_length}
use Rattle.removal.proofs.Fillings.{len, still_back, fill_apart, fill_right_merged, fill_right_moved, entry_read, owned_at, owned_after, seven}
use Rattle.removal.proofs.Splicing.{at_end, first_is, but_first}
use Rattle.removal.proofs.fill_right.Given.{Over}
use Rattle.removal.proofs.fill_right.Goals.{After-open-child, After-open-after}
use Rattle.removal.proofs.fill_right.Goals as goal

pub open-child-requires : goal.open-child-requires
open-child-requires g c = owned_at _ _ _ _ c.requires.able c.args.i _ _ (omega (arith, c.requires.more, entries_length c.args.page.now)) (entry_read c.args.page.now c.args.i c.args.i _ _ refl (omega (arith, c.requires.more)) c.deref.ensures.0)

pub returns-then-len-ne-FEWEST-clause-filling : goal.returns-then-len-ne-FEWEST-clause-filling
returns-then-len-ne-FEWEST-clause-filling g c = λ l es p.
    fill_apart _ _ _ _ l es p c.args.i _ _ c.requires.at (entry_read c.args.page.now c.args.i c.args.i _ _ refl (omega (arith, c.requires.more)) c.deref.ensures.0) c.open-child.result c.open-child.ensures.page (λ e. c.if-len-ne-FEWEST.true (c.len.ensures.value ∙ e)) c.open-child.new.self c.open-child.ensures.state (c.args.i + 1) (add-one c.args.i)

pub open-after-requires : goal.open-after-requires
open-after-requires g c =
    owned_after _ _ _ _ c.requires.able c.args.i _ _ _ _ (omega (arith, c.requires.more, entries_length c.args.page.now))
    (entry_read c.args.page.now c.args.i c.args.i _ _ refl (omega (arith, c.requires.more)) c.deref.ensures.0)
    (entry_read c.args.page.now (suc c.args.i) (c.args.i + 1) _ _ (add-one c.args.i) c.requires.more c.deref-2.ensures.0) c.open-child.new.self c.open-child.ensures.state

module _ (g : Over) (c : After-open-after g) where
  e : get_or (entries c.args.page.now) c.args.i (0, 0) ≡ pair (get_or c.deref.result.now c.args.i c.index-deref-i.result)
  e = entry_read c.args.page.now c.args.i c.args.i _ _ refl (omega (arith, c.requires.more)) c.deref.ensures.0

  e₂ : get_or (entries c.args.page.now) (suc c.args.i) (0, 0) ≡ pair (get_or c.deref-2.result.now (c.args.i + 1) c.index-deref-i-2.result)
  e₂ = entry_read c.args.page.now (suc c.args.i) (c.args.i + 1) _ _ (add-one c.args.i) c.requires.more c.deref-2.ensures.0

  short : length (in_use c.open-child.result.entries) ≡ 7
  short = omega (arith, c.if-len-ne-FEWEST.false, c.len.ensures.value)

  there : block_at c.args.store.now.0 (get_or c.deref-2.result.now (c.args.i + 1) c.index-deref-i-2.result).value ≡ Some (view c.open-after.result)
  there = let p = c.requires.able in still_back _ _ _ _ _ _ p.ready _ c.open-child.new.self c.open-child.ensures.state _ _ c.open-after.ensures.page

  long : 7 ≤ length (in_use c.open-after.result.entries)
  long = seven _ _ _ _ c.requires.able (suc c.args.i) _ _ (omega (arith, c.requires.more, entries_length c.args.page.now)) e₂ c.open-after.result there

  more : {X : Type 0} (es : List (ℕ × X)) → length (entries c.args.page.now) ≡ length es → suc c.args.i < length es
  more es n = omega (arith, c.requires.more, entries_length c.args.page.now, n)

pub returns-then-len-eq-FEWEST-clause-filling : goal.returns-then-len-eq-FEWEST-clause-filling
returns-then-len-eq-FEWEST-clause-filling g c = λ l es p.
    let d = (goal.at.returns-then-len-eq-FEWEST-clause-filling g c).After-open-after in
    fill_right_merged _ _ _ _ l es p c.args.i _ _ _ _ (more g d es (len _ _ _ _ l es p)) (e g d) (e₂ g d) c.open-child.result c.open-after.result c.open-child.ensures.page (there g d)
    c.open-child.new.self c.open-after.new.self c.open-child.ensures.state c.open-after.ensures.state c.requires.at (short g d) (omega (arith, c.if-len-eq-FEWEST.true, c.len-2.ensures.value))
    c.spliced.result c.spliced.ensures.level (c.spliced.ensures.these ∙ at_end (entries c.open-child.result) _ _ (entries_length c.open-child.result ∙ short g d) (ap (map pair) c.deref-then-len-eq-FEWEST.ensures.0))

pub bounds-deref-0 : goal.bounds-deref-0
bounds-deref-0 g c = omega (arith, ap length c.deref-3.ensures.0, long g (goal.at.bounds-deref-0 g c).After-open-after)

pub part-rest-requires : goal.part-rest-requires
part-rest-requires g c =
    let d = (goal.at.part-rest-requires g c).After-open-after in
    (omega (arith, c.len-3.ensures.value, long g d), omega (arith, c.len-3.ensures.value))

pub first_speed-requires : goal.first_speed-requires
first_speed-requires g c =
    let after = c.open-after.result in
    omega (
      arith,
      entries_length c.part-rest.result,
      ap length (c.part-rest.ensures.these ∙ but_first after _ c.len-3.ensures.value),
      length-drop 1 (entries after),
      entries_length after,
      long g (goal.at.first_speed-requires g c).After-open-after,
    )

pub returns-clause-filling : goal.returns-clause-filling
returns-clause-filling g c = λ l es p.
    let d = (goal.at.returns-clause-filling g c).After-open-after in
    fill_right_moved _ _ _ _ l es p c.args.i _ _ _ _ (more g d es (len _ _ _ _ l es p)) (e g d) (e₂ g d) c.open-child.result c.open-after.result c.open-child.ensures.page (there g d)
    c.open-child.new.self c.open-after.new.self c.open-child.ensures.state c.open-after.ensures.state c.requires.at (short g d) (λ n. c.if-len-eq-FEWEST.false (c.len-2.ensures.value ∙ n))
    c.spliced-part.result c.part-rest.result c.spliced-part.ensures.level
    (c.spliced-part.ensures.these ∙ at_end (entries c.open-child.result) _ _ (entries_length c.open-child.result ∙ short g d) (first_is c.open-after.result _ _ (omega (arith, long g d)) c.deref-3.ensures.0 c.index-deref-0.is))
    c.part-rest.ensures.level (c.part-rest.ensures.these ∙ but_first c.open-after.result _ c.len-3.ensures.value) _ c.first_speed.ensures
