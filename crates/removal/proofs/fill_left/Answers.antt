use Rattle.std.proofs.Common.{◌≡◌, ℕ, suc, ◌+◌, ◌<◌, ◌≤◌, List, map, length, get_or, Some, sym, refl, ap, ◌∙◌, subst, add-one, arith}
use Rattle.page.specs.InUse.{in_use}
use Rattle.page.specs.Block.{block_at}
use Rattle.page.specs.View.{pair, view, entries}
use Rattle.page.proofs.Pages.{entries_length}
use Rattle.counts.specs.Moves.{State, opening, step, Owned}
use Rattle.removal.specs.Able.{At}
use Rattle.removal.proofs.Fillings.{len, fill_apart, fill_left_merged, fill_left_moved, entry_read, owned_at, owned_after, seven, there_is}
use Rattle.removal.proofs.Splicing.{at_end, at_start, last_is, but_last}
use Rattle.removal.proofs.fill_left.Given.{Over}
use Rattle.removal.proofs.fill_left.Goals.{After-read_page-child, After-open-before}
use Rattle.removal.proofs.fill_left.Goals as goal

pub read_page-child-requires : goal.read_page-child-requires
read_page-child-requires g c =
    there_is _ _ _ _ c.requires.able (suc c.args.i) _ _ (omega (arith, c.requires.last, entries_length c.args.page.now))
    (entry_read c.args.page.now (suc c.args.i) (c.args.i + 1) _ _ (add-one c.args.i) (omega (arith, c.requires.last)) c.deref.ensures.0)

module _ (g : Over) (c : After-read_page-child g) where
  next : get_or (entries c.args.page.now) (suc c.args.i) (0, 0) ≡ pair (get_or c.deref.result.now (c.args.i + 1) c.index-deref-i.result)
  next = entry_read c.args.page.now (suc c.args.i) (c.args.i + 1) _ _ (add-one c.args.i) (omega (arith, c.requires.last)) c.deref.ensures.0

  more : suc c.args.i < length (entries c.args.page.now)
  more = omega (arith, c.requires.last, entries_length c.args.page.now)

  last_held : Owned c.read_page-child.new.self (get_or c.deref.result.now (c.args.i + 1) c.index-deref-i.result).value
  last_held = subst (λ (z : State). Owned z (get_or c.deref.result.now (c.args.i + 1) c.index-deref-i.result).value) (sym c.read_page-child.ensures.kept)
      (owned_at _ _ _ _ c.requires.able (suc c.args.i) _ _ more next)

pub open_page-requires-clause-owned : goal.open_page-requires-clause-owned
open_page-requires-clause-owned g c = last_held g (goal.at.open_page-requires-clause-owned g c).After-read_page-child

pub returns-then-len-ne-FEWEST-clause-filling : goal.returns-then-len-ne-FEWEST-clause-filling
returns-then-len-ne-FEWEST-clause-filling g c = λ l es p.
    let b : ℕ = (get_or c.deref.result.now (c.args.i + 1) c.index-deref-i.result).value in
    fill_apart _ _ _ _ l es p (c.args.i + 1) _ b (subst (At (view c.args.page.now) c.args.speed) (sym (add-one c.args.i)) c.requires.at)
    (entry_read c.args.page.now (c.args.i + 1) (c.args.i + 1) _ _ refl (omega (arith, c.requires.last)) c.deref.ensures.0)
    c.read_page-child.result c.read_page-child.ensures.page (λ e. c.if-len-ne-FEWEST.true (c.len.ensures.value ∙ e)) c.open_page.new.self (c.open_page.ensures.state ∙ ap (step (opening b)) c.read_page-child.ensures.kept) (c.args.i + 2) (omega arith)

pub open-before-requires : goal.open-before-requires
open-before-requires g c =
    let b : ℕ = (get_or c.deref-2.result.now c.args.i c.index-deref-i-2.result).value in
    subst (λ (z : State). Owned z b) (sym c.read_page-child.ensures.kept)
    (owned_at _ _ _ _ c.requires.able c.args.i _ _ (omega (arith, c.requires.last, entries_length c.args.page.now)) (entry_read c.args.page.now c.args.i c.args.i _ _ refl (omega (arith, c.requires.last)) c.deref-2.ensures.0))

module _ (g : Over) (c : After-open-before g) where
  abbrev b : ℕ
  b = (get_or c.deref-2.result.now c.args.i c.index-deref-i-2.result).value

  e : get_or (entries c.args.page.now) c.args.i (0, 0) ≡ pair (get_or c.deref-2.result.now c.args.i c.index-deref-i-2.result)
  e = entry_read c.args.page.now c.args.i c.args.i _ _ refl (omega (arith, c.requires.last)) c.deref-2.ensures.0

  first : c.open-before.new.self ≡ step (opening b) c.args.store.now
  first = c.open-before.ensures.state ∙ ap (step (opening b)) c.read_page-child.ensures.kept

  before_there : block_at c.args.store.now.0 b ≡ Some (view c.open-before.result)
  before_there = ap (λ (z : State). block_at z.0 b) (sym c.read_page-child.ensures.kept) ∙ c.open-before.ensures.page

  long : 7 ≤ length (in_use c.open-before.result.entries)
  long = seven _ _ _ _ c.requires.able c.args.i _ _ (omega (arith, c.requires.last, entries_length c.args.page.now)) e c.open-before.result before_there

pub open_page-requires-2-clause-owned : goal.open_page-requires-2-clause-owned
open_page-requires-2-clause-owned g c =
    let d = (goal.at.open_page-requires-2-clause-owned g c).After-open-before in
    owned_after _ _ _ _ c.requires.able c.args.i _ _ _ _ (omega (arith, c.requires.last, entries_length c.args.page.now)) (e g d) (next g (goal.at.open_page-requires-2-clause-owned g c).After-read_page-child) c.open-before.new.self (first g d)

pub overflow_sub-len : goal.overflow_sub-len
overflow_sub-len g c = omega (arith, c.len-len.ensures.value, long g (goal.at.overflow_sub-len g c).After-open-before)

pub overflow_sub-len-2 : goal.overflow_sub-len-2
overflow_sub-len-2 g c = omega (arith, c.len-len.ensures.value, long g (goal.at.overflow_sub-len-2 g c).After-open-before)

module _ (g : Over) (c : After-open-before g) where
  short : length (in_use c.read_page-child.result.entries) ≡ 7
  short = sym c.len.ensures.value ∙ c.if-len-ne-FEWEST.false

  last : {X : Type 0} (es : List (ℕ × X)) → length (entries c.args.page.now) ≡ length es → length es ≡ suc (suc c.args.i)
  last es n = omega (arith, c.requires.last, entries_length c.args.page.now, n)

pub returns-then-len-eq-FEWEST-clause-filling : goal.returns-then-len-eq-FEWEST-clause-filling
returns-then-len-eq-FEWEST-clause-filling g c = λ l es p.
    let o = (goal.at.returns-then-len-eq-FEWEST-clause-filling g c).After-open-before in
    let n = last g o es (len _ _ _ _ l es p) in
    let seven = sym c.len-len.ensures.value ∙ c.if-len-eq-FEWEST.true in
    fill_left_merged _ _ _ _ l es p c.args.i _ _ _ _ (omega (arith, n)) (e g o) (next g (goal.at.returns-then-len-eq-FEWEST-clause-filling g c).After-read_page-child) c.open-before.result c.read_page-child.result (before_there g o) c.read_page-child.ensures.page
    c.open-before.new.self c.open_page-2.new.self (first g o) c.open_page-2.ensures.state c.requires.at n (short g o) seven
    c.spliced.result c.spliced.ensures.level (c.spliced.ensures.these ∙ at_end (entries c.open-before.result) _ _ (entries_length c.open-before.result ∙ seven) (ap (map pair) c.deref-then-len-eq-FEWEST.ensures.0))

pub bounds-deref-len : goal.bounds-deref-len
bounds-deref-len g c = omega (arith, ap length c.deref-3.ensures.0, c.len-len.ensures.value, long g (goal.at.bounds-deref-len g c).After-open-before)

pub spliced-part-requires-clause-room : goal.spliced-part-requires-clause-room
spliced-part-requires-clause-room g c = omega (arith, short g (goal.at.spliced-part-requires-clause-room g c).After-open-before)

pub returns-clause-filling : goal.returns-clause-filling
returns-clause-filling g c = λ l es p.
    let o = (goal.at.returns-clause-filling g c).After-open-before in
    let n = last g o es (len _ _ _ _ l es p) in
    fill_left_moved _ _ _ _ l es p c.args.i _ _ _ _ (omega (arith, n)) (e g o) (next g (goal.at.returns-clause-filling g c).After-read_page-child) c.open-before.result c.read_page-child.result (before_there g o) c.read_page-child.ensures.page
    c.open-before.new.self c.open_page-2.new.self (first g o) c.open_page-2.ensures.state c.requires.at n (short g o) (λ e. c.if-len-eq-FEWEST.false (c.len-len.ensures.value ∙ e))
    c.spliced-part.result c.part-rest.result c.spliced-part.ensures.level
    (c.spliced-part.ensures.these ∙ at_start (entries c.read_page-child.result) _ _ (last_is c.open-before.result c.len-len.result _ _ (omega (arith, c.len-len.ensures.value, long g o)) c.len-len.ensures.value c.deref-3.ensures.0 c.index-deref-len.is))
    c.part-rest.ensures.level (c.part-rest.ensures.these ∙ but_last c.open-before.result _ c.len-len.ensures.value) _ c.first_speed.ensures
