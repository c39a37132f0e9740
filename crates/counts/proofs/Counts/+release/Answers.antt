use Rattle.std.proofs.Common.{◌≡◌, ℕ, ◌-◌, ◌<◌, List, [], ◌∷◌, map, length, get_or, take, set, Some, sym, ap, ◌∙◌, subst, arith}
use Rattle.std.proofs.lemmas.List.{get_or-map, length-map, take_more, take_all}
use Rattle.device.specs.Meaning.{Meaning}
use Rattle.page.specs.InUse.{in_use}
use Rattle.page.specs.Block.{block_at, kids_of, level_of}
use Rattle.page.specs.Io.{Wide}
use Rattle.page.specs.View.{view}
use Rattle.page.specs.declared.page.Page.{Page}
use Rattle.page.specs.declared.page.Entry.{Entry}
use Rattle.page.proofs.Pages.{page_kids}
use Rattle.counts.specs.Moves.{Held, Dropped}
use Rattle.counts.proofs.Opens.{held_alive}
use Rattle.counts.proofs.Drops.{dropped_one, dropped_last, dropped_leaf, dropped_push, next_child}
use Rattle.counts.proofs.Counts.+release.Goals as goal
use Rattle.counts.proofs.Counts.+release.Goals.{else-references-eq1-via-then-references-eq1+else-level-gt0, else-references-eq1-via-else-references-eq1}

to_none : (cs ds : List ℕ) (x count : ℕ) → ds ≡ set cs x (count - 1) → count ≡ 1 → ds ≡ set cs x 0
to_none cs ds x count d one = d ∙ ap (λ (n : ℕ). set cs x (n - 1)) one

-- a block's count fell to 0: what is then known of the counts ds and the entries xs of its page
record Fell (m : Meaning) (cs : List ℕ) (x : ℕ) (ds : List ℕ) (xs : List Entry) : Type 0 where
  last : get_or cs x 0 ≡ 1
  less : ds ≡ set cs x 0
  kids : map (λ (e : Entry). e.value) xs ≡ kids_of (block_at m x)

fell : (m : Meaning) (cs ds : List ℕ) (x level count : ℕ) (p : Page) (xs : List Entry) → count ≡ get_or cs x 0 → count ≡ 1 → ds ≡ set cs x (count - 1)
    → block_at m x ≡ Some (view p) → xs ≡ (in_use p.entries) → level_of (block_at m x) ≡ level → 0 < level → Fell m cs x ds xs
fell m cs ds x level count p xs n one d page items height up = record {
  last = sym n ∙ one;
  less = to_none cs ds x count d one;
  kids = ap (map (λ (e : Entry). e.value)) items ∙ sym (page_kids p (omega (arith, ap level_of page, height, up))) ∙ ap kids_of (sym page);
}

pub release-hint-requires : goal.release-hint-requires
release-hint-requires g t c κs within =
    let m : Meaning = g.D.Device.meaning c.args.device.now in
    let cs : List ℕ = c.args.self.now.of.items in
    let ds : List ℕ = c.set.new.self.of.items in
    let es : List ℕ = c.loop-entry.self.of.items in
    let xs : List Entry = c.deref-entry-items.result.now in
    let ks : List ℕ = map (λ (e : Entry). e.value) xs in
    let i = c.loop-entry.entry-index in
    let same : g.D.Device.meaning c.loop-entry.device ≡ m = c.loop-entry.invariant.kept ∙ c.read_page-page.ensures.kept in
    let f : Fell m cs c.args.block ds xs = fell m cs ds c.args.block c.args.level c.get-references.result c.read_page-page.result xs c.get-references.ensures c.if-references-eq1.true c.set.ensures
    c.read_page-page.ensures.page c.deref-entry-items.ensures.0 c.requires.held.height c.if-level-gt0.true in
    let kid : get_or ks i 0 ≡ c.entry-item.result.value = get_or-map (λ (e : Entry). e.value) xs i c.entry-item.result 0 c.loop-entry-test.true ∙ ap (λ (e : Entry). e.value) (sym c.entry-item.is) in
    let lt : i < length ks = omega (arith, length-map xs (λ (e : Entry). e.value), c.loop-entry-test.true) in
    let gone : Dropped (take i ks) (m, ds) es = subst (λ (m : Meaning). Dropped (take i ks) (m, ds) es) c.read_page-page.ensures.kept c.loop-entry.invariant.dropped in (
      omega (arith, c.decreases, c.if-level-gt0.true),
      (
        within,
        (
          subst Wide (sym same) c.requires.wide,
          (
            c.loop-entry.invariant.hint,
            subst (λ (m : Meaning). Held (m, es) c.entry-item.result.value (c.args.level - 1)) (sym same)
                (subst (λ (y : ℕ). Held (m, es) y (c.args.level - 1)) kid
                (next_child c.args.block c.args.level ks i m cs ds es c.requires.held f.last f.less f.kids lt gone)),
          ),
        ),
      ),
    )

pub loop-entry-preserved : goal.loop-entry-preserved
loop-entry-preserved g t c =
    let m : Meaning = g.D.Device.meaning c.read_page-page.new.device in
    let ds : List ℕ = c.set.new.self.of.items in
    let es : List ℕ = c.loop-entry.self.of.items in
    let after : List ℕ = c.release-hint.new.self.of.items in
    let xs : List Entry = c.deref-entry-items.result.now in
    let ks : List ℕ = map (λ (e : Entry). e.value) xs in
    let i = c.loop-entry.entry-index in
    let kid : get_or ks i 0 ≡ c.entry-item.result.value = get_or-map (λ (e : Entry). e.value) xs i c.entry-item.result 0 c.loop-entry-test.true ∙ ap (λ (e : Entry). e.value) (sym c.entry-item.is) in
    let lt : i < length ks = omega (arith, length-map xs (λ (e : Entry). e.value), c.loop-entry-test.true) in
    let one_more : Dropped (get_or ks i 0 ∷ []) (m, es) after
    = subst (λ (y : ℕ). Dropped (y ∷ []) (m, es) after) (sym kid)
    (subst (λ (m : Meaning). Dropped (c.entry-item.result.value ∷ []) (m, es) after) c.loop-entry.invariant.kept c.release-hint.ensures.dropped) in
    record {
      kept = c.release-hint.ensures.kept ∙ c.loop-entry.invariant.kept;
      sized = c.release-hint.ensures.sized ∙ c.loop-entry.invariant.sized;
      dropped = subst (λ (ys : List ℕ). Dropped ys (m, ds) after) (sym (take_more ks i 0 lt)) (dropped_push (take i ks) (get_or ks i 0) m ds es after c.loop-entry.invariant.dropped one_more);
      hint = c.release-hint.ensures.hint;
      calls = g.met.D.Device.goes_on [] [] c.args.device.now c.loop-entry.device c.release-hint.new.device c.loop-entry.invariant.calls c.release-hint.ensures.calls;
    }

pub returns-after-loop-entry-clause-dropped : goal.returns-after-loop-entry-clause-dropped
returns-after-loop-entry-clause-dropped g t c =
    let m : Meaning = g.D.Device.meaning c.args.device.now in
    let cs : List ℕ = c.args.self.now.of.items in
    let ds : List ℕ = c.set.new.self.of.items in
    let es : List ℕ = c.loop-entry.self.of.items in
    let xs : List Entry = c.deref-entry-items.result.now in
    let ks : List ℕ = map (λ (e : Entry). e.value) xs in
    let i = c.loop-entry.entry-index in
    let f : Fell m cs c.args.block ds xs = fell m cs ds c.args.block c.args.level c.get-references.result c.read_page-page.result xs c.get-references.ensures c.if-references-eq1.true c.set.ensures
    c.read_page-page.ensures.page c.deref-entry-items.ensures.0 c.requires.held.height c.if-level-gt0.true in
    let all : take i ks ≡ ks = take_all i ks (omega (arith, length-map xs (λ (e : Entry). e.value), c.loop-entry-test.false)) in
    let gone : Dropped ks (m, ds) es = subst (λ (m : Meaning). Dropped ks (m, ds) es) c.read_page-page.ensures.kept (subst (λ (ys : List ℕ). Dropped ys (g.D.Device.meaning c.read_page-page.new.device, ds) es) all c.loop-entry.invariant.dropped) in
    dropped_last c.args.block ks m cs ds es f.last f.less f.kids gone

pub returns-else-references-eq1-clause-dropped : goal.returns-else-references-eq1-clause-dropped
returns-else-references-eq1-clause-dropped g t c =
    let m : Meaning = g.D.Device.meaning c.args.device.now in
    let cs : List ℕ = c.args.self.now.of.items in
    let ds : List ℕ = c.set.new.self.of.items in
    let x = c.args.block in
    let k = c.get-references.result in
    let n : k ≡ get_or cs x 0 = c.get-references.ensures in
    let a : 0 < get_or cs x 0 = held_alive (block_at m) cs c.requires.held.others x c.requires.held.counted in
    elim c.else-references-eq1.branch [
      | else-references-eq1-via-then-references-eq1+else-level-gt0 w ↦
          dropped_leaf x m cs ds (omega (arith, n, w.if-references-eq1.true)) (to_none cs ds x k c.set.ensures w.if-references-eq1.true) (omega (arith, c.requires.held.height, w.if-level-gt0.false))
      | else-references-eq1-via-else-references-eq1 w ↦
          dropped_one x (k - 1) m cs ds c.set.ensures (omega (arith, n, a)) (omega (arith, n, a, w.if-references-eq1.false))
    ]
