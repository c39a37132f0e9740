use Rattle.std.proofs.Common.{◌≡◌, ℕ, suc, ◌+◌, ◌*◌, ◌<◌, ◌≤◌, List, ◌++◌, map, length, get_or, take, drop, sym, ap, ◌∙◌, subst, ap₂, add-one, arith, drop-drop}
use Rattle.device.specs.Meaning.{Meaning}
use Rattle.page.specs.InUse.{in_use}
use Rattle.page.specs.View.{pair, view, entries}
use Rattle.page.specs.declared.page.Entry.{Entry}
use Rattle.page.specs.declared.page.Page.{Page}
use Rattle.page.proofs.Pages.{entries_length, entries_at}
use Rattle.edit.specs.Plan.{page}
use Rattle.edit.specs.Able.{Able}
use Rattle.edit.specs.Kids.{Beside}
use Rattle.edit.proofs.Parting.{by_parts}
use Rattle.edit.proofs.Laying.{parts_laid}
use Rattle.edit.proofs.Downs.{Covers}
use Rattle.edit.proofs.Anyhow.{Parts, Linkable, leaf_made, room, first_key, owned_any, part_any, linkable, up_any}
use Rattle.edit.proofs.+put_in.Given.{Over}
use Rattle.edit.proofs.+put_in.Goals.{After-put_in-made}
use Rattle.edit.proofs.+put_in.Goals as goal

pub with_row-requires : goal.with_row-requires
with_row-requires g t c = omega (arith, room _ _ _ _ _ c.requires.able, entries_length c.args.page.now)

pub returns-then-page-eq0-clause-made : goal.returns-then-page-eq0-clause-made
returns-then-page-eq0-clause-made g t c = leaf_made _ _ _ _ _ _ (view c.with_row.result) c.if-page-eq0.true c.with_row.ensures.level c.with_row.ensures.these

pub covering-i-requires : goal.covering-i-requires
covering-i-requires g t c = omega (arith, (first_key _ _ _ _ _ c.if-page-eq0.false c.requires.able).0, entries_length c.args.page.now)

-- the entry that `covering` finds is the one that covers the speed
covers : (m : Meaning) (cs gs : List ℕ) (p : Page) (s i : ℕ) (e : Entry) (xs : List Entry) → (p.level ≡ 0 → ⊥) → Able (m, cs) gs (view p) s → i < length (in_use p.entries)
    → ((get_or (entries p) 0 (0, 0)).0 ≤ s → (get_or (entries p) i (0, 0)).0 ≤ s) → (suc i < length (in_use p.entries) → s < (get_or (entries p) (suc i) (0, 0)).0)
    → xs ≡ (in_use p.entries) → e ≡ get_or xs i e → Covers (view p) s i (pair e)
covers m cs gs p s i e xs above able within low high same is = record {
  above = above;
  within = omega (arith, entries_length p, within);
  low = low (first_key m cs gs (view p) s above able).1;
  high = λ h. high (omega (arith, entries_length p, h));
  entry = entries_at p i e within ∙ ap (λ (xs : List Entry). pair (get_or xs i e)) (sym same) ∙ sym (ap pair is);
}

pub open-child-requires : goal.open-child-requires
open-child-requires g t c =
    let C = covers _ _ _ c.args.page.now _ _ _ _ c.if-page-eq0.false c.requires.able c.covering-i.ensures.within c.covering-i.ensures.low c.covering-i.ensures.high c.deref.ensures.0 c.index-deref-i.is in
    owned_any _ _ _ _ _ _ _ C c.requires.able

pub put_in-made-requires : goal.put_in-made-requires
put_in-made-requires g t c κs within =
    let C = covers _ _ _ c.args.page.now _ _ _ _ c.if-page-eq0.false c.requires.able c.covering-i.ensures.within c.covering-i.ensures.low c.covering-i.ensures.high c.deref.ensures.0 c.index-deref-i.is in
    let R = part_any _ _ _ _ _ _ _ C (view c.open-child.result) (view c.split-rest.result.0) c.open-child.new.self
    (record { there = c.open-child.ensures.page; level = c.split-rest.ensures.level; these = c.split-rest.ensures.these; state = c.open-child.ensures.state; shape = c.open-child.ensures.shape }) c.requires.able in
    (omega (arith, c.decreases, R.1), (within, (R.0, omega (arith, R.1, c.requires.enough))))

module _ (g : Over) (t : ℕ) (c : After-put_in-made g t) where
  C : Covers (view c.args.page.now) c.args.row.speed c.covering-i.result (pair c.index-deref-i.result)
  C = covers _ _ _ c.args.page.now _ _ _ _ c.if-page-eq0.false c.requires.able c.covering-i.ensures.within c.covering-i.ensures.low c.covering-i.ensures.high c.deref.ensures.0 c.index-deref-i.is

  P : Parts c.args.store.now c.open-child.new.self c.index-deref-i.result.value c.args.row.speed (view c.open-child.result) (view c.split-rest.result.0)
  P = record { there = c.open-child.ensures.page; level = c.split-rest.ensures.level; these = c.split-rest.ensures.these; state = c.open-child.ensures.state; shape = c.open-child.ensures.shape }

  link : Linkable c.put_in-made.new.store c.put_in-made.new.grant (view c.args.page.now) (view c.open-child.result) (view c.put_in-made.result)
  link = linkable _ _ _ _ _ _ _ C _ _ _ P _ _ _ c.put_in-made.ensures.made _ c.put_in-made.ensures.grant c.requires.enough c.requires.able

pub link_kids-kids-requires : goal.link_kids-kids-requires
link_kids-kids-requires g t c =
    let L = link g t (goal.at.link_kids-kids-requires g t c).After-put_in-made in
    record {
      places = L.places;
      two = L.two;
      left = L.left;
      level = omega (arith, L.above, L.level, c.args.page.now.low);
      key = c.index-deref-i.result.small.0;
      beside = subst (λ (l : ℕ). Beside l c.split-rest.result.1) (sym L.level) c.split-rest.ensures.beside;
    }

pub spliced-requires-clause-room : goal.spliced-requires-clause-room
spliced-requires-clause-room g t c = omega (arith, room _ _ _ _ _ c.requires.able, entries_length c.args.page.now, c.deref-2.ensures.1)

-- the page with the kids in place of the entry
spliced : (p q : Page) (i : ℕ) (ks xs : List Entry) → xs ≡ ks → q.level ≡ p.level → entries q ≡ take i (entries p) ++ (map pair xs ++ drop (i + 1) (entries p)) → view q ≡ page p.level (take i (entries p) ++ (map pair ks ++ drop (suc i) (entries p)))
spliced p q i ks xs e v es = ap₂ page v (es ∙ ap₂ (λ (xs : List Entry) (n : ℕ). take i (entries p) ++ (map pair xs ++ drop n (entries p))) e (add-one i))

pub returns-clause-made : goal.returns-clause-made
returns-clause-made g t c =
    let d = (goal.at.returns-clause-made g t c).After-put_in-made in
    let L = link g t d in
    let made = c.put_in-made.result in
    let beside = subst (λ (l : ℕ). Beside l c.split-rest.result.1) (sym L.level) c.split-rest.ensures.beside in
    let laid = parts_laid made c.split-rest.result.1 _ _ _ _ L.wide (omega (arith, L.above, L.level, c.args.page.now.low)) beside in
    up_any _ _ _ _ _ _ _ (C g t d) _ _ _ (P g t d) _ _ _ c.put_in-made.ensures.made _ c.put_in-made.ensures.grant c.link_kids-kids.new.store _ (view c.spliced.result)
    (by_parts made.level _ _ _ _ _ _ _ _ L.level (c.split-rest.ensures.parts _ (entries made)) (record { kids = c.link_kids-kids.ensures.kids; state = c.link_kids-kids.ensures.state; laid = laid }))
    (spliced c.args.page.now c.spliced.result c.covering-i.result c.link_kids-kids.result.items _ c.deref-2.ensures.0 c.spliced.ensures.level c.spliced.ensures.these)

pub returns-clause-grant : goal.returns-clause-grant
returns-clause-grant g t c =
    let L = link g t (goal.at.returns-clause-grant g t c).After-put_in-made in
    let j : 2 * c.split-rest.result.0.level + 2 ≡ 2 * c.args.page.now.level = omega (arith, L.above, c.split-rest.ensures.level) in
    c.link_kids-kids.ensures.grant ∙ ap (drop 2) c.put_in-made.ensures.grant ∙ drop-drop 2 (2 * c.split-rest.result.0.level) c.args.grant.now ∙ ap (λ (k : ℕ). drop k c.args.grant.now) j
