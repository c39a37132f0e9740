use Rattle.std.proofs.Common.{◌≡◌, ℕ, suc, ◌*◌, ◌<◌, List, [], ◌∷◌, length, get_or, drop, sym, ap, ◌∙◌, arith}
use Rattle.device.specs.Meaning.{current_at}
use Rattle.page.specs.InUse.{in_use}
use Rattle.page.specs.View.{view, entries}
use Rattle.page.specs.declared.page.Page.{Page}
use Rattle.page.specs.declared.page.Entry.{Entry}
use Rattle.page.proofs.Pages.{entries_length, entries_at}
use Rattle.model.specs.TreeBlocks.{Tree, tree_at}
use Rattle.edit.specs.Able.{Made}
use Rattle.page.proofs.Pages.{laid_out}
use Rattle.edit.proofs.Anyhow.{next_place}
use Rattle.edit.proofs.Trees.{Rooted, Topmost, top_ready, top_able, many, one_small, one_root, one_edited, link_able, more_root, more_edited}
use Rattle.edit.proofs.Editing.{whole, all_taken, rooted, good_put}
use Rattle.edit.proofs.put_tree.Given.{Over}
use Rattle.edit.proofs.put_tree.Goals.{After-put_in-made}
use Rattle.edit.proofs.put_tree.Goals as goal

pub put_in-made-requires-clause-able : goal.put_in-made-requires-clause-able
put_in-made-requires-clause-able g c =
    top_able _ _ _ _ _ _ _ (rooted _ _ _ _ _ c.requires.editable c.requires.granted c.requires.row.0) (view c.new-above.result) c.new-above.ensures.level c.new-above.ensures.these

module _ (g : Over) (c : After-put_in-made g) where
  abbrev t : Tree
  t = tree_at (current_at c.args.store.now.0) (c.args.root.height, c.args.root.block)

  p : Rooted c.args.store.now.0 c.args.store.now.1 c.args.grant (c.args.root.height, c.args.root.block) c.args.row.speed t c.requires.editable.others
  p = rooted _ _ _ _ _ c.requires.editable c.requires.granted c.requires.row.0

  M : Made c.args.store.now c.put_in-made.new.store c.args.grant c.args.row.speed c.args.row.value (suc t.0) ((0, t.1) ∷ []) (view c.put_in-made.result)
  M = c.put_in-made.ensures.made _ _ (top_ready _ _ _ _ _ _ _ p (view c.new-above.result) c.new-above.ensures.level c.new-above.ensures.these)

  -- all blocks of the grant but one are taken
  but_one : drop 1 c.put_in-made.new.grant ≡ []
  but_one = all_taken (2 * c.new-above.result.level) c.args.grant _ (omega (arith, whole _ _ _ _ c.requires.granted, c.new-above.ensures.level)) c.put_in-made.ensures.grant

pub end-requires : goal.end-requires
end-requires g c = c.give_back.ensures ∙ but_one g (goal.at.end-requires g c).After-put_in-made

-- one entry: it names the new root
only_block : (q : Page) (xs : List Entry) (r : Entry) → length (in_use q.entries) ≡ 1 → xs ≡ (in_use q.entries) → (get_or (entries q) 0 (0, 0)).1 ≡ (get_or xs 0 r).value
only_block q xs r n e = ap (λ (x : ℕ × ℕ). x.1) (entries_at q 0 r (omega (arith, n))) ∙ ap (λ (xs : List Entry). (get_or xs 0 r).value) (sym e)

pub invariant_of-result : goal.invariant_of-result
invariant_of-result g c =
    let d = (goal.at.invariant_of-result g c).After-put_in-made in
    let n = sym c.len.ensures.value ∙ c.if-len-eq1.true in
    let e = only_block c.put_in-made.result _ c.index-deref-0.result n c.deref.ensures.0 in
    record { small = (c.args.root.small.0, one_small _ _ _ _ _ _ _ (p g d) _ _ _ (M g d) (entries_length c.put_in-made.result ∙ n) _ e) }

pub returns-then-len-eq1 : goal.returns-then-len-eq1
returns-then-len-eq1 g c =
    let d = (goal.at.returns-then-len-eq1 g c).After-put_in-made in
    let n = sym c.len.ensures.value ∙ c.if-len-eq1.true in
    let e = only_block c.put_in-made.result _ c.index-deref-0.result n c.deref.ensures.0 in
    let at = one_root _ _ _ _ _ _ _ (p g d) _ _ _ (M g d) (entries_length c.put_in-made.result ∙ n) _ e in
    let D = one_edited _ _ _ _ _ _ _ (p g d) _ _ _ (M g d) (entries_length c.put_in-made.result ∙ n) _ e in
    record { root = at; edited = D; good = good_put _ _ _ _ _ _ c.requires.editable c.requires.granted c.requires.row.0 c.requires.row.1 _ _ _ at D }

-- more entries: they go below a new root, in the last block of the grant
pub end-requires-2 : goal.end-requires-2
end-requires-2 g c = ap (drop 1) (sym c.take-block.ensures) ∙ but_one g (goal.at.end-requires-2 g c).After-put_in-made

module _ (g : Over) (c : After-put_in-made g) (n : length (in_use c.put_in-made.result.entries) ≡ 1 → ⊥) (b : ℕ) (rest : List ℕ) (e : c.put_in-made.new.grant ≡ b ∷ rest) where
  more : 1 < length (entries c.put_in-made.result)
  more = many _ _ _ _ _ _ _ (p g c) _ _ _ (M g c) (λ e. n (sym (entries_length c.put_in-made.result) ∙ e))

  block_is : b ≡ get_or c.args.grant (2 * suc (t g c).0) 0
  block_is = next_place c.args.grant _ (2 * c.new-above.result.level) (2 * suc (t g c).0) b rest c.put_in-made.ensures.grant e (omega (arith, c.new-above.ensures.level, (p g c).height))

  able : Topmost c.put_in-made.new.store b (view c.put_in-made.result)
  able = link_able _ _ _ _ _ _ _ (p g c) _ _ _ (M g c) more b block_is c.requires.row.1

pub link-requires : goal.link-requires
link-requires g c =
    let L = able g (goal.at.link-requires g c).After-put_in-made (λ e. c.if-len-eq1.false (c.len.ensures.value ∙ e)) _ _ c.take-block.ensures in
    record { on = L.on; free = L.free; left = L.left; low = L.low }

pub invariant_of-result-2 : goal.invariant_of-result-2
invariant_of-result-2 g c =
    let L = able g (goal.at.invariant_of-result-2 g c).After-put_in-made (λ e. c.if-len-eq1.false (c.len.ensures.value ∙ e)) _ _ c.take-block.ensures in
    record { small = (omega (arith, c.new-above.result.low, c.new-above.ensures.level), L.small) }

pub returns : goal.returns
returns g c =
    let d = (goal.at.returns g c).After-put_in-made in
    let n : length (in_use c.put_in-made.result.entries) ≡ 1 → ⊥ = λ e. c.if-len-eq1.false (c.len.ensures.value ∙ e) in
    let m = more g d n _ _ c.take-block.ensures in
    let e = block_is g d n _ _ c.take-block.ensures in
    let L = able g d n _ _ c.take-block.ensures in
    let at = more_root _ _ _ _ _ _ _ (p g d) _ _ _ (M g d) m _ e in
    let D = more_edited _ _ _ _ _ _ _ (p g d) _ _ _ (M g d) m _ e c.link.new.self c.link.ensures (laid_out c.put_in-made.result _ L.wide L.low) in
    record { root = at; edited = D; good = good_put _ _ _ _ _ _ c.requires.editable c.requires.granted c.requires.row.0 c.requires.row.1 _ _ _ at D }
