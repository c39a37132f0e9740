use Rattle.std.proofs.Common.{sym, ◌∙◌, rules, tests}
use Rattle.std.proofs.lemmas.Iterator.{YieldsList-from_slice}
use Rattle.std.proofs.lemmas.Iterator.Search.{all_from_yields_List}
use Rattle.std.proofs.lemmas.List.Folds.{list_all-map}
use Rattle.page.specs.Slot.{rooted}
use Rattle.page.specs.View.{root_of}
use Rattle.page.proofs.roots.Slot.is_rooted.Goals as goal

pub returns : goal.returns
returns c =
    all_from_yields_List (λ p. rooted c.args.blocks (root_of p)) _ _ c.all.result c.all.ensures.ran (YieldsList-from_slice c.args.self.now.places cc) (λ x b q k. search (rules, tests))
    ∙ sym (list_all-map (rooted c.args.blocks) root_of c.args.self.now.places)
