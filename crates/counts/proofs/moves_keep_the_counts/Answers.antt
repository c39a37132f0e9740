use Rattle.page.specs.Block.{block_at}
use Rattle.counts.proofs.Steps.{add_one_more}
use Rattle.counts.proofs.Opens.{open_counted, count_le}
use Rattle.counts.proofs.Linking.{link_keeps}
use Rattle.counts.proofs.moves_keep_the_counts.Goals as goal

pub returns : goal.returns
returns c = record {
  retain = λ m cs h x a k. add_one_more (block_at m) cs h x k a;
  opening = open_counted;
  link = link_keeps;
  fit = count_le;
}
