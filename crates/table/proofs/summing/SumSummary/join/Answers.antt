use Rattle.std.proofs.Common.{rules}
use Rattle.std.proofs.lemmas.Int.{wraps}
use Rattle.table.specs.Summaries.{sum_same}
use Rattle.table.proofs.summing.SumSummary.join.Goals as goal

pub returns : goal.returns
returns c = sum_same _ _ (search (rules, wraps))
