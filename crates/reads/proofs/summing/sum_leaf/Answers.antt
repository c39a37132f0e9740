use Rattle.std.proofs.Common.{ℕ, ◌<◌, length, get_or, take, ℤ, sym, ap, ◌∙◌, ap₂, arith}
use Rattle.table.specs.Rows.{angle_of}
use Rattle.tree.specs.Node.{map_e}
use Rattle.reads.specs.Summary.{summary_of}
use Rattle.reads.proofs.Blocks.{entry_more}
use Rattle.reads.proofs.Totals.{summary-push}
use Rattle.reads.proofs.summing.sum_leaf.Goals as goal

pub loop-i-preserved : goal.loop-i-preserved
loop-i-preserved g c =
    let s = g.S.Summary in
    let w = g.met.S.Summary in
    let es = c.args.leaf.now.entries in
    let i = c.loop-i.i in
    let within : i < length es = omega (arith, c.loop-i-test.true, c.len-i-end.ensures.len) in
    c.join-sum.ensures ∙ ap₂ s.summing.joined c.loop-i.invariant (c.of_row.ensures ∙ ap (λ (q : ℕ × ℤ). s.summing.value_of q.0 q.1) c.row_at.ensures)
    ∙ sym (ap (summary_of s.summing) (entry_more es i within) ∙ summary-push s.summing w.none_before w.none_after w.associates (map_e angle_of (take i es)) (get_or es i (0, 0)).0 (angle_of (get_or es i (0, 0)).1))
