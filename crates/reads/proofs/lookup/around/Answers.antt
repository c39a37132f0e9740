use Rattle.std.proofs.Common.{ℕ, ◌<◌, List, [], ◌∷◌, ◌++◌, length, take, ℤ, sym, ap, ◌∙◌, subst, arith}
use Rattle.std.proofs.lemmas.List.{take_all}
use Rattle.table.specs.Rows.{angle_of}
use Rattle.table.specs.Around.{StandsAround}
use Rattle.tree.specs.Node.{map_e}
use Rattle.reads.proofs.Blocks.{entry_more}
use Rattle.reads.proofs.lookup.around.Goals as goal

pub loop-i-preserved : goal.loop-i-preserved
loop-i-preserved c =
    let es = c.args.leaf.now.entries in
    let i = c.loop-i.i in
    let seen = map_e angle_of (take i es) in
    let within : i < length es = omega (arith, c.loop-i-test.true, c.len-i-end.ensures.len) in
    subst (λ (rs : List (ℕ × ℤ)). StandsAround c.args.speed rs c.with-around.result) (sym (entry_more es i within ∙ ap (λ (r : ℕ × ℤ). seen ++ r ∷ []) (sym c.row_at.ensures))) (c.with-around.ensures seen c.loop-i.invariant)

pub returns : goal.returns
returns c =
    let es = c.args.leaf.now.entries in
    subst (λ (xs : List (ℕ × ℕ)). StandsAround c.args.speed (map_e angle_of xs) c.loop-i.around) (take_all c.loop-i.i es (omega (arith, c.loop-i-test.false, c.len-i-end.ensures.len))) c.loop-i.invariant
