use Rattle.std.proofs.Common.{◌≡◌, ℕ, suc, ◌+◌, List, [], ◌∷◌, ◌++◌, map, take, drop, None, refl, sym, ap, ◌∙◌, subst, ◌<◌, length, get_or, arith}
use Rattle.std.proofs.Math.Seq.{split_at, take-suc}
use Rattle.std.proofs.lemmas.List.{map-append, append_assoc}
use Rattle.std.specs.Option.{option_map}
use Rattle.table.specs.Angles.{up_to, past}
use Rattle.table.specs.Rows.{pair_of}
use Rattle.table.specs.declared.row.Row.{Row}
use Rattle.table.proofs.Sides.{first_above, last_below, settled}
use Rattle.table.proofs.around.Around.of.Goals as goal

-- the rows that were seen, with one more
one_more : (rows : List Row) (i : ℕ) (row : Row) → i < length rows → row ≡ get_or rows i row → map pair_of (take (i + 1) rows) ≡ map pair_of (take i rows) ++ pair_of row ∷ []
one_more rows i row lt is = ap (map pair_of) (ap (λ k. take k rows) (let e : i + 1 ≡ suc i = omega arith in e) ∙ take-suc rows i row lt ∙ ap (λ r. take i rows ++ r ∷ []) (sym is)) ∙ map-append pair_of (take i rows) (row ∷ [])

pub returns-then-row-speed : goal.returns-then-row-speed
returns-then-row-speed c =
    let s = c.args.speed in
    let rows = c.args.rows.now in
    let i = c.loop-row.row-index in
    let row = c.row-item.result in
    let front = map pair_of (take i rows) in
    let rest = map pair_of (drop (suc i) rows) in
    let all : map pair_of rows ≡ (front ++ pair_of row ∷ []) ++ rest
    = ap (map pair_of) (split_at rows i row c.loop-row-test.true ∙ ap (λ r. take i rows ++ r ∷ drop (suc i) rows) (sym c.row-item.is))
    ∙ map-append pair_of (take i rows) _ ∙ sym (append_assoc front _ _) in
    let here = first_above s (pair_of row) front (option_map pair_of c.loop-row.below) None refl c.loop-row.invariant c.if-row-speed.true in
    let later = settled s (pair_of row) (front ++ pair_of row ∷ []) rest (sym here.1) in
    (here.0 ∙ sym later.0 ∙ ap (up_to s) (sym all), here.1 ∙ sym later.1 ∙ ap (past s) (sym all))

pub loop-row-preserved : goal.loop-row-preserved
loop-row-preserved c =
    let s = c.args.speed in
    let rows = c.args.rows.now in
    let i = c.loop-row.row-index in
    let row = c.row-item.result in
    let seen = sym (one_more rows i row c.loop-row-test.true c.row-item.is) in
    let here = last_below s (pair_of row) (map pair_of (take i rows)) (option_map pair_of c.loop-row.below) None refl c.loop-row.invariant c.if-row-speed.false in
    (here.0 ∙ ap (up_to s) seen, here.1 ∙ ap (past s) seen)
