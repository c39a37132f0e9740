use Rattle.std.proofs.Common.{◌≡◌, ℕ, ◌+◌, ◌<◌, ◌≤◌, List, [], ◌∷◌, ◌++◌, min, length, get_or, take, set, ℤ, sym, ap, ◌∙◌, ap₂, append-nil, length-append, arith}
use Rattle.table.specs.declared.pair.Pair.{Pair}
use Rattle.table.specs.Rows.{pair_of, angle_of}
use Rattle.tree.specs.Node.{map_e}
use Rattle.reads.specs.Lists.{due, written, pair_for}
use Rattle.reads.proofs.Blocks.{entry_more}
use Rattle.reads.proofs.Written.{length_written, written_one, written_full, due_append, due_one, due_not}
use Rattle.reads.proofs.listing.list_leaf.Goals.{then-row-speed+then-n-out, else-row-speed, else-row-speed-via-then-row-speed+else-n-out, else-row-speed-via-else-row-speed}
use Rattle.reads.proofs.listing.list_leaf.Goals as goal

-- the slice once the rows rs were written to it, n of them
record Filled (rs : List (ℕ × ℤ)) (first : List Pair) (n : ℕ) (out : List Pair) : Type 0 where
  count : n ≡ min (length first) (length rs)
  listed : out ≡ written rs first

module _ (s : ℕ) (es : List (ℕ × ℕ)) (i : ℕ) (within : i < length es) (r : ℕ × ℤ) (is : r ≡ ((get_or es i (0, 0)).0, angle_of (get_or es i (0, 0)).1)) (first out : List Pair) (n : ℕ) where
  abbrev so : ℕ → List (ℕ × ℤ)
  so j = due s (map_e angle_of (take j es))

  more : (qs : List (ℕ × ℤ)) → due s (r ∷ []) ≡ qs → so (i + 1) ≡ so i ++ qs
  more qs q =
      ap (due s) (entry_more es i within ∙ ap (λ (y : ℕ × ℤ). map_e angle_of (take i es) ++ (y ∷ [])) (sym is)) ∙ due_append s (map_e angle_of (take i es)) (r ∷ []) ∙ ap (λ (z : List (ℕ × ℤ)). so i ++ z) q

  skip : r.0 < s → Filled (so i) first n out → Filled (so (i + 1)) first n out
  skip l f = rw (more [] (due_not s r l) ∙ append-nil (so i)) f

  module _ (l : s ≤ r.0) (f : Filled (so i) first n out) where
    one : so (i + 1) ≡ so i ++ (r ∷ [])
    one = more (r ∷ []) (due_one s r l)

    size : length out ≡ length first
    size = ap length f.listed ∙ length_written (so i) first

    stop : length out ≤ n → Filled (so (i + 1)) first n out
    stop k = rw one (record {
      count = omega (arith, f.count, size, length-append (so i) (r ∷ []));
      listed = f.listed ∙ sym (written_full (so i) r first (omega (arith, f.count, size)));
    })

    push : n < length out → (p : Pair) → p ≡ pair_for r → Filled (so (i + 1)) first (n + 1) (set out n p)
    push k p q =
        let at : n ≡ length (so i) = omega (arith, f.count, size) in
        rw one (record {
          count = omega (arith, f.count, size, length-append (so i) (r ∷ []));
          listed = ap₂ (λ (z : List Pair) (j : ℕ). set z j p) f.listed at ∙ ap (set (written (so i) first) (length (so i))) q ∙ sym (written_one (so i) r first (omega (arith, f.count, size)));
        })

same_pair : (p q : Pair) → p.speed ≡ q.speed → p.angle ≡ q.angle → p ≡ q
same_pair p q a b = ap₂ (λ (x : ℕ) (y : ℤ). record { speed = x; angle = y }) a b

pub loop-i-preserved : goal.loop-i-preserved
loop-i-preserved c =
    let s = c.args.speed in
    let es = c.args.leaf.now.entries in
    let i = c.loop-i.i in
    let row = c.row_at-row.result in
    let n = c.loop-i.n in
    let out = c.loop-i.out in
    let first = c.args.out.now in
    let within : i < length es = omega (arith, c.loop-i-test.true, c.len-i-end.ensures.len) in
    let is = c.row_at-row.ensures in
    let f : Filled (due s (map_e angle_of (take i es))) first n out = record { count = c.loop-i.invariant.count; listed = c.loop-i.invariant.listed } in
    let more = due s (map_e angle_of (take (i + 1) es)) in
    let done : Filled more first c.if-row-speed.n c.if-row-speed.out = elim c.if-row-speed.branch [
      | then-row-speed+then-n-out w ↦ rw (w.n-is, w.out-is) (push s es i within (pair_of row) is first out n w.if-row-speed.true f w.if-n-out.true w.from.result
          (same_pair _ (pair_for (pair_of row)) w.from.ensures.0 w.from.ensures.1))
      | else-row-speed w ↦ rw (w.n-is, w.out-is) (elim w.else-row-speed.branch [
        | else-row-speed-via-then-row-speed+else-n-out v ↦ stop s es i within (pair_of row) is first out n v.if-row-speed.true f v.if-n-out.false
        | else-row-speed-via-else-row-speed v ↦ skip s es i within (pair_of row) is first out n v.if-row-speed.false f
      ])
    ] in
    record { count = done.count; listed = done.listed }
