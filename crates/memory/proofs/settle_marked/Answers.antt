use Rattle.std.proofs.Common.{◌≡◌, ℕ, ◌+◌, ◌-◌, ◌*◌, ◌≤◌, length, take, drop, replicate, ap, subst, ◌∙◌, arith}
use Rattle.std.proofs.lemmas.List.{length-take-le, length-drop}
use Rattle.memory.proofs.Facts.{Persisting, run_fits, persist_run, persist_end, persist_marks}
use Rattle.memory.proofs.settle_marked.Goals as goal

pub slice_bounds-copy_from_slice-end : goal.slice_bounds-copy_from_slice-end
slice_bounds-copy_from_slice-end c =
    let n = length c.args.marks.now in
    let h : c.loop-block.block + c.marked_run-run.result ≤ n = omega (arith, c.marked_run-run.ensures.within, c.loop-block.invariant.part.count) in
    omega (arith, run_fits c.loop-block.block c.marked_run-run.result n c.args.width h, c.loop-block.invariant.part.per_len)

pub loop-block-preserved : goal.loop-block-preserved
loop-block-preserved c =
    let n = length c.args.marks.now in
    let w = c.args.width in
    let i = c.loop-block.block in
    let g = c.marked_run-run.result in
    let h : i + g ≤ n = omega (arith, c.marked_run-run.ensures.within, c.loop-block.invariant.part.count) in
    let words : (i * w + g * w) - i * w ≡ g * w = omega arith in
    let count : (i + g) - i ≡ g = omega arith in
    let copied : c.copy_from_slice.new.self ≡ take (g * w) (drop (i * w) c.args.from.now)
    = c.copy_from_slice.ensures.after ∙ ap (λ (m : ℕ). take m (drop (i * w) c.args.from.now)) words in
    let part : length (take ((i + g) - i) (drop i c.loop-block.marks)) ≡ g
    = length-take-le ((i + g) - i) (drop i c.loop-block.marks) (simp length-drop (omega (arith, h, c.loop-block.invariant.part.count))) ∙ count in
    let taken : c.fill.new.self ≡ replicate g 0 = c.fill.ensures.after (λ y e. e) ∙ ap (λ (m : ℕ). replicate m 0) part in
    record { within = h; part = persist_run c.args.from.now c.loop-block.to c.loop-block.marks w n i g _ _ _ _ h c.loop-block.invariant.part words count copied taken }

pub returns-clause-to : goal.returns-clause-to
returns-clause-to c =
    let n = length c.args.marks.now in
    let e : c.loop-block.block ≡ n = omega (arith, c.loop-block-test.false, c.loop-block.invariant.within) in
    persist_end c.args.from.now c.loop-block.to c.loop-block.marks c.args.width n (subst (Persisting c.args.from.now c.loop-block.to c.loop-block.marks c.args.width n) e c.loop-block.invariant.part)

pub returns-clause-marks : goal.returns-clause-marks
returns-clause-marks c =
    let n = length c.args.marks.now in
    let e : c.loop-block.block ≡ n = omega (arith, c.loop-block-test.false, c.loop-block.invariant.within) in
    persist_marks c.args.from.now c.loop-block.to c.loop-block.marks c.args.width n (subst (Persisting c.args.from.now c.loop-block.to c.loop-block.marks c.args.width n) e c.loop-block.invariant.part)
