use Rattle.std.proofs.Common.{ℕ, ◌<◌, length, get_or, sym, ap, ◌∙◌, ap₂, arith}
use Rattle.page.specs.Block.{Block, read}
use Rattle.page.proofs.Seen.{read_at, pair_within}
use Rattle.page.proofs.page_words.PageWords.entry.Goals as goal

pub overflow_mul-i : goal.overflow_mul-i
overflow_mul-i c = omega (arith, pair_within c.self.inside.words c.args.self.now c.args.i c.self.view_is c.self.invariant.few c.requires)

pub overflow_add-i : goal.overflow_add-i
overflow_add-i c = omega (arith, pair_within c.self.inside.words c.args.self.now c.args.i c.self.view_is c.self.invariant.few c.requires)

pub offset_bounds-words-i : goal.offset_bounds-words-i
offset_bounds-words-i c = omega (arith, pair_within c.self.inside.words c.args.self.now c.args.i c.self.view_is c.self.invariant.few c.requires)

pub bounds-words-i : goal.bounds-words-i
bounds-words-i c = omega (arith, pair_within c.self.inside.words c.args.self.now c.args.i c.self.view_is c.self.invariant.few c.requires)

pub overflow_mul-i-2 : goal.overflow_mul-i-2
overflow_mul-i-2 c = omega (arith, pair_within c.self.inside.words c.args.self.now c.args.i c.self.view_is c.self.invariant.few c.requires)

pub overflow_add-i-2 : goal.overflow_add-i-2
overflow_add-i-2 c = omega (arith, pair_within c.self.inside.words c.args.self.now c.args.i c.self.view_is c.self.invariant.few c.requires)

pub offset_bounds-words-i-2 : goal.offset_bounds-words-i-2
offset_bounds-words-i-2 c = omega (arith, pair_within c.self.inside.words c.args.self.now c.args.i c.self.view_is c.self.invariant.few c.requires)

pub bounds-words-i-2 : goal.bounds-words-i-2
bounds-words-i-2 c = omega (arith, pair_within c.self.inside.words c.args.self.now c.args.i c.self.view_is c.self.invariant.few c.requires)

pub returns-clause-is : goal.returns-clause-is
returns-clause-is c =
    let within : c.args.i < length (read c.self.inside.words).entries = omega (arith, c.requires, ap (λ (b : Block). length b.entries) c.self.view_is) in
    ap₂ (λ (x y : ℕ). (x, y)) c.payload.ensures c.payload-2.ensures ∙ sym (read_at c.self.inside.words c.args.i within) ∙ ap (λ (b : Block). get_or b.entries c.args.i (0, 0)) c.self.view_is
