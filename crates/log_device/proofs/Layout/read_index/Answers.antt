use Rattle.std.proofs.Common.{◌≡◌, ◌+◌, ◌++◌, ◌<◌, ◌≤◌, ◌^◌, Some, length, set, sym, ap, rules, ◌∙◌, subst, subst₂, arith}
use Rattle.std.specs.Slice.Iter.{chunks_exact_rest}
use Rattle.std.specs.Iterator.Adapters.{enumerate_source}
use Rattle.std.proofs.ByRecursion.{All-from_get_or}
use Rattle.std.proofs.lemmas.List.{length_push}
use Rattle.word.specs.Words.{payload_of}
use Rattle.log_device.specs.Log.{Indexed, Formed, capacity, place_of, flushed_in, record_at}
use Rattle.log_device.proofs.Facts.{room_of}
use Rattle.log_device.proofs.Indexes.{index_more}
use Rattle.log_device.proofs.Chunks.{left_of, no_more, is_one, rest_left, word_at}
use Rattle.log_device.proofs.Layout.read_index.Goals as goal

pub overflow_cast-number : goal.overflow_cast-number
overflow_cast-number c =
    let img = c.args.image.now in
    let w = c.args.self.width in
    let n = c.args.self.blocks in
    let k = c.flushed-count.result in
    let i = length c.loop-number.yielded in
    let f : Formed img n w = c.if-not-is_formed.ensures in
    let h : k ≤ capacity (length img) w = omega (arith, c.flushed-count.ensures, f.within) in
    let long : 1 ≤ length img = search rules in
    let room : place_of w k ≤ length img = room_of k w (length img) long h in
    let step = c.in-Some.ensures.steps.0.1 in
    let cut : left_of img w k i ≡ c.in-Some.record.now ++ chunks_exact_rest (enumerate_source c.next.new.self) = sym c.loop-number.invariant.rest ∙ step.0 in
    let size : length c.in-Some.record.now ≡ w + 1 = step.1 ∙ c.loop-number.invariant.size in
    let low : i < k = is_one img w k room i _ _ cut size in
    omega (arith, low, h, c.in-Some.ensures.steps.1, c.loop-number.invariant.count)

pub enter-requires : goal.enter-requires
enter-requires c =
    let img = c.args.image.now in
    let w = c.args.self.width in
    let n = c.args.self.blocks in
    let k = c.flushed-count.result in
    let i = length c.loop-number.yielded in
    let f : Formed img n w = c.if-not-is_formed.ensures in
    let h : k ≤ capacity (length img) w = omega (arith, c.flushed-count.ensures, f.within) in
    let long : 1 ≤ length img = search rules in
    let room : place_of w k ≤ length img = room_of k w (length img) long h in
    let step = c.in-Some.ensures.steps.0.1 in
    let cut : left_of img w k i ≡ c.in-Some.record.now ++ chunks_exact_rest (enumerate_source c.next.new.self) = sym c.loop-number.invariant.rest ∙ step.0 in
    let size : length c.in-Some.record.now ≡ w + 1 = step.1 ∙ c.loop-number.invariant.size in
    let low : i < k = is_one img w k room i _ _ cut size in
    omega (arith, (f.kinds i (omega (arith, low, c.flushed-count.ensures))).1, c.payload.ensures, ap payload_of (word_at img w k room i _ _ cut size), c.loop-number.invariant.index.long)

pub loop-number-preserved : goal.loop-number-preserved
loop-number-preserved c =
    let img = c.args.image.now in
    let w = c.args.self.width in
    let n = c.args.self.blocks in
    let k = c.flushed-count.result in
    let i = length c.loop-number.yielded in
    let f : Formed img n w = c.if-not-is_formed.ensures in
    let h : k ≤ capacity (length img) w = omega (arith, c.flushed-count.ensures, f.within) in
    let long : 1 ≤ length img = search rules in
    let room : place_of w k ≤ length img = room_of k w (length img) long h in
    let step = c.in-Some.ensures.steps.0.1 in
    let cut : left_of img w k i ≡ c.in-Some.record.now ++ chunks_exact_rest (enumerate_source c.next.new.self) = sym c.loop-number.invariant.rest ∙ step.0 in
    let size : length c.in-Some.record.now ≡ w + 1 = step.1 ∙ c.loop-number.invariant.size in
    let low : i < k = is_one img w k room i _ _ cut size in
    let number : c.in-Some.number ≡ i = c.in-Some.ensures.steps.1 ∙ c.loop-number.invariant.count in
    let block : (record_at w img i).0 ≡ c.payload.result = sym (c.payload.ensures ∙ ap payload_of (word_at img w k room i _ _ cut size)) in
    let within : c.payload.result < n = omega (arith, (f.kinds i (omega (arith, low, c.flushed-count.ensures))).1, block) in
    let more = length_push c.loop-number.yielded (c.in-Some.number, c.in-Some.record) in
    record {
      next = (c.in-Some.ensures.goes.on tt).0;
      finite = tt;
      size = c.in-Some.ensures.steps.0.0 ∙ c.loop-number.invariant.size;
      rest = rest_left img w k room i _ _ cut size ∙ ap (left_of img w k) (sym more);
      count = omega (arith, c.in-Some.ensures.steps.2, c.loop-number.invariant.count, more);
      within = omega (arith, more, low);
      index = subst₂ (λ m xs. Indexed img n w m xs) (sym more) (sym (c.enter.ensures ∙ ap (λ j. set c.loop-number.index.items c.payload.result (Some j)) number))
          (index_more img n w i c.payload.result c.loop-number.index.items c.loop-number.invariant.index block within);
    }

pub returns : goal.returns
returns c =
    let img = c.args.image.now in
    let w = c.args.self.width in
    let n = c.args.self.blocks in
    let k = c.flushed-count.result in
    let i = length c.loop-number.yielded in
    let f : Formed img n w = c.if-not-is_formed.ensures in
    let h : k ≤ capacity (length img) w = omega (arith, c.flushed-count.ensures, f.within) in
    let long : 1 ≤ length img = search rules in
    let room : place_of w k ≤ length img = room_of k w (length img) long h in
    let low : length (left_of img w k i) < w + 1 = omega (arith, ap length c.loop-number.invariant.rest, c.in-None.ensures.steps.0.1.0, c.loop-number.invariant.size) in
    let all : i ≡ flushed_in img = omega (arith, c.loop-number.invariant.within, no_more img w k room i low, c.flushed-count.ensures) in
    record {
      formed = (record { long = long; limits = c.args.self.limits }, f, subst (λ m. Indexed img n w m c.loop-number.index.items) all c.loop-number.invariant.index);
      fits = All-from_get_or (λ x. x < 2 ^ 32) img 0 (λ j l. omega (arith, c.type_inv.image j));
    }
