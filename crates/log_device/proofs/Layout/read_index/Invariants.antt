use Rattle.std.proofs.Common.{◌≡◌, ◌+◌, ◌≤◌, length}
use Rattle.std.specs.Slice.Iter.{chunks_exact_rest, chunks_exact_size}
use Rattle.std.specs.Iterator.Adapters.{enumerate_source, enumerate_count}
use Rattle.log_device.specs.Log.{Indexed}
use Rattle.log_device.proofs.Chunks.{left_of}
use Rattle.log_device.proofs.Layout.read_index.Given as goal

abbrev pub invariant-loop-number : goal.invariant-loop-number
invariant-loop-number l = record {
  next : (goal.iterator-loop-number).can_next l.number-iterator;
  finite : (goal.iterator-loop-number).is_finite l.number-iterator;
  size : chunks_exact_size (enumerate_source l.number-iterator) ≡ l.fn.self.width + 1;
  rest : chunks_exact_rest (enumerate_source l.number-iterator) ≡ left_of l.image l.fn.self.width l.count (length l.yielded);
  count : enumerate_count l.number-iterator ≡ length l.yielded;
  within : length l.yielded ≤ l.count;
  index : Indexed l.image l.fn.self.blocks l.fn.self.width (length l.yielded) l.index.items;
}
