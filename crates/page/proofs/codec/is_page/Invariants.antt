use Rattle.std.proofs.Common.{◌≡◌, ℕ, ◌<◌, true, length}
use Rattle.page.specs.Block.{read, encode}
use Rattle.page.proofs.Judged.{Pair}
use Rattle.page.proofs.codec.is_page.Given as goal

-- whether the pairs before place i are of their kinds
abbrev pub invariant-loop-i : goal.invariant-loop-i
invariant-loop-i l = record {
  if_so : l.kinds ≡ true → (k : ℕ) → k < l.i → Pair l.words l.level k;
  so : l.words ≡ encode (length l.words) (read l.words) → l.kinds ≡ true;
}
