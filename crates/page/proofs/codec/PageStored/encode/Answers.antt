use Rattle.std.proofs.Common.{◌≡◌, ℕ, ◌+◌, ◌*◌, ◌<◌, length, get_or, set, sym, ap, ◌∙◌, arith}
use Rattle.word.specs.Words.{word_of}
use Rattle.page.specs.InUse.{in_use}
use Rattle.page.specs.Block.{header_of, value_kind}
use Rattle.page.specs.View.{pair, entries}
use Rattle.page.proofs.Pages.{entries_few, entries_length, entries_at}
use Rattle.page.proofs.Words.{enc_step}
use Rattle.page.proofs.codec.PageStored.encode.Goals as goal

pub loop-i-preserved : goal.loop-i-preserved
loop-i-preserved c =
    let p = c.args.self.now in
    let i = c.loop-i.i in
    let lt : i < length (in_use p.entries) = omega (arith, ap length c.as_slice-entries.ensures.value) in
    let at : get_or (in_use p.entries) i c.index-entries-i.result ≡ c.index-entries-i.result = ap (λ xs. get_or xs i c.index-entries-i.result) (sym c.as_slice-entries.ensures.value) ∙ sym c.index-entries-i.is in
    ap (λ x. set (set c.loop-i.out (2 * i + 2) x) (2 * i + 3) c.word-in-loop-i.result) c.word.ensures
    ∙ enc_step c.loop-i.out (length c.args.out.now) (value_kind p.level) (header_of p.level (length (in_use p.entries))) i (entries p) c.index-entries-i.result.speed c.index-entries-i.result.value c.word-in-loop-i.result
    (omega (arith, entries_few p, entries_length p)) (omega (arith, entries_length p)) (entries_at p i c.index-entries-i.result lt ∙ ap pair at) (c.word-in-loop-i.ensures ∙ ap (λ (k : ℕ). word_of k c.index-entries-i.result.value) c.value_kind.ensures) c.loop-i.invariant
