use Rattle.std.proofs.Common.{◌≡◌, length, sym, ap, ◌∙◌, subst}
use Rattle.memory.specs.Memory.{parts, parts_of, memory, cleared, Outlasts}
use Rattle.memory.proofs.Facts.{opened_cut}
use Rattle.memory.proofs.Memory.open.Goals as goal

pub returns-clause-cut : goal.returns-clause-cut
returns-clause-cut c =
    let per = c.args.persisted.now in
    let n = length c.args.marks.now in
    let w = c.args.width in
    let t = c.restore.new.self in
    let e = c.restore.ensures in
    let shown : memory (parts_of t w) ≡ cleared per n w =
    ap (λ x. memory (parts x t.persisted.now t.marks.now w)) e.current ∙ ap (λ x. memory (parts per x t.marks.now w)) e.persisted
    ∙ ap (λ ms. memory (parts per per ms w)) e.marks in
    subst (Outlasts per n w) (sym shown) (opened_cut per n w)
