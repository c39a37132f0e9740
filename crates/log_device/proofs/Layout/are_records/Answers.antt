use Rattle.std.proofs.Common.{◌≡◌, ◌+◌, ◌*◌, Bool, true, false, MatchBool, Option, None, Some, get_or, take, drop, sym, ap, ◌∙◌, subst, arith, rules}
use Rattle.std.specs.Option.{IfSome, IsSomeAnd, option_map}
use Rattle.std.specs.Slice.Iter.{chunks_exact_rest, chunks_exact_size}
use Rattle.std.specs.Iterator.Runs.{IsChunksExactRun}
use Rattle.log_device.specs.Log.{IsRecord}
use Rattle.log_device.proofs.Chunks.{chunk_is_one, chunk_word, chunks}
use Rattle.log_device.proofs.Layout.are_records.Goals as goal

test : (r : Bool) {A B C : Type 0} → (A → C) → (B → C → ⊥) → MatchBool r A B → MatchBool r C (C → ⊥)
test true f g h = f h
test false f g h = g h

here : {X : Type 0} {P Q : X → Type 0} {R : Type 0} (o : Option X) (y : X) → option_map (λ y. y) o ≡ Some y → IfSome o P → IfSome o Q → ((x : X) → P x → Q x → R) → R
here None y e p q f = absurd (cc)
here (Some x) y e p q f = f x p q

both : {X : Type 0} {P Q : X → Type 0} {R : Type 0} (o : Option X) → IfSome o P → IsSomeAnd o Q → ((x : X) → P x → Q x → R) → R
both None p q f = absurd q
both (Some x) p q f = f x p q

pub returns : goal.returns
returns c =
    let img = c.args.image.now in
    let w = c.args.self.width in
    let k = c.args.count in
    let room = c.requires.within in
    let r = c.all.ensures.runs in
    let p = r.0 in
    let records = take (k * (w + 1)) (drop 1 img) in
    let size : chunks_exact_size p.from ≡ w + 1 = ap chunks_exact_size r.1 ∙ c.chunks_exact.ensures.size in
    let rest : chunks_exact_rest p.from ≡ records = ap chunks_exact_rest r.1 ∙ c.chunks_exact.ensures.rest ∙ ap (λ n. take n (drop 1 img)) (omega (arith, c.place.ensures)) in
    let u : IsChunksExactRun p (w + 1) records =
    subst (λ n. IsChunksExactRun p n records) size (subst (IsChunksExactRun p (chunks_exact_size p.from)) rest (c.chunks_exact.ensures.runs p p.seen (omega (arith, size)))) in
    test c.all.result
    (λ h j low. here (p.at j) _ (p.reads j c.args.image (omega (arith, u.1 h.0, chunks img w k room))) (u.2 j) (h.1 (λ a r f e. search rules) j)
    (λ x q t. (let is : IsRecord c.args.self.blocks (get_or x.now 0 0) = search rules in subst (IsRecord c.args.self.blocks) (chunk_word img w k room j x.now q.2.0 q.0) is)))
    (λ h a. (let one = h (λ a r f e. search rules) in
    both (p.at one.0) (u.2 one.0) one.2
    (λ x q t. (let no : IsRecord c.args.self.blocks (get_or x.now 0 0) → ⊥ = search rules in
    no (subst (IsRecord c.args.self.blocks) (sym (chunk_word img w k room one.0 x.now q.2.0 q.0)) (a one.0 (chunk_is_one img w k room one.0 x.now q.2.0 q.0)))))))
    r.2
