use Rattle.std.proofs.Common.{◌≡◌, ℕ, ◌*◌, ◌+◌, ◌/◌, ◌%◌, ◌≤◌, ◌&&◌, eqb, get_or, drop, sym, ap, ◌∙◌, subst, ⊎_elim, arith, rules, tests}
use Rattle.std.proofs.lemmas.Bool.{eq-eqb, eqb-true, and_parts, and_from, cases_eq}
use Rattle.std.proofs.lemmas.Iterator.{YieldsList-from_slice}
use Rattle.std.proofs.lemmas.Iterator.Search.{all_from_yields_List}
use Rattle.std.proofs.lemmas.Slice.{between_to_end}
use Rattle.word.specs.Words.{word_of, payload_of}
use Rattle.page.specs.Block.{header_of}
use Rattle.page.proofs.Judged.{Pair, judged, own_pair, own_rest, all_own}
use Rattle.page.proofs.codec.is_page.Goals as goal

pub loop-i-preserved : goal.loop-i-preserved
loop-i-preserved c =
    let ws = c.args.words.now in
    let i = c.loop-i.i in
    let level : get_or ws 0 0 % 268435456 / 256 ≡ c.payload-level.result / 256 = ap (λ (k : ℕ). k / 256) (sym c.payload-level.ensures) in
    let few : get_or ws 0 0 % 256 ≤ 15 = omega (arith, c.if-len-gt15.false) in
    let low : get_or ws 0 0 % 268435456 / 256 ≤ 4 = omega (arith, c.if-level-gt4.false, c.payload-level.ensures) in
    let value : ℕ = get_or ws (2 * i + 3) 0 in
    let of_kind = ap (λ (k : ℕ). word_of k (payload_of value)) c.value_kind-kind.ensures in
    record {
      if_so = λ t k h.
          let a = and_parts (c.loop-i.kinds && c.is_of-kinds.result) c.is_of-kinds-in-loop-i.result t in
          let b = and_parts c.loop-i.kinds c.is_of-kinds.result a.0 in
          ⊎_elim
          (λ (e : k ≡ i). subst (Pair ws (c.payload-level.result / 256)) (sym e) (record {
            speed = eqb-true _ _ (sym c.is_of-kinds.ensures ∙ b.1);
            value = eqb-true _ _ (sym c.is_of-kinds-in-loop-i.ensures ∙ a.1) ∙ of_kind;
          }))
          (λ ne. c.loop-i.invariant.if_so b.0 k (omega (arith, ne, h)))
          (cases_eq k i);
      so = λ e.
          let p = subst (λ (l : ℕ). Pair ws l i) level (own_pair ws c.requires.wide few low e i c.loop-i-test.true) in
          and_from (c.loop-i.kinds && c.is_of-kinds.result) c.is_of-kinds-in-loop-i.result
          (and_from c.loop-i.kinds c.is_of-kinds.result (c.loop-i.invariant.so e) (c.is_of-kinds.ensures ∙ eq-eqb _ _ p.speed))
          (c.is_of-kinds-in-loop-i.ensures ∙ eq-eqb _ _ (p.value ∙ sym of_kind));
    }

pub returns-then-kinds : goal.returns-then-kinds
returns-then-kinds c =
    let ws = c.args.words.now in
    let n = get_or ws 0 0 % 256 in
    let few : n ≤ 15 = omega (arith, c.if-len-gt15.false) in
    let low : get_or ws 0 0 % 268435456 / 256 ≤ 4 = omega (arith, c.if-level-gt4.false, c.payload-level.ensures) in
    let level : c.payload-level.result / 256 ≡ get_or ws 0 0 % 268435456 / 256 = ap (λ (k : ℕ). k / 256) c.payload-level.ensures in
    let rest = all_from_yields_List (λ (w : ℕ). eqb w 0) _ _ c.all.result c.all.ensures.ran (YieldsList-from_slice (drop (2 * n + 2) ws) (c.iter.ensures.rest ∙ between_to_end ws (2 * n + 2) _ (omega arith))) (λ x b q k. search (rules, tests)) in
    judged ws c.requires.wide few low c.all.result
    (λ e. all_own ws c.requires.wide few low (c.if-words-header_word.false ∙ c.header_word.ensures ∙ ap (λ (k : ℕ). header_of k n) level) c.if-words-ne0.false
    (λ k h. subst (λ (l : ℕ). Pair ws l k) level (c.loop-i.invariant.if_so c.if-kinds.true k (omega (arith, h, c.loop-i-test.false)))) (sym rest ∙ e))
    (λ e. rest ∙ own_rest ws c.requires.wide few low e)
