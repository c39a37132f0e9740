use Rattle.std.proofs.Common.{length, map, None, sym, ap, ◌∙◌, arith}
use Rattle.word.specs.Words.{word_of}
use Rattle.page.specs.Slot.{clone_word}
use Rattle.page.specs.View.{root_of}
use Rattle.page.proofs.Slots.{slot_step}
use Rattle.std.proofs.lemmas.List.{get_or-map, length-map}
use Rattle.page.proofs.slot.SlotStored.encode.Goals as goal

pub loop-i-preserved : goal.loop-i-preserved
loop-i-preserved c =
    let s = c.args.self.now in
    slot_step c.loop-i.out (length c.args.out.now) (word_of 6 s.generation) c.loop-i.i c.clone_word.result (map root_of s.places) (omega arith) (omega (arith, length-map s.places root_of))
    (c.clone_word.ensures ∙ ap clone_word (sym (get_or-map root_of s.places c.loop-i.i _ None (omega arith)))) c.loop-i.invariant
