use Rattle.std.proofs.Common.{◌≡◌, ◌-◌, ◌∷◌, ◌++◌, map, length, take, replicate}
use Rattle.word.specs.Words.{word_of}
use Rattle.page.specs.Slot.{clone_word}
use Rattle.page.specs.View.{root_of}
use Rattle.page.proofs.slot.SlotStored.encode.Given as goal

abbrev pub invariant-loop-i : goal.invariant-loop-i
invariant-loop-i l = l.out ≡ word_of 6 l.self.generation ∷ (map clone_word (take l.i (map root_of l.self.places)) ++ replicate (length l.fn.out - 1 - l.i) 0)
