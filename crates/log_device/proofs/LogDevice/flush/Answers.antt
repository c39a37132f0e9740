use Rattle.std.proofs.Common.{◌≡◌, set, sym, ap, subst}
use Rattle.device.specs.Meaning.{flushed}
use Rattle.word.specs.Words.{word_of}
use Rattle.log_device.specs.Log.{log_of, image_of, Sound, Indexed}
use Rattle.log_device.proofs.Facts.{flush_after, flush_sound, head_record}
use Rattle.log_device.proofs.Indexes.{index_same}
use Rattle.log_device.proofs.LogDevice.flush.Goals as goal

pub invariant_of-self : goal.invariant_of-self
invariant_of-self c =
    let s = c.args.self.now in
    let img = s.image.now in
    let n = s.layout.blocks in
    let w = s.layout.width in
    let k = s.count in
    let index = s.index.items in
    record {
      sound = subst (λ x. Sound (set img 0 x) n w k) (sym c.word.ensures) (flush_sound img n w k s.sound);
      indexed = subst (λ x. Indexed (set img 0 x) n w k index) (sym c.word.ensures)
          (index_same img (set img 0 (word_of 8 k)) n w k index (λ i h. head_record img n w k s.sound i) s.indexed);
    }

pub returns : goal.returns
returns c =
    let s = c.args.self.now in
    let img = s.image.now in
    let after : log_of (set img 0 c.word.result) s.layout.blocks s.layout.width s.count ≡ flushed (log_of img s.layout.blocks s.layout.width s.count)
    = subst (λ x. log_of (set img 0 x) s.layout.blocks s.layout.width s.count ≡ flushed (log_of img s.layout.blocks s.layout.width s.count)) (sym c.word.ensures)
    (flush_after img s.layout.blocks s.layout.width s.count s.sound) in
    record { after = after; calls = (ap (λ x. image_of s.layout.width (set img 0 x) s.count) c.word.ensures, after) }
