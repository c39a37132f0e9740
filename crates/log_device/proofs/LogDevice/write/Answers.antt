use Rattle.std.proofs.Common.{◌≡◌, ◌+◌, ◌-◌, ◌^◌, ◌<◌, ◌≤◌, ◌∷◌, Some, Err, Result, length, set, sym, ap, ◌∙◌, subst, subst₂, arith}
use borrow.Rule.Slice.PartMut.{put_mid}
use Rattle.std.specs.List.{AllByRecursion}
use Rattle.std.proofs.ByRecursion.{All-from_get_or}
use Rattle.std.proofs.lemmas.List.FromFn.{length-map-range_with_len}
use Rattle.device.specs.declared.Layer.TheVariants.{Log}
use Rattle.device.specs.declared.LayerMark.{LayerMark}
use Rattle.device.specs.declared.DeviceFault.{DeviceFault}
use Rattle.device.specs.declared.DeviceFault.TheVariants.{Worn}
use Rattle.device.proofs.Calls.{writing_at, spending_worn, spending_ok}
use Rattle.word.specs.Words.{word_of}
use Rattle.log_device.specs.Log.{log_of, image_of, with_record, Sound, Indexed, record_at, capacity, place_of}
use Rattle.log_device.proofs.Facts.{admitted_at, write_after, write_sound, put_old, put_record, put_is}
use Rattle.log_device.proofs.Indexes.{index_same, index_more}
use Rattle.log_device.proofs.LogDevice.write.Goals as goal

worn : {a b : LayerMark} → a ≡ b → ◌≡◌ {A = Result Unit DeviceFault} (Err (Worn a)) (Err (Worn b))
worn e = cc

pub returns-then-self-capacity-clause-answer : goal.returns-then-self-capacity-clause-answer
returns-then-self-capacity-clause-answer c =
    let s = c.args.self.now in
    let m = log_of s.image.now s.layout.blocks s.layout.width s.count in
    let t = admitted_at s.image.now s.layout.blocks s.layout.width s.count c.args.block (length c.args.words.now) (sym c.in_ok-admit.was ∙ c.admit.ensures) in
    let none : m.left ≤ 0 = omega (arith, length-map-range_with_len (record_at s.layout.width s.image.now) 0 s.count, c.capacity.ensures, c.if-self-capacity.true) in
    worn c.own.ensures ∙ sym (writing_at Log m c.args.block (length c.args.words.now) t.0 (simp length-map-range_with_len t.1) ∙ spending_worn m none)

pub word-requires : goal.word-requires
word-requires c =
    let s = c.args.self.now in
    let t = admitted_at s.image.now s.layout.blocks s.layout.width s.count c.args.block (length c.args.words.now) (sym c.in_ok-admit.was ∙ c.admit.ensures) in
    omega (arith, t.1, s.sound.limits.few)

pub enter-requires : goal.enter-requires
enter-requires c =
    let s = c.args.self.now in
    let t = admitted_at s.image.now s.layout.blocks s.layout.width s.count c.args.block (length c.args.words.now) (sym c.in_ok-admit.was ∙ c.admit.ensures) in
    omega (arith, t.1, s.indexed.long)

pub invariant_of-self : goal.invariant_of-self
invariant_of-self c =
    let s = c.args.self.now in
    let img = s.image.now in
    let n = s.layout.blocks in
    let w = s.layout.width in
    let k = s.count in
    let b = c.args.block in
    let ws = c.args.words.now in
    let index = s.index.items in
    let t = admitted_at img n w k b (length ws) (sym c.in_ok-admit.was ∙ c.admit.ensures) in
    let fits : AllByRecursion (λ x. x < 2 ^ 32) ws = All-from_get_or (λ x. x < 2 ^ 32) ws 0 (λ i l. omega (arith, c.type_inv.words i)) in
    let room : k < capacity (length img) w = omega (arith, c.capacity.ensures, c.if-self-capacity.false) in
    let from = c.place-from.result in
    let e : c.write_record.new.to ≡ word_of 9 b ∷ ws = c.write_record.ensures ∙ ap (λ x. x ∷ ws) c.word.ensures in
    let size : place_of w k + w + 1 - place_of w k ≡ w + 1 = omega arith in
    let put = put_mid (place_of w k) (place_of w k + w + 1 - place_of w k) img (word_of 9 b ∷ ws) in
    let kept : Indexed put n w k index = index_same img put n w k index (λ i l. put_old img n w k s.sound b ws t.1 t.0 fits room _ size i l) s.indexed in
    let entered : Indexed put n w (k + 1) (set index b (Some k)) =
    index_more put n w k b index kept (ap (λ r. r.0) (put_record img n w k s.sound b ws t.1 t.0 fits room _ size)) t.1 in
    record {
      sound = subst (λ j. Sound (put_mid j (j + w + 1 - j) img c.write_record.new.to) n w (k + 1)) (sym c.place-from.ensures)
          (subst (λ xs. Sound (put_mid (place_of w k) (place_of w k + w + 1 - place_of w k) img xs) n w (k + 1)) (sym e) (write_sound img n w k s.sound b ws t.1 t.0 fits room _ size));
      indexed = subst (λ j. Indexed (put_mid j (j + w + 1 - j) img c.write_record.new.to) n w (k + 1) c.enter.new.index.items) (sym c.place-from.ensures)
          (subst₂ (λ xs is. Indexed (put_mid (place_of w k) (place_of w k + w + 1 - place_of w k) img xs) n w (k + 1) is) (sym e) (sym c.enter.ensures) entered);
    }

pub returns-clause-after : goal.returns-clause-after
returns-clause-after c =
    let s = c.args.self.now in
    let img = s.image.now in
    let n = s.layout.blocks in
    let w = s.layout.width in
    let k = s.count in
    let b = c.args.block in
    let ws = c.args.words.now in
    let t = admitted_at img n w k b (length ws) (sym c.in_ok-admit.was ∙ c.admit.ensures) in
    let fits : AllByRecursion (λ x. x < 2 ^ 32) ws = All-from_get_or (λ x. x < 2 ^ 32) ws 0 (λ i l. omega (arith, c.type_inv.words i)) in
    let room : k < capacity (length img) w = omega (arith, c.capacity.ensures, c.if-self-capacity.false) in
    let e : c.write_record.new.to ≡ word_of 9 b ∷ ws = c.write_record.ensures ∙ ap (λ x. x ∷ ws) c.word.ensures in
    let size : place_of w k + w + 1 - place_of w k ≡ w + 1 = omega arith in
    ap (λ j. log_of (put_mid j (j + w + 1 - j) img c.write_record.new.to) n w (k + 1)) c.place-from.ensures
    ∙ ap (λ xs. log_of (put_mid (place_of w k) (place_of w k + w + 1 - place_of w k) img xs) n w (k + 1)) e
    ∙ write_after img n w k s.sound b ws t.1 t.0 fits room _ size

pub returns-clause-calls : goal.returns-clause-calls
returns-clause-calls c =
    let s = c.args.self.now in
    let img = s.image.now in
    let n = s.layout.blocks in
    let w = s.layout.width in
    let k = s.count in
    let b = c.args.block in
    let ws = c.args.words.now in
    let t = admitted_at img n w k b (length ws) (sym c.in_ok-admit.was ∙ c.admit.ensures) in
    let fits : AllByRecursion (λ x. x < 2 ^ 32) ws = All-from_get_or (λ x. x < 2 ^ 32) ws 0 (λ i l. omega (arith, c.type_inv.words i)) in
    let room : k < capacity (length img) w = omega (arith, c.capacity.ensures, c.if-self-capacity.false) in
    let e : c.write_record.new.to ≡ word_of 9 b ∷ ws = c.write_record.ensures ∙ ap (λ x. x ∷ ws) c.word.ensures in
    let size : place_of w k + w + 1 - place_of w k ≡ w + 1 = omega arith in
    let put : put_mid c.place-from.result (c.place-from.result + w + 1 - c.place-from.result) img c.write_record.new.to ≡ with_record w img k b ws
    = ap (λ j. put_mid j (j + w + 1 - j) img c.write_record.new.to) c.place-from.ensures
    ∙ ap (λ xs. put_mid (place_of w k) (place_of w k + w + 1 - place_of w k) img xs) e
    ∙ put_is img n w k s.sound b ws t.1 t.0 fits room _ size in
    (ap (λ xs. image_of w xs (k + 1)) put, returns-clause-after c)

pub returns-clause-answer : goal.returns-clause-answer
returns-clause-answer c =
    let s = c.args.self.now in
    let m = log_of s.image.now s.layout.blocks s.layout.width s.count in
    let t = admitted_at s.image.now s.layout.blocks s.layout.width s.count c.args.block (length c.args.words.now) (sym c.in_ok-admit.was ∙ c.admit.ensures) in
    let some : 0 < m.left = omega (arith, length-map-range_with_len (record_at s.layout.width s.image.now) 0 s.count, c.capacity.ensures, c.if-self-capacity.false) in
    sym (writing_at Log m c.args.block (length c.args.words.now) t.0 (simp length-map-range_with_len t.1) ∙ spending_ok m some)
