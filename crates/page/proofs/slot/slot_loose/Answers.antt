use Rattle.std.proofs.Common.{◌≡◌, ℕ, ◌+◌, get_or, ap₂, arith, rules}
use Rattle.page.specs.Slot.{Table, clone_read}
use Rattle.page.specs.View.{root_of}
use Rattle.page.proofs.Slots.{made_by, clones_read}
use Rattle.page.proofs.slot.slot_loose.Goals as goal

pub returns : goal.returns
returns c =
    let ws = c.args.words.now in
    let m = made_by _ (λ k y. root_of y ≡ clone_read (get_or ws (k + 1) 0)) _ c.from_fn.result 24 0 (λ x y q k. search rules) c.from_fn.ensures.items.each in
    ap₂ (λ (g : ℕ) (t : Table). (g, t)) c.payload.ensures (clones_read c.from_fn.result ws c.from_fn.ensures.items.long (omega arith) (λ k d h. m k d (omega arith) h))
