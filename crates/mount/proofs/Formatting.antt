-- A device that can be formatted.
use Rattle.std.proofs.Common.{◌≡◌, ◌≤◌, true, cond, ltb, Some, None, ap, ◌∙◌}
use Rattle.std.proofs.lemmas.Bool.{le-ltb}
use Rattle.device.specs.Meaning.{Meaning, blocks_of}
use Rattle.model.specs.declared.refusal.Refusal.TheVariants.{Shape, Worn}
use Rattle.model.specs.World.{sizes}
use Rattle.mount.specs.Formats.{hindrance}

pub able : (m : Meaning) → sizes (blocks_of m) m.width ≡ true → 2 ≤ m.left → hindrance m ≡ None
able m fit some =
    ap (λ b. cond b (cond (ltb m.left 2) (Some (Worn None m.left_mark)) None) (Some Shape)) fit
    ∙ ap (λ b. cond b (Some (Worn None m.left_mark)) None) (le-ltb m.left 2 some)
