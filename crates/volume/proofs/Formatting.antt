-- A formatted device makes an empty volume.
use Rattle.std.proofs.Common.{◌≡◌, ℕ, List, length, replicate, refl, ap, ◌∙◌, arith}
use lib.ListN.{length-replicate}
use Rattle.device.specs.Meaning.{Meaning, blocks_of}
use Rattle.model.specs.Plain.{blank}
use Rattle.model.specs.World.{Formatted, bare}
use Rattle.mount.proofs.Counting.{counting_none, counted}
use Rattle.volume.specs.Kept.{Kept}

pub kept_bare : (m : Meaning) (cs : List ℕ) → Formatted m → cs ≡ replicate (blocks_of m) 0 → Kept bare (m, cs)
kept_bare m cs f e = record {
  sized = f.0;
  working = refl;
  committed = refl;
  generation = omega arith;
  standing = (tt, tt);
  counted = counted m cs (1, blank) (counting_none m cs e);
  long = ap length e ∙ length-replicate (blocks_of m) 0;
}
