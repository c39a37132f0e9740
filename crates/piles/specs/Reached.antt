-- The calls of a pile, layer by layer: what the types of devices need to be piles.
use Rattle.std.proofs.Common.{◌≡◌, ℕ, ◌≤◌, List, [], ◌∷◌, map, sym, refl, ap, ◌∙◌}
use Rattle.device.specs.Meaning.{Meaning, blocks_of}
use Rattle.device.specs.Cuts.{Op, apply, replay}
use Rattle.device.proofs.Choices.{blocks_replay}
use Rattle.check_layer.specs.Checked.{below_op}
use Rattle.quota.specs.Limited.{limited, limited_blocks}
use Rattle.piles.specs.Piles.{Pile, Pile.bottom, Pile.check, Pile.quota, Pile.mirror, whole, calls}

pub calls_bottom : (os : List Op) (m : Meaning) → calls os (bottom m) ≡ bottom (replay os m)
calls_bottom [] m = refl
calls_bottom (o ∷ os) m = calls_bottom os (apply o m)

pub calls_check : (os : List Op) (p : Pile) → calls os (check p) ≡ check (calls (map below_op os) p)
calls_check [] p = refl
calls_check (o ∷ os) p = calls_check os (whole (below_op o) p)

pub calls_quota : (os : List Op) (n : ℕ) (p : Pile) → calls os (quota n p) ≡ quota n (calls os p)
calls_quota [] n p = refl
calls_quota (o ∷ os) n p = calls_quota os n (whole o p)

pub calls_mirror : (os : List Op) (p q : Pile) → calls os (mirror p q) ≡ mirror (calls os p) (calls os q)
calls_mirror [] p q = refl
calls_mirror (o ∷ os) p q = calls_mirror os (whole o p) (whole o q)

-- a quota keeps its limit, since it keeps its number of blocks
pub same_limit : (n k : ℕ) (m m' : Meaning) (os : List Op) → n ≤ blocks_of m → k ≤ blocks_of m' → limited k m' ≡ replay os (limited n m) → k ≡ n
same_limit n k m m' os h h' e =
    sym (limited_blocks k m' h') ∙ ap (λ (x : Meaning). blocks_of x) e ∙ blocks_replay os (limited n m) ∙ limited_blocks n m h
