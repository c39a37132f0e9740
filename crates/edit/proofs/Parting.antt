-- What stands for a child.
use Rattle.std.proofs.Common.{◌≡◌, ℕ, List, subst}
use Rattle.tree.specs.Node.{map_e}
use Rattle.edit.specs.Plan.{placed, links}
use Rattle.counts.specs.Moves.{State, run, Laid}

pub record By (l x y : ℕ) (q q' : State) (ks : List (ℕ × ℕ)) (ps : List (ℕ × List (ℕ × ℕ))) : Type 0 where
  pub kids : ks ≡ map_e (λ c. c.0) (placed x y ps)
  pub state : q' ≡ run (links l (placed x y ps)) q
  pub laid : Laid q.0.width (links l (placed x y ps))

pub by_parts : (l l' x y : ℕ) (q q' : State) (ks : List (ℕ × ℕ)) (ps ps' : List (ℕ × List (ℕ × ℕ))) → l ≡ l' → ps ≡ ps' → By l x y q q' ks ps → By l' x y q q' ks ps'
by_parts l l' x y q q' ks ps ps' e f by = subst (By l' x y q q' ks) f (subst (λ (l : ℕ). By l x y q q' ks ps) e by)
