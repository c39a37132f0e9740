-- What moves leave as it was.
use Rattle.std.proofs.Common.{◌≡◌, ℕ, ◌+◌, ◌-◌, ◌≤◌, Bool, true, false, cond, eqb, List, [], ◌∷◌, ◌++◌, length, sym, refl, ◌∙◌, subst, arith, length-set}
use Rattle.device.specs.Meaning.{blocks_of, spent}
use Rattle.page.specs.Block.{block_at, kids_of}
use Rattle.counts.proofs.Opens.{length_opened}
use Rattle.counts.specs.Moves.{Move, opening, linking, State, step, run, writes, Laid}

pub record Same (q q' : State) (n : ℕ) : Type 0 where
  pub width : q'.0.width ≡ q.0.width
  pub blocks : blocks_of q'.0 ≡ blocks_of q.0
  pub counts : length q'.1 ≡ length q.1
  pub left : q.0.left ≤ q'.0.left + n

spent_le : (n : ℕ) → n ≤ spent n + 1
spent_le n = go (eqb n 4294967295)
  where
    go : (b : Bool) → n ≤ cond b n (n - 1) + 1
    go true = omega arith
    go false = omega arith

pub run_same : (vs : List Move) (q : State) → Same q (run vs q) (writes vs)
run_same [] q = record { width = refl; blocks = refl; counts = refl; left = omega arith }
run_same (opening x ∷ vs) q =
    let r = run_same vs (step (opening x) q) in
    record { width = r.width; blocks = r.blocks; counts = r.counts ∙ length_opened (kids_of (block_at q.0 x)) x q.1; left = r.left }
run_same (linking x n ∷ vs) q =
    let r = run_same vs (step (linking x n) q) in
    record {
      width = r.width;
      blocks = r.blocks ∙ length-set q.0.cells x _;
      counts = r.counts ∙ length-set q.1 x 1;
      left = omega (arith, r.left, spent_le q.0.left);
    }

pub same_by : (vs : List Move) (q q' : State) → q' ≡ run vs q → Same q q' (writes vs)
same_by vs q q' e = subst (λ (z : State). Same q z (writes vs)) (sym e) (run_same vs q)

pub run_append : (us vs : List Move) (q : State) → run (us ++ vs) q ≡ run vs (run us q)
run_append [] vs q = refl
run_append (u ∷ us) vs q = run_append us vs (step u q)

pub laid_append : (w : ℕ) (us vs : List Move) → Laid w us → Laid w vs → Laid w (us ++ vs)
laid_append w [] vs p q = q
laid_append w (u ∷ us) vs p q = (p.0, laid_append w us vs p.1 q)

pub writes_append : (us vs : List Move) → writes (us ++ vs) ≡ writes us + writes vs
writes_append [] vs = omega arith
writes_append (opening x ∷ us) vs = writes_append us vs
writes_append (linking x n ∷ us) vs = omega (arith, writes_append us vs)
