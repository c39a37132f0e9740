-- What stands for a child has words.
use Rattle.std.proofs.Common.{◌≡◌, ℕ, ◌<◌, ◌≤◌, subst, arith}
use Rattle.page.specs.Block.{Layout}
use Rattle.page.specs.View.{view, entries}
use Rattle.page.specs.declared.page.Page.{Page}
use Rattle.page.proofs.Pages.{laid_out}
use Rattle.counts.specs.Moves.{Laid}
use Rattle.edit.specs.Plan.{page, placed, links}
use Rattle.edit.specs.Kids.{with_rest, Beside}
use Rattle.edit.specs.declared.kids.Rest.{Rest}
use Rattle.edit.specs.declared.kids.Rest.TheVariants.{Nothing, After, Before}

pub parts_laid : (made : Page) (rest : Rest) (w k x y : ℕ) → 32 ≤ w → made.level < 5 → Beside made.level rest → Laid w (links made.level (placed x y (with_rest k rest (entries made))))
parts_laid made rest w k x y h low = go rest
  where
    new : Layout w (view made)
    new = laid_out made w h low

    other : (q : Page) → q.level ≡ made.level → Layout w (page made.level (entries q))
    other q e = subst (λ (l : ℕ). Layout w (page l (entries q))) e (laid_out q w h (omega (arith, e, low)))

    go : (rest : Rest) → Beside made.level rest → Laid w (links made.level (placed x y (with_rest k rest (entries made))))
    go Nothing b = (new, tt)
    go (After s q) b = (new, (other q b.0, tt))
    go (Before s q) b = (other q b.0, (new, tt))
