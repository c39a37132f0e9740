use Rattle.pile_law.proofs.Histories.{call_event}
use Rattle.pile_law.proofs.calls_are_events.Goals as goal

pub returns : goal.returns
returns g c = λ join x y w w' d a os es led S R.
    call_event _ join w w' d a os es _ _ _ _ (g.met.D.Piled.stands x).1 (g.met.D.Piled.reaches os x y led) S R
