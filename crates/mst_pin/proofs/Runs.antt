-- One step more after a run.
use Rattle.mst_pin.proofs.Names.{List, [], ◌∷◌, ◌++◌, subst, refl, Event, Answer, State, Steps, Runs}

pub runs_more : (s m t : State) (events : List Event) (answers : List Answer) (e : Event)
    (a : Answer) → Runs s events answers m → Steps m e a t → Runs s (events ++ e ∷ [])
    (answers ++ a ∷ []) t
runs_more s m t [] [] e a ran step = (t, subst (λ (z : State). Steps z e a t) ran step, refl)
runs_more s m t [] (b ∷ answers) e a ran step = absurd ran
runs_more s m t (d ∷ events) [] e a ran step = absurd ran
runs_more s m t (d ∷ events) (b ∷ answers) e a ran step =
    (ran.0, ran.1, runs_more ran.0 m t events answers e a ran.2 step)
