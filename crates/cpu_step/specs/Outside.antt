-- What the effects of a step do outside the machine.
use Rattle.std.specs.Prelude.{List, [], ◌∷◌, ◌++◌}
use Rattle.outside_io.specs.Events.{Event, WriteByte, WriteSector, TakeCard, TakeLine}
use Rattle.cpu_step.specs.Effects.{Effect, Written, Sector, CardTaken, LineTaken}
use Rattle.cpu_step.specs.State.{State}
use Rattle.cpu_step.specs.Load.{state_for_load, load_trace}

-- the events of an effect
abbrev pub outside : Effect → List Event
outside (Written u b) = WriteByte u b ∷ []
outside (Sector a bytes) = WriteSector a bytes ∷ []
outside CardTaken = TakeCard ∷ []
outside LineTaken = TakeLine ∷ []
outside e = []

abbrev pub all_outside : List Effect → List Event
all_outside [] = []
all_outside (e ∷ es) = outside e ++ all_outside es

-- the events of the Load key
abbrev pub load_events : State → List Event
load_events s = all_outside (load_trace (state_for_load s)).effects
