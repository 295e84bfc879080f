-- What the turns of a run do outside, by the instruction table: the bytes, the sectors, the cards and the lines of Keys among the effects of
-- each step, in their order; and the card that the operator's Load key takes.
use Rattle.std.specs.Prelude.{ℕ, zero, suc, List, [], ◌∷◌, ◌++◌}
use Rattle.outside_io.specs.Events.{Event}
use Rattle.cpu_step.specs.Step.{instruction}
use Rattle.cpu_step.specs.State.{State}
use Rattle.cpu_step.specs.Outside.{all_outside, load_events}
use Rattle.operator_script.specs.declared.script.Action.{Action}
use Rattle.operator_script.specs.declared.script.Action.TheVariants as action
use Rattle.operator_script.specs.declared.script.ScriptLine.{ScriptLine}
use Rattle.operator_script.specs.Turn.{RunPlace, Turning, Acted, Stepped, Ended, turn, most_turns}

-- what a step does
abbrev pub step_events : RunPlace → List Event
step_events p = all_outside (instruction p.state).effects

-- what the operator's action does: the Load key takes a card
abbrev pub action_events : Action → State → List Event
action_events action.Load s = load_events s
action_events other s = []

-- what the front line of a script does
abbrev pub front_events : List ScriptLine → State → List Event
front_events [] s = []
front_events (line ∷ rest) s = action_events line.action s

-- what a turn of a place does
abbrev pub turning_events : RunPlace → Turning → List Event
turning_events p (Acted q) = front_events p.script p.state
turning_events p (Stepped q) = step_events p
turning_events p (Ended how) = []

abbrev pub turn_events : ℕ → RunPlace → List Event
turn_events limit p = turning_events p (turn limit p)

-- what the turns of a run do from a place on, in at most n turns
unfoldable pub events_within : ℕ → ℕ → RunPlace → List Event
events_within limit zero p = []
events_within limit (suc n) p = elim (turn limit p) [
  | Acted q ↦ front_events p.script p.state ++ events_within limit n q
  | Stepped q ↦ step_events p ++ events_within limit n q
  | Ended how ↦ []
]

-- all that a run does
abbrev pub run_events : ℕ → RunPlace → List Event
run_events limit p = events_within limit (most_turns limit p) p
