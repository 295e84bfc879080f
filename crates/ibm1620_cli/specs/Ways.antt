-- The way of the machine of a job, and its possible states on it when the host fails.
use Rattle.std.specs.Prelude.{ℕ, ◌≡◌, List, [], ◌∷◌, ◌++◌}
use Rattle.cpu_step.specs.State.{State}
use Rattle.cpu_step.specs.Load.{load_key, load_cut}
use Rattle.operator_script.specs.Turn.{RunPlace, IsOnTheWay}
use Rattle.console_debug.specs.Session.{Course, Act, turns_in}
use Rattle.console_debug.specs.Debugs.{IsWithinAct}

-- THE WAY OF A MACHINE: it was powered on, its Load key is pressed, some steps are made without a script, and then the turns are
-- taken from a first place on, up to a limit; or, after the Load key, a session does its acts over a course.
pub data Way : Type 0 where
  ByRun : (powered : State) (steps limit : ℕ) (first : RunPlace) → Way
  BySession : (powered : State) (course : Course) (acts : List Act) → Way

-- the place of a machine after its Load key, before its deck's steps
abbrev pub behind_key : State → RunPlace
behind_key powered = record { state = load_key powered; steps = 0; script = [] }

-- the state of a run within its Load key, within the steps of its deck, or within a turn
pub data StandsInRun (powered : State) (steps limit : ℕ) (first : RunPlace) (s : State) : Type 0 where
  in_key : (done : ℕ) → s ≡ load_cut done powered → StandsInRun powered steps limit first s
  in_deck : (q : RunPlace) → IsOnTheWay steps (behind_key powered) q → s ≡ q.state → StandsInRun powered steps limit first s
  in_turns : (q : RunPlace) → IsOnTheWay limit first q → s ≡ q.state → StandsInRun powered steps limit first s

-- the state of a session within its Load key, or within an act
pub data StandsInSession (powered : State) (c : Course) (acts : List Act) (s : State) : Type 0 where
  in_key : (done : ℕ) → s ≡ load_cut done powered → StandsInSession powered c acts s
  in_act : (done : List Act) (next : Act) (rest : List Act) → done ++ next ∷ rest ≡ acts → (place : RunPlace) → IsWithinAct c (turns_in done) next place
      → s ≡ place.state → StandsInSession powered c acts s

-- the state of a machine on its way
abbrev pub StandsOn : Way → State → Type 0
StandsOn (ByRun powered steps limit first) s = StandsInRun powered steps limit first s
StandsOn (BySession powered c acts) s = StandsInSession powered c acts s
