-- The turns of a run: the operator's front line if it is due, otherwise one step.
-- Source: CPU manual, console keys and switches, for what the operator's actions do; the turns are this project's own.
use Rattle.std.specs.Prelude.{ℕ, zero, suc, ◌≡◌, Bool, true, false, ◌+◌, ◌-◌, ◌==◌, nat_le, List, [], ◌∷◌, length, if◌then◌else◌, Option, Some, None}
use Rattle.digit_core.specs.Cell.{core_with_flip}
use Rattle.indicators.specs.Panel.{set, with_checks}
use Rattle.cpu_step.specs.declared.machine.Mode.{Mode}
use Rattle.cpu_step.specs.declared.machine.Mode.TheVariants as mode
use Rattle.cpu_step.specs.State.{State}
use Rattle.cpu_step.specs.Step.{step, partial_step}
use Rattle.cpu_step.specs.Load.{load_key, load_cut}
use Rattle.operator_script.specs.declared.script.Due.{Due}
use Rattle.operator_script.specs.declared.script.Due.TheVariants as due
use Rattle.operator_script.specs.declared.script.Action.{Action}
use Rattle.operator_script.specs.declared.script.Action.TheVariants as action
use Rattle.operator_script.specs.declared.script.ScriptLine.{ScriptLine}
use Rattle.operator_script.specs.declared.turns.Ending.{Ending}
use Rattle.operator_script.specs.declared.turns.Ending.TheVariants as ending

-- a place of a run: the state, the count of steps made, and the rest of the script
pub record RunPlace : Type 0 where
  pub state : State
  pub steps : ℕ
  pub script : List ScriptLine

-- START lets a halted machine run on, and does nothing to a running one
abbrev pub mode_at_start : Mode → Mode
mode_at_start (mode.Halted at) = mode.Running
mode_at_start m = m

-- what the operator's action does
unfoldable pub state_after_action : Action → State → State
state_after_action action.Start s = record s { mode = mode_at_start s.mode }
state_after_action action.Load s = load_key s
state_after_action (action.Switch k on) s = record s { panel = set k on s.panel }
state_after_action (action.Overflow stops) s = record s { panel = with_checks stops s.panel.in_out_stops s.panel }
state_after_action (action.InOut stops) s = record s { panel = with_checks s.panel.overflow_stops stops s.panel }
state_after_action (action.Flip at bit) s = record s { core = core_with_flip s.core at bit }

-- an AT line is due once the count has reached its number, a HALT line when the machine is halted
abbrev pub is_halted : Mode → Bool
is_halted (mode.Halted at) = true
is_halted m = false

abbrev pub is_due : Due → ℕ → Mode → Bool
is_due (due.At n) steps m = nat_le n steps
is_due due.Halt steps m = is_halted m

-- the action of the front line, if it is due
abbrev pub due_action : Mode → ℕ → List ScriptLine → Option Action
due_action m steps [] = None
due_action m steps (line ∷ rest) = if is_due line.due steps m then Some line.action else None

-- what a turn does: the operator acts, a step is made, or the run ends
pub data Turning : Type 0 where
  Acted : (to : RunPlace) → Turning
  Stepped : (to : RunPlace) → Turning
  Ended : (how : Ending) → Turning

-- a step is made
abbrev pub is_step : Turning → Bool
is_step (Stepped to) = true
is_step t = false

-- the front line acts, and is taken off
abbrev pub place_after_action : RunPlace → Action → List ScriptLine → RunPlace
place_after_action p action rest = record { state = state_after_action action p.state; steps = p.steps; script = rest }

-- one step is made, and the count rises by 1
abbrev pub place_after_step : RunPlace → RunPlace
place_after_step p = record { state = step p.state; steps = p.steps + 1; script = p.script }

-- how a run ends in this mode, with this IR
abbrev pub ending_at : Mode → ℕ → Ending
ending_at mode.Running ir = ending.Limit
ending_at (mode.Halted at) ir = ending.Halted at
ending_at (mode.Stopped kind at) ir = ending.Stopped kind at
ending_at mode.Empty ir = ending.NeedCards ir
ending_at mode.NoKeys ir = ending.NeedKeys ir
ending_at (mode.Jam u n) ir = ending.Jam u n
ending_at mode.Faulted ir = ending.Failed

abbrev pub ending_of : State → Ending
ending_of s = ending_at s.mode s.regs.ir

-- without a line that is due, a halted machine and a count at the limit end the run
abbrev pub by_mode : ℕ → RunPlace → Mode → Turning
by_mode limit p mode.Running = if p.steps == limit then Ended (ending_of p.state) else Stepped (place_after_step p)
by_mode limit p m = Ended (ending_of p.state)

abbrev pub by_script : ℕ → RunPlace → List ScriptLine → Turning
by_script limit p [] = by_mode limit p p.state.mode
by_script limit p (line ∷ rest) =
    if is_due line.due p.steps p.state.mode then Acted (place_after_action p line.action rest)
    else by_mode limit p p.state.mode

-- a mode other than Running and Halted ends the run
abbrev pub can_go : Mode → Bool
can_go mode.Running = true
can_go (mode.Halted at) = true
can_go m = false

-- the turn of a place
unfoldable pub turn : ℕ → RunPlace → Turning
turn limit p = if can_go p.state.mode then by_script limit p p.script else Ended (ending_of p.state)

-- the places of a run, numbered from 0; None after the last
unfoldable pub place_after : ℕ → ℕ → RunPlace → Option RunPlace
place_after limit zero p = Some p
place_after limit (suc n) p = elim (turn limit p) [
  | Acted q ↦ place_after limit n q
  | Stepped q ↦ place_after limit n q
  | Ended how ↦ None
]

-- the last place of the run after at most n turns
unfoldable pub last_within : ℕ → ℕ → RunPlace → RunPlace
last_within limit zero p = p
last_within limit (suc n) p = elim (turn limit p) [
  | Acted q ↦ last_within limit n q
  | Stepped q ↦ last_within limit n q
  | Ended how ↦ p
]

-- a run makes no more turns than steps up to its limit and lines of its script
abbrev pub most_turns : ℕ → RunPlace → ℕ
most_turns limit p = (limit - p.steps) + length p.script

-- the last place of a run
abbrev pub last_place : ℕ → RunPlace → RunPlace
last_place limit p = last_within limit (most_turns limit p) p

-- p is the run's last place, n turns after the first, and the run has this ending
pub record IsLast (limit : ℕ) (first : RunPlace) (n : ℕ) (p : RunPlace) (how : Ending) : Type 0 where
  pub reached : place_after limit n first ≡ Some p
  pub ends : turn limit p ≡ Ended how

-- a first part of a step is done, and the step counts
abbrev pub place_step_cut : ℕ → RunPlace → RunPlace
place_step_cut done p = record { state = partial_step done p.state; steps = p.steps + 1; script = p.script }

-- a first part of the Load key is done, and its line is used up
abbrev pub place_load_cut : ℕ → RunPlace → List ScriptLine → RunPlace
place_load_cut done p rest = record { state = load_cut done p.state; steps = p.steps; script = rest }

-- q is a place after a part of its turn, the host having failed: in a step, or in a Load key of the script
pub data IsCutTurn (limit : ℕ) (p q : RunPlace) : Type 0 where
  in_step : (done : ℕ) → turn limit p ≡ Stepped (place_after_step p) → q ≡ place_step_cut done p → IsCutTurn limit p q
  in_load : (done : ℕ) (rest : List ScriptLine) → due_action p.state.mode p.steps p.script ≡ Some action.Load → turn limit p ≡ Acted (place_after_action p action.Load rest)
      → q ≡ place_load_cut done p rest → IsCutTurn limit p q

-- q is a place on the way of a run that was cut short in the turn after one of its places
pub record IsOnTheWay (limit : ℕ) (first q : RunPlace) : Type 0 where
  pub turns : ℕ
  pub place : RunPlace
  pub reached : place_after limit turns first ≡ Some place
  pub is_cut : IsCutTurn limit place q
