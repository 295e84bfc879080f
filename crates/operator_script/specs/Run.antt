-- What the calls of a run do to a machine, its script and its host.
use Rattle.std.specs.Prelude.{ℕ, ◌≡◌, ◌≤◌, ◌<◌, ◌+◌, ◌-◌, length, ⊤, All, Bool, true, false, List, Option, Some, None, option_map, IfSome}
use Rattle.digit_core.specs.Size.{size}
use Rattle.outside_io.specs.World.{World, Seen, Rose}
use Rattle.cpu_step.specs.declared.machine.Machine.{Machine}
use Rattle.cpu_step.specs.declared.machine.Mode.{Mode}
use Rattle.cpu_step.specs.declared.machine.Mode.TheVariants as mode
use Rattle.cpu_step.specs.Machine.{is_faulted, state_of, Shows, Frames, Makes, StopsShort}
use Rattle.cpu_step.specs.State.{State}
use Rattle.cpu_step.specs.Step.{step}
use Rattle.cpu_step.specs.Load.{load_cut}
use Rattle.operator_script.specs.declared.script.Action.{Action}
use Rattle.operator_script.specs.declared.script.Action.TheVariants as action
use Rattle.operator_script.specs.declared.script.ScriptLine.{ScriptLine}
use Rattle.operator_script.specs.declared.script.Script.{Script}
use Rattle.operator_script.specs.declared.runs.Run.{Run}
use Rattle.operator_script.specs.declared.runs.StepEnd.{StepEnd}
use Rattle.operator_script.specs.declared.runs.StepEnd.TheVariants as stepped
use Rattle.operator_script.specs.declared.turns.Ending.{Ending}
use Rattle.operator_script.specs.declared.turns.Ending.TheVariants as ending
use Rattle.operator_script.specs.declared.turns.TurnEnd.{TurnEnd}
use Rattle.operator_script.specs.declared.turns.TurnEnd.TheVariants as end
use Rattle.operator_script.specs.Scripts.{IsLine, lines_left}
use Rattle.operator_script.specs.Turn as run

-- a machine, its script and the count of steps made
pub record RunState (m : ℕ) : Type 0 where
  pub machine : Machine m
  pub script : Script
  pub steps : ℕ

abbrev pub run_state : (m : ℕ) → Machine m → Script → ℕ → RunState m
run_state m machine script steps = record { machine = machine; script = script; steps = steps }

-- the run state of a run
abbrev pub standing_of : (m : ℕ) → Run m → RunState m
standing_of m r = run_state m r.machine.now r.script.now r.steps

-- one run at two of its moments: over the same machine and script, under the same limit
abbrev pub IsSameRun : (m : ℕ) → Run m → Run m → Type 0
IsSameRun m old new =
    (new.machine.ghost_name ≡ old.machine.ghost_name) × (new.script.ghost_name ≡ old.script.ghost_name)
    × (new.limit ≡ old.limit)

-- a run that may take a turn
pub record IsReady (m : ℕ) (r : Run m) : Type 0 where
  pub within : r.steps ≤ r.limit
  pub sound : is_faulted r.machine.now.mode ≡ false
  pub lines : All (IsLine (size m)) (lines_left r.script.now)

-- a moment of a run: a run state, and what the host has seen
pub record Moment (m : ℕ) : Type 0 where
  pub at : RunState m
  pub seen : Seen

abbrev pub moment_at : (m : ℕ) → RunState m → Seen → Moment m
moment_at m x seen = record { at = x; seen = seen }

abbrev pub moment : (m : ℕ) → Machine m → Script → ℕ → Seen → Moment m
moment m machine script steps seen = moment_at m (run_state m machine script steps) seen

-- a run state is at this place; the place has the cards, keyboard lines and sectors that the host reveals, if it reveals them
pub record StandsAt (m : ℕ) (x : RunState m) (w : World) (p : run.RunPlace) : Type 0 where
  pub state : Shows m x.machine w p.state
  pub steps : p.steps ≡ x.steps
  pub script : p.script ≡ lines_left x.script

-- the place of a run state while the machine shows this state
abbrev pub place_with : (m : ℕ) → RunState m → State → run.RunPlace
place_with m x s = record { state = s; steps = x.steps; script = lines_left x.script }

-- the place of a run state, if the host reveals it
abbrev pub place_of : (m : ℕ) → RunState m → World → Option run.RunPlace
place_of m x w = option_map (place_with m x) (state_of m x.machine w)

-- the place of a moment, if the host reveals it
abbrev pub place_in : (m : ℕ) → Moment m → Option run.RunPlace
place_in m x = place_of m x.at x.seen.world

-- if the run can go on in the mode, the front line is not due
abbrev pub NoneIsDue : (m : ℕ) → RunState m → Type 0
NoneIsDue m x =
    run.can_go x.machine.mode ≡ true → run.due_action x.machine.mode x.steps (lines_left x.script) ≡ None

-- a turn led from one place to the next
pub record Moves (m limit : ℕ) (leads : run.RunPlace → run.Turning) (old new : Moment m) : Type 0 where
  pub from : run.RunPlace
  pub stands : StandsAt m old.at old.seen.world from
  pub to : run.RunPlace
  pub turned : run.turn limit from ≡ leads to
  pub there : StandsAt m new.at new.seen.world to
  pub sound : is_faulted new.at.machine.mode ≡ false
  pub frames : Frames m old.at.machine new.at.machine old.seen new.seen

-- a turn ended the run, and nothing changed; Limit comes only with the count at the limit, and no front line is due
pub record Rests (m limit : ℕ) (old new : Moment m) (how : Ending) : Type 0 where
  pub from : run.RunPlace
  pub stands : StandsAt m old.at old.seen.world from
  pub turned : run.turn limit from ≡ run.Ended how
  pub at_limit : how ≡ ending.Limit → old.at.steps ≡ limit
  pub none_due : NoneIsDue m old.at
  pub same : new.at ≡ old.at
  pub outside : new.seen ≡ old.seen

-- the host failed within a turn, and the machine is left Faulted
pub record BreaksTurn (m limit : ℕ) (old new : Moment m) : Type 0 where
  pub from : run.RunPlace
  pub stands : StandsAt m old.at old.seen.world from
  pub to : run.RunPlace
  pub is_cut : run.IsCutTurn limit from to
  pub there : StandsAt m new.at new.seen.world to
  pub faulted : is_faulted new.at.machine.mode ≡ true
  pub within : new.at.steps ≤ limit
  pub frames : Frames m old.at.machine new.at.machine old.seen new.seen
  pub rose : Rose old.seen.faults new.seen.faults

-- what `turn` does
abbrev pub Turns : (m limit : ℕ) → Moment m → Moment m → TurnEnd → Type 0
Turns m limit old new end.Acted = Moves m limit run.Acted old new
Turns m limit old new end.Stepped = Moves m limit run.Stepped old new
Turns m limit old new (end.Ended ending.Failed) = BreaksTurn m limit old new
Turns m limit old new (end.Ended how) = Rests m limit old new how

-- if the turn was a step, the machine made a step, whatever the host reveals
abbrev pub StepsBy : (m : ℕ) → TurnEnd → Machine m → Machine m → Seen → Seen → Type 0
StepsBy m end.Acted old new before after = ⊤
StepsBy m end.Stepped old new before after = Makes m step old new before after
StepsBy m (end.Ended how) old new before after = ⊤

-- a moment is at the last place of the run from this first place on, and the run has this ending
abbrev pub StandsLast : (m limit : ℕ) → Moment m → Ending → run.RunPlace → Type 0
StandsLast m limit x how first =
    (n : ℕ) × (p : run.RunPlace) × (place_in m x ≡ Some p) × run.IsLast limit first n p how

-- a run that came to its end: if the host reveals the first place, it is at its last place; in any case its mode and its count
-- end it, and no front line is due
pub record RunsOut (m limit : ℕ) (old new : Moment m) (how : Ending) : Type 0 where
  pub last : IfSome (place_in m old) (StandsLast m limit new how)
  pub at_limit : how ≡ ending.Limit → new.at.steps ≡ limit
  pub ending : how ≡ run.ending_at new.at.machine.mode new.at.machine.regs.ir
  pub none_due : NoneIsDue m new.at
  pub within : new.at.steps ≤ limit
  pub frames : Frames m old.at.machine new.at.machine old.seen new.seen

-- a moment is on the way of the run from this first place on
abbrev pub StandsOnTheWay : (m limit : ℕ) → Moment m → run.RunPlace → Type 0
StandsOnTheWay m limit x first = (q : run.RunPlace) × (place_in m x ≡ Some q) × run.IsOnTheWay limit first q

-- a run in which the host failed: if the host reveals the first place, it is at a place on its way; in any case the machine is
-- left Faulted
pub record BreaksOff (m limit : ℕ) (old new : Moment m) : Type 0 where
  pub on_the_way : IfSome (place_in m old) (StandsOnTheWay m limit new)
  pub faulted : is_faulted new.at.machine.mode ≡ true
  pub within : new.at.steps ≤ limit
  pub rose : Rose old.seen.faults new.seen.faults
  pub frames : Frames m old.at.machine new.at.machine old.seen new.seen

-- what `run` does
abbrev pub Runs : (m limit : ℕ) → Moment m → Moment m → Ending → Type 0
Runs m limit old new ending.Failed = BreaksOff m limit old new
Runs m limit old new how = RunsOut m limit old new how

-- a run that is under way
pub record Underway (m limit : ℕ) (first : RunState m) (start : Seen) (now : RunState m) (seen : Seen) : Type 0 where
  pub reached : IfSome (place_of m first start.world) (λ p. (n : ℕ) × (run.place_after limit n p ≡ place_of m now seen.world))
  pub within : now.steps ≤ limit
  pub sound : is_faulted now.machine.mode ≡ false
  pub lines : All (IsLine (size m)) (lines_left now.script)
  pub frames : Frames m first.machine now.machine start seen

-- the turns that are left
abbrev pub turns_left : ℕ → (m : ℕ) → RunState m → ℕ
turns_left limit m x = (limit - x.steps) + length (lines_left x.script)

-- turns led any run under way from one run state to another, and no more turns are left than before
abbrev pub GoesOn : (m limit : ℕ) → RunState m → Seen → RunState m → Seen → Type 0
GoesOn m limit old before new after =
    (first : RunState m) (start : Seen) → Underway m limit first start old before
    → Underway m limit first start new after × (turns_left limit m new ≤ turns_left limit m old)

-- the host failed in any run that was under way at the old run state
abbrev pub BreaksFrom : (m limit : ℕ) → RunState m → Seen → RunState m → Seen → Type 0
BreaksFrom m limit old before new after =
    (first : RunState m) (start : Seen) → Underway m limit first start old before
    → BreaksOff m limit (moment_at m first start) (moment_at m new after)

-- up to a count no line is due while the machine runs
abbrev pub IsQuiet : ℕ → List ScriptLine → Type 0
IsQuiet count lines = (n : ℕ) → n < count → run.due_action mode.Running n lines ≡ None

-- how a turn ended, by how its step ended
abbrev pub end_of_step : StepEnd → TurnEnd
end_of_step stepped.RunsOn = end.Stepped
end_of_step stepped.Rests = end.Stepped
end_of_step stepped.Failed = end.Ended ending.Failed

-- whether a step comes next, from each place with this mode, this count and these lines
abbrev pub IsStepNext : ℕ → Mode → ℕ → List ScriptLine → Bool → Type 0
IsStepNext limit mode steps lines answer =
    (p : run.RunPlace) → p.state.mode ≡ mode → p.steps ≡ steps → p.script ≡ lines
    → run.is_step (run.turn limit p) ≡ answer

-- What the parts of a turn do.

-- the host failed in the operator's Load key
pub record BreaksLoad (m : ℕ) (what : Action) (old new : Machine m) (before after : Seen) : Type 0 where
  pub is : what ≡ action.Load
  pub breaks : StopsShort m load_cut old new before after

-- the operator acted, or the host failed in the Load key
abbrev pub ActsAsOperator : (m : ℕ) → Action → Machine m → Machine m → Seen → Seen → TurnEnd → Type 0
ActsAsOperator m what old new before after end.Acted =
    Makes m (run.state_after_action what) old new before after × (is_faulted new.mode ≡ false)
ActsAsOperator m what old new before after end.Stepped = ⊥
ActsAsOperator m what old new before after (end.Ended ending.Failed) = BreaksLoad m what old new before after
ActsAsOperator m what old new before after (end.Ended how) = ⊥
