-- When the next turn is a step.
use Rattle.std.proofs.Common.{◌≡◌, ◌⊎◌, inl, inr, ℕ, Bool, true, false, ◌&&◌, not, ◌==◌, List, refl, ◌∙◌, ap}
use Rattle.std.specs.Prelude.{Option, Some, None, is_some, is_none}
use Rattle.cpu_step.specs.declared.machine.Mode.{Mode}
use Rattle.cpu_step.specs.declared.machine.Mode.TheVariants as mode
use Rattle.cpu_step.specs.Machine.{is_running}
use Rattle.operator_script.specs.declared.script.Action.{Action}
use Rattle.operator_script.specs.declared.script.ScriptLine.{ScriptLine}
use Rattle.operator_script.specs.Turn.{RunPlace, turn, can_go, is_step, due_action}
use Rattle.operator_script.specs.Run.{IsStepNext}
use Rattle.operator_script.proofs.Turning.{turning_by, turn_is, counts_same, counts_differ}

-- a Boolean that is turned twice
pub twice : (b : Bool) → b ≡ not (not b)
twice true = refl
twice false = refl

pub running_goes : (m : Mode) → is_running m ≡ true → can_go m ≡ true
running_goes mode.Running running = refl
running_goes (mode.Halted at) running = refl
running_goes (mode.Stopped kind at) running = cc
running_goes mode.Empty running = cc
running_goes mode.NoKeys running = cc
running_goes (mode.Jam u n) running = cc
running_goes mode.Faulted running = cc

module _ (limit : ℕ) (p : RunPlace) where
  -- a mode that runs can go
  next_by : (goes : Bool) (due : Option Action) (running full : Bool) → (running ≡ true → goes ≡ true) → is_step (turning_by p goes due running full) ≡ (running && (not full && is_none due))
  next_by false due false full go = refl
  next_by false due true full go = let none = go refl in cc
  next_by true (Some a) false full go = refl
  next_by true (Some a) true false go = refl
  next_by true (Some a) true true go = refl
  next_by true None false full go = refl
  next_by true None true false go = refl
  next_by true None true true go = refl

  step_next : is_step (turn limit p) ≡ (is_running p.state.mode && (not (p.steps == limit) && is_none (due_action p.state.mode p.steps p.script)))
  step_next =
      ap is_step (turn_is limit p)
      ∙ next_by (can_go p.state.mode) (due_action p.state.mode p.steps p.script) (is_running p.state.mode) (p.steps == limit) (running_goes p.state.mode)

next_is : (limit : ℕ) (m : Mode) (steps : ℕ) (lines : List ScriptLine) → IsStepNext limit m steps lines (is_running m && (not (steps == limit) && is_none (due_action m steps lines)))
next_is limit m steps lines p mode_is steps_is lines_is = step_next limit p ∙ rw (mode_is, steps_is, lines_is) refl

never : (b : Bool) → (b && false) ≡ false
never true = refl
never false = refl

none_due : (due : Option Action) (answer : Bool) → is_some due ≡ not answer → is_none due ≡ answer
none_due None true is = refl
none_due (Some a) false is = refl
none_due None false is = cc
none_due (Some a) true is = cc

module _ (limit : ℕ) (m : Mode) (steps : ℕ) (lines : List ScriptLine) where
  -- a machine that runs below the limit makes a step unless a line is due
  pub unless_due : (due : Option Action) (answer : Bool) → is_running m ≡ true → (steps ≡ limit → ⊥) → due ≡ due_action m steps lines → is_some due ≡ not answer → IsStepNext limit m steps lines answer
  unless_due due answer running below is none =
      let next : IsStepNext limit m steps lines (is_running m && (not (steps == limit) && is_none (due_action m steps lines))) = next_is limit m steps lines in
      rw (running, counts_differ steps limit below, ← is, none_due due answer none) at next

  -- any other makes none
  pub unless_over : (answer : Bool) → answer ≡ false → (is_running m ≡ false) ⊎ (steps ≡ limit) → IsStepNext limit m steps lines answer
  unless_over answer none (inl still) =
      let next : IsStepNext limit m steps lines (is_running m && (not (steps == limit) && is_none (due_action m steps lines))) = next_is limit m steps lines in
      rw none (rw still at next)
  unless_over answer none (inr full) = rw none (λ p mode_is steps_is lines_is. next_is limit m steps lines p mode_is steps_is lines_is ∙ (rw (counts_same steps limit full) (never (is_running m))))
