-- What holds of the Load key, and of all that changes core, panel and mode alone, holds of every action of the operator.
use Rattle.std.specs.Prelude.{ℕ, List, []}
use Rattle.digit_core.specs.Cell.{core_with_flip}
use Rattle.outside_io.specs.Events.{Event}
use Rattle.indicators.specs.declared.Panel.{Panel}
use Rattle.indicators.specs.Panel.{set, with_checks}
use Rattle.cpu_step.specs.declared.machine.Mode.{Mode}
use Rattle.cpu_step.specs.State.{State}
use Rattle.cpu_step.specs.Load.{load_key}
use Rattle.cpu_step.specs.Outside.{load_events}
use Rattle.operator_script.specs.declared.script.Action.{Action}
use Rattle.operator_script.specs.declared.script.Action.TheVariants as action
use Rattle.operator_script.specs.Turn.{state_after_action, mode_at_start}
use Rattle.operator_script.specs.TurnEvents.{action_events}

-- what the operator's keys and switches may change without the Load key
pub record Inside : Type 0 where
  pub core : List ℕ
  pub panel : Panel
  pub mode : Mode

abbrev pub inside : State → Inside
inside s = record { core = s.core; panel = s.panel; mode = s.mode }

abbrev pub with_inside : Inside → State → State
with_inside i s = record s { core = i.core; panel = i.panel; mode = i.mode }

-- all else stays, and nothing is done outside
abbrev pub changed_inside : (Inside → Inside) → State → State
changed_inside change s = with_inside (change (inside s)) s

pub of_action : (Holds : (State → State) → (State → List Event) → Type 0) → Holds load_key load_events
    → ((change : Inside → Inside) → Holds (changed_inside change) (λ s. [])) → (a : Action) → Holds (state_after_action a) (action_events a)
unfolding state_after_action
of_action Holds load within action.Start = within (λ i. record i { mode = mode_at_start i.mode })
of_action Holds load within action.Load = load
of_action Holds load within (action.Switch k on) = within (λ i. record i { panel = set k on i.panel })
of_action Holds load within (action.Overflow stops) = within (λ i. record i { panel = with_checks stops i.panel.in_out_stops i.panel })
of_action Holds load within (action.InOut stops) = within (λ i. record i { panel = with_checks i.panel.overflow_stops stops i.panel })
of_action Holds load within (action.Flip at bit) = within (λ i. record i { core = core_with_flip i.core at bit })
