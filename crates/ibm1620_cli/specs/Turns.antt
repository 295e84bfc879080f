-- The turns of a machine that has been set up, and the job that they make.
use Rattle.std.specs.Prelude.{ℕ, Bool, true, false, List, ◌++◌, Option, Some, option_map, option_and_then}
use Rattle.outside_io.specs.declared.host.Unit.TheVariants as units
use Rattle.outside_io.specs.World.{World}
use Rattle.outside_io.specs.Events.{Event}
use Rattle.card_code.specs.Entries.{Entry, entries_of_unit}
use Rattle.cpu_step.specs.State.{UnitTexts, State}
use Rattle.cpu_step.specs.Load.{state_at_power_on}
use Rattle.cpu_step.specs.Machine.{machine_texts}
use Rattle.operator_script.specs.declared.script.ScriptLine.{ScriptLine}
use Rattle.operator_script.specs.declared.turns.Ending.{Ending}
use Rattle.operator_script.specs.declared.turns.Ending.TheVariants as ending
use Rattle.operator_script.specs.Turn.{RunPlace, last_place, ending_of}
use Rattle.operator_script.specs.TurnEvents.{run_events}
use Rattle.ibm1620_cli.specs.declared.status.Status.{Status}
use Rattle.ibm1620_cli.specs.declared.status.Status.TheVariants.{Halted, CheckStop, Limit, NeedCards, NeedKeys, HostFault, Jam}
use Rattle.ibm1620_cli.specs.Report.{report_line}
use Rattle.ibm1620_cli.specs.Ways.{ByRun}
use Rattle.ibm1620_cli.specs.Promise.{Job, job_leaving, texts_alone, Promise}

-- the machine's feed next to the cards of a deck: the data cards, the keyboard, and the sectors of the pack
pub record MachineFeed : Type 0 where
  pub cards : List ℕ
  pub keys : List ℕ
  pub sectors : ℕ → List ℕ

-- the feed, if the host reveals all of it
abbrev pub feed_of : Option (List ℕ) → Option (List ℕ) → Option (ℕ → List ℕ) → Option MachineFeed
feed_of cards keys sectors =
    option_and_then
    (λ c. option_and_then (λ k. option_map (λ s. record { cards = c; keys = k; sectors = s }) sectors) keys)
    cards

abbrev pub feed_at : World → Option MachineFeed
feed_at w = feed_of (w.left units.Data) (w.left units.Keys) w.sectors

-- the lines of its keyboard
abbrev pub lines_of_feed : MachineFeed → List Entry
lines_of_feed feed = entries_of_unit units.Keys 0 feed.keys

-- a machine with m modules of core at power on, with these cards in its hopper, over these texts that it punched and typed
abbrev pub state_over_feed : ℕ → UnitTexts → List Entry → MachineFeed → State
state_over_feed m written hopper feed =
    state_at_power_on m hopper (lines_of_feed feed) written feed.sectors

-- the first place of the turns in a state: no step is counted yet
abbrev pub first_in : State → List ScriptLine → RunPlace
first_in s lines = record { state = s; steps = 0; script = lines }

-- the status of a run with this ending after this many steps; only a fault of the host gives the last one
abbrev pub status_of : ℕ → Ending → Status
status_of steps (ending.Halted at) = Halted at steps
status_of steps (ending.Stopped kind at) = CheckStop kind at steps
status_of steps ending.Limit = Limit steps
status_of steps (ending.NeedCards at) = NeedCards at steps
status_of steps (ending.NeedKeys at) = NeedKeys at steps
status_of steps (ending.Jam u line) = Jam u line
status_of steps ending.Failed = HostFault

-- THE SIX ENDINGS of a run of its own
abbrev pub ends_a_run : Status → Bool
ends_a_run (Halted at steps) = true
ends_a_run (CheckStop kind at steps) = true
ends_a_run (Limit steps) = true
ends_a_run (NeedCards at steps) = true
ends_a_run (NeedKeys at steps) = true
ends_a_run (Jam u line) = true
ends_a_run other = false

-- a machine that has been set up, given the texts that were punched and typed by then
abbrev pub SetUp : Type 0
SetUp = UnitTexts → State

-- its state over the texts of a world
abbrev pub state_over : World → SetUp → State
state_over w s = s (machine_texts w)

-- the first place of the turns of a machine that is set up over the texts of a world
abbrev pub first_over : World → SetUp → List ScriptLine → RunPlace
first_over w s lines = first_in (state_over w s) lines

-- a machine that was loaded: its state at power on; the steps of its deck before its turns begin; the entries of its reader's
-- pile, all its cards and the lines of its keyboard at power on; the events of loading, which takes cards alone; and the first
-- place of its turns
pub record LoadedMachine : Type 0 where
  pub powered : State
  pub steps : ℕ
  pub pile : List Entry
  pub cards : List Entry
  pub keys : List Entry
  pub taken : List Event
  pub first : RunPlace

-- the job of the turns of a machine that was loaded, after all that was done before, with these cards in its reader's pile: it
-- ends in the state of the last place
abbrev pub turns_job : Option (List (List ℕ)) → List Event → ℕ → LoadedMachine → Job
turns_job own before limit loaded =
    let last = last_place limit loaded.first in
    let status = status_of last.steps (ending_of last.state) in
    job_leaving (Some (record { state = last.state; own = own; pile = loaded.pile; cards = loaded.cards; keys = loaded.keys }))
    (Some (ByRun loaded.powered loaded.steps limit loaded.first)) status (report_line status)
    (before ++ (loaded.taken ++ run_events limit loaded.first))

-- THE PROMISE OF THE TURNS of a machine that is loaded from the revealed input, after all that was done before; a run ends in one
-- of the six ways, whatever the host reveals; if no memory was found, only a first part of the earlier events is done
abbrev pub turns_promise : {A : Type 0} → Option (List (List ℕ)) → List Event → ℕ → (A → LoadedMachine) → Option A → Promise
turns_promise own before limit loaded told = record {
  job = option_map (λ a. turns_job own before limit (loaded a)) told;
  outline = Some (record { ends = ends_a_run; before = before });
  made = texts_alone (Some before);
  usage = false;
}
