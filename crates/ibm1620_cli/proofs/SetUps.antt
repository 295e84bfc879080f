-- A machine that has made a deck's steps, and where its turns begin.
use Rattle.std.specs.Prelude.{ℕ, List, [], ◌++◌}
use Rattle.outside_io.specs.World.{World}
use Rattle.card_code.specs.Entries.{Entry}
use Rattle.cpu_step.specs.Load.{load_key}
use Rattle.cpu_step.specs.Outside.{load_events}
use Rattle.operator_script.specs.declared.script.ScriptLine.{ScriptLine}
use Rattle.operator_script.specs.Turn.{last_place}
use Rattle.operator_script.specs.TurnEvents.{run_events}
use Rattle.ibm1620_cli.specs.Turns.{MachineFeed, lines_of_feed, SetUp, state_over_feed, state_over, first_in, first_over, LoadedMachine}

-- a machine with so many modules of core at power on, whose hopper has these cards, whose Load key was pressed, and which then made so many
-- steps without a script, or fewer where its run ended before
unfoldable pub set_up_after_steps : ℕ → ℕ → List Entry → MachineFeed → SetUp
set_up_after_steps m steps cards feed written =
    (last_place steps (first_in (load_key (state_over_feed m written cards feed)) [])).state

-- so it is loaded, over the texts of a world, the first of its cards being those of its reader's pile: the Load key does what it does outside,
-- then the steps do, and the turns begin behind them
abbrev pub machine_after_steps : ℕ → ℕ → World → List ScriptLine → List Entry → List Entry → MachineFeed → LoadedMachine
machine_after_steps m steps w lines pile cards feed =
    let powered = state_over w (λ written. state_over_feed m written cards feed) in
    record {
      powered = powered;
      steps = steps;
      pile = pile;
      cards = cards;
      keys = lines_of_feed feed;
      taken = load_events powered ++ run_events steps (first_in (load_key powered) []);
      first = first_over w (set_up_after_steps m steps cards feed) lines;
    }
