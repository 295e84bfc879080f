-- The job debug: the script, the commands and the source are read, the source is assembled, its texts are written, the Load key is
-- pressed over its deck, and the session begins there.
use Rattle.std.specs.Prelude.{ℕ, List, map, Some, Result, Ok, Err}
use Rattle.outside_io.specs.declared.host.Unit.TheVariants as units
use Rattle.outside_io.specs.World.{World, Seen}
use Rattle.digit_core.specs.Size.{size}
use Rattle.card_code.specs.Entries.{Text}
use Rattle.cpu_step.specs.Load.{load_key}
use Rattle.cpu_step.specs.Outside.{load_events}
use Rattle.operator_script.specs.declared.script.Script.{Script}
use Rattle.operator_script.specs.declared.script.ScriptLine.{ScriptLine}
use Rattle.operator_script.specs.Scripts.{lines_left}
use Rattle.console_debug.specs.declared.commands.DebugCommand.{DebugCommand}
use Rattle.console_debug.specs.declared.commands.Commands.{Commands}
use Rattle.console_debug.specs.CommandLists.{command_list}
use Rattle.console_debug.specs.Grammar.{commands_of}
use Rattle.command_line.specs.declared.reading.Settings.{Settings}
use Rattle.ibm1620_cli.specs.declared.status.Status.{Status}
use Rattle.ibm1620_cli.specs.declared.status.Status.TheVariants.{BadCommand}
use Rattle.ibm1620_cli.specs.declared.answer.Answer.{Answer}
use Rattle.ibm1620_cli.specs.Promise.{Promise, KeepsPromise, KeepsJob, read_promise}
use Rattle.ibm1620_cli.specs.Reading.{read_within}
use Rattle.ibm1620_cli.specs.Turns.{MachineFeed, feed_at, lines_of_feed, SetUp, state_over, first_over, LoadedMachine}
use Rattle.ibm1620_cli.specs.Sessions.{Debugging, session_promise}
use Rattle.ibm1620_cli.specs.Program.{Program, deck_of, cards_before, set_up_at_power_on}
use Rattle.ibm1620_cli.specs.Source.{assembled_source, program_of, made_of, made_events, events_at, running_promise, source_promise}
use Rattle.ibm1620_cli.specs.LoadJob.{script_read}

-- how many bytes commands have at most
abbrev pub longest_commands : ℕ
longest_commands = 1000000

-- the commands that were read, or the status of a job whose commands have a bad line
abbrev pub commands_or_status : Result (List DebugCommand) ℕ → Result (List DebugCommand) Status
commands_or_status (Ok commands) = Ok commands
commands_or_status (Err line) = Err (BadCommand line)

-- the commands by their bytes, or the status of a job whose commands are too long or have a bad line
unfoldable pub commands_read : ℕ → List ℕ → Result (List DebugCommand) Status
commands_read m text =
    read_within longest_commands units.Commands (λ t. commands_or_status (commands_of (size m) t)) text

-- the Load key was pressed at power on over a program's deck
abbrev pub keyed_program : Program → MachineFeed → SetUp
keyed_program p feed written = load_key (set_up_at_power_on p feed written)

-- the machine that is loaded so, over the texts of a world: the session begins at the deck's first card
abbrev pub keyed_over : Program → World → List ScriptLine → MachineFeed → LoadedMachine
keyed_over p w lines feed = record {
  powered = state_over w (set_up_at_power_on p feed);
  steps = 0;
  pile = map Text (deck_of p);
  cards = cards_before (deck_of p) feed;
  keys = lines_of_feed feed;
  taken = load_events (state_over w (set_up_at_power_on p feed));
  first = first_over w (keyed_program p feed) lines;
}

-- the inputs of the session over a source
abbrev pub debugging_of : ℕ → Settings → List ScriptLine → List DebugCommand → List ℕ → Debugging
debugging_of m settings lines commands source = record {
  limit = settings.limit;
  lines = lines;
  placed = (assembled_source m source).placed;
  commands = commands;
}

-- the promise for a source that breaks no rule: its texts are written, and then the session is held
abbrev pub debugged_promise : ℕ → Settings → List ScriptLine → List DebugCommand → List ℕ → World → Promise
debugged_promise m settings lines commands source w =
    let written = made_events (made_of m settings.form source) in
    let given = debugging_of m settings lines commands source in
    let p = program_of m settings.form source in
    session_promise (Some (deck_of p)) written given (keyed_over p w lines) (feed_at w)

-- the promise once the commands are read
abbrev pub commands_promise : ℕ → Settings → List ScriptLine → List DebugCommand → World → Promise
commands_promise m settings lines commands =
    source_promise m (events_at m settings.form) (running_promise m (debugged_promise m settings lines commands))

-- the promise once the script is read
abbrev pub lines_promise : ℕ → Settings → List ScriptLine → World → Promise
lines_promise m settings lines =
    read_promise units.Commands (commands_read m) (events_at m settings.form) (commands_promise m settings lines)

-- THE PROMISE OF A SESSION'S JOB, from the world in which its files are bound
abbrev pub debug_promise : ℕ → Settings → World → Promise
debug_promise m settings =
    read_promise units.Script (script_read m) (events_at m settings.form) (lines_promise m settings)

-- What the functions of this job answer.

abbrev pub DebugsAssembled : ℕ → Settings → Script → Commands → List ℕ → Seen → Seen → Answer → Type 0
DebugsAssembled m settings script commands source old new answer =
    let promise = debugged_promise m settings (lines_left script) (command_list commands) source old.world in
    KeepsPromise promise old new answer

abbrev pub DebugsBy : ℕ → Settings → Script → Commands → Seen → Seen → Answer → Type 0
DebugsBy m settings script commands old new answer =
    KeepsJob (commands_promise m settings (lines_left script) (command_list commands)) old new answer

abbrev pub DebugsUnder : ℕ → Settings → Script → Seen → Seen → Answer → Type 0
DebugsUnder m settings script old new answer =
    KeepsJob (lines_promise m settings (lines_left script)) old new answer

abbrev pub DebugsSource : ℕ → Settings → Seen → Seen → Answer → Type 0
DebugsSource m settings old new answer = KeepsJob (debug_promise m settings) old new answer
