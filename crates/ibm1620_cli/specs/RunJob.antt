-- The job run: the script and the source are read, the source is assembled, its texts are written, the deck is loaded, and the turns begin
-- at the program's first instruction.
use Rattle.std.specs.Prelude.{ℕ, List}
use Rattle.outside_io.specs.declared.host.Unit.TheVariants as units
use Rattle.outside_io.specs.World.{World, Seen}
use Rattle.operator_script.specs.declared.script.Script.{Script}
use Rattle.operator_script.specs.declared.script.ScriptLine.{ScriptLine}
use Rattle.operator_script.specs.Scripts.{lines_left}
use Rattle.command_line.specs.declared.reading.Settings.{Settings}
use Rattle.ibm1620_cli.specs.declared.answer.Answer.{Answer}
use Rattle.ibm1620_cli.specs.Promise.{Promise, KeepsPromise, KeepsJob, read_promise}
use Rattle.ibm1620_cli.specs.Program.{program_promise}
use Rattle.ibm1620_cli.specs.Source.{program_of, made_of, made_events, events_at, running_promise, source_promise}
use Rattle.ibm1620_cli.specs.LoadJob.{script_read}

-- the promise for a source that breaks no rule: its texts are written, and then the turns are taken
abbrev pub turned_promise : ℕ → Settings → List ScriptLine → List ℕ → World → Promise
turned_promise m settings lines source w =
    program_promise (made_events (made_of m settings.form source)) settings.limit lines (program_of m settings.form source) w

-- the promise once the script is read
abbrev pub script_promise : ℕ → Settings → List ScriptLine → World → Promise
script_promise m settings lines =
    source_promise m (events_at m settings.form) (running_promise m (turned_promise m settings lines))

-- THE PROMISE OF A RUN, from the world in which its files are bound
abbrev pub run_promise : ℕ → Settings → World → Promise
run_promise m settings =
    read_promise units.Script (script_read m) (events_at m settings.form) (script_promise m settings)

-- What the functions of this job answer.

abbrev pub TurnedPromise : ℕ → Settings → Script → List ℕ → Seen → Seen → Answer → Type 0
TurnedPromise m settings script source old new answer =
    KeepsPromise (turned_promise m settings (lines_left script) source old.world) old new answer

abbrev pub ScriptPromise : ℕ → Settings → Script → Seen → Seen → Answer → Type 0
ScriptPromise m settings script old new answer = KeepsJob (script_promise m settings (lines_left script)) old new answer

abbrev pub RunPromise : ℕ → Settings → Seen → Seen → Answer → Type 0
RunPromise m settings old new answer = KeepsJob (run_promise m settings) old new answer
