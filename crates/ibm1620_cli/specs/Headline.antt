-- THE HEADLINE, in one place: what a run of a source that breaks no rule does.
use Rattle.std.specs.Prelude.{ℕ, ◌≡◌, ◌≢◌, ◌≤◌, true, List, [], ◌∷◌, length, Some, None, IfSome, Ok, if◌then◌else◌}
use Rattle.outside_io.specs.declared.host.Unit as unit
use Rattle.outside_io.specs.declared.host.Unit.TheVariants as units
use Rattle.outside_io.specs.World.{World, Seen, same_unit, all_units}
use Rattle.outside_io.specs.Events.{Event, WriteByte}
use Rattle.digit_core.specs.Size.{size}
use Rattle.operator_script.specs.declared.script.ScriptLine.{ScriptLine}
use Rattle.operator_script.specs.Script.{script_of}
use Rattle.sps_pass_two.specs.Broken.{refusal_of}
use Rattle.ibm1620_cli.specs.declared.answer.Answer.{Answer}
use Rattle.ibm1620_cli.specs.declared.status.Status.TheVariants.{HostFault, OutOfMemory}
use Rattle.command_line.specs.declared.words.Command.TheVariants.{Run}
use Rattle.command_line.specs.Words.{WordsSaid, plain}
use Rattle.ibm1620_cli.specs.Job.{modules_of, bind_events}
use Rattle.ibm1620_cli.specs.Binding.{all_bound}
use Rattle.ibm1620_cli.specs.Promise.{Job, job_behind, job_with_program, EndsWithAnswer}
use Rattle.ibm1620_cli.specs.Turns.{MachineFeed, feed_at, state_over, first_over, turns_job, ends_a_run}
use Rattle.ibm1620_cli.specs.Program.{Program, deck_of, loaded_by, LoadsItself, set_up_at_power_on, set_up_after_load, set_up_at_start}
use Rattle.ibm1620_cli.specs.LoadJob.{longest_script}
use Rattle.ibm1620_cli.specs.Source.{program_of, texts_of_program, made_of, made_events, longest_source}

-- the bytes that some events write on a unit
abbrev pub bytes_in : unit.Unit → List Event → List ℕ
bytes_in u [] = []
bytes_in u (WriteByte v byte ∷ ds) = if same_unit v u then byte ∷ bytes_in u ds else bytes_in u ds
bytes_in u (d ∷ ds) = bytes_in u ds

-- A sound run: the words say `run`; its script and its source are no longer than they may be; the script keeps its grammar, and
-- no statement of the source breaks a rule. The host reveals their bytes, and the machine's feed.
pub record SoundRun (words : List (List ℕ)) (w : World) : Type 0 where
  pub said : WordsSaid
  pub said_is : plain words ≡ Some said
  pub command : said.command ≡ Run
  pub script : List ℕ
  pub script_is : (all_bound said.names w).left units.Script ≡ Some script
  pub script_fits : length script ≤ longest_script
  pub lines : List ScriptLine
  pub lines_are : script_of (size (modules_of said.core)) script ≡ Ok lines
  pub source : List ℕ
  pub source_is : (all_bound said.names w).left units.Source ≡ Some source
  pub source_fits : length source ≤ longest_source
  pub unbroken : refusal_of (size (modules_of said.core)) source ≡ None
  pub feed : MachineFeed
  pub feed_is : feed_at (all_bound said.names w) ≡ Some feed

-- the program of a sound run, whose deck has the form that the words say
abbrev pub program_in : {words : List (List ℕ)} {w : World} → SoundRun words w → Program
program_in r = program_of (modules_of r.said.core) r.said.settings.form r.source

-- the job of a sound run: its files are bound, its texts are written, the cards of its deck are taken, and then come the turns,
-- as the instruction table gives them, from the program's own machine on; the job's program is the program of its source
abbrev pub job_in : {words : List (List ℕ)} {w : World} → SoundRun words w → Job
job_in {w = w} r =
    let made = made_events (made_of (modules_of r.said.core) r.said.settings.form r.source) in
    let powered = state_over (all_bound r.said.names w) (set_up_at_power_on (program_in r) r.feed) in
    let first = first_over (all_bound r.said.names w) (set_up_at_start (program_in r) r.feed) r.lines in
    job_behind (bind_events all_units r.said.names)
    (job_with_program (texts_of_program (modules_of r.said.core) r.source)
    (turns_job (Some (deck_of (program_in r))) made r.said.settings.limit (loaded_by (program_in r) r.feed powered first)))

-- What the program of a sound run does, under its script and up to its limit:
--   loads: over any core, the Load key over its deck and the deck's steps leave the image over both standard tables, and enter
--     the start; outside they take the deck's cards, and do nothing else;
--   enters: this set-up equals the program's own machine, with the data cards in its hopper;
--   does: the turns from there on give the status, and all of their job was done, event by event; the machine of the last place
--     gives the rest of Data and Keys, the console, and the statement at its IR;
--   texts: each text that the host reveals has the very bytes that the job writes on its unit;
--   ending: the status is one of the six with which a run ends.
pub record DoesProgram {words : List (List ℕ)} (old : Seen) (r : SoundRun words old.world) (new : Seen) (answer : Answer)
    : Type 0 where
  pub loads : LoadsItself (program_in r)
  pub enters : set_up_after_load (program_in r) r.feed ≡ set_up_at_start (program_in r) r.feed
  pub does : EndsWithAnswer (job_in r) old new answer
  pub texts : (u : unit.Unit) → IfSome (new.world.written u) (λ text. text ≡ bytes_in u (job_in r).events)
  pub ending : ends_a_run answer.status ≡ true

-- A sound run whose status is neither `HostFault` nor `OutOfMemory` does the program of its source.
abbrev pub Headline : List (List ℕ) → Seen → Seen → Answer → Type 0
Headline words old new answer =
    (r : SoundRun words old.world) → answer.status ≢ HostFault → answer.status ≢ OutOfMemory
    → DoesProgram old r new answer
