-- What the program does, by its words and by the bytes that the host reveals.
use Rattle.std.specs.Prelude.{◌≡◌, ◌⊎◌, ℕ, List, [], ◌∷◌, ◌++◌, map, Bool, String, string_bytes, Option, Some, None, is_some, true, false, if◌then◌else◌}
use Rattle.std.specs.declared.alloc.Global.{Global}
use Rattle.outside_io.specs.declared.host.Unit as unit
use Rattle.outside_io.specs.declared.host.Unit.TheVariants as units
use Rattle.outside_io.specs.World.{World, Seen, all_units}
use Rattle.outside_io.specs.Events.{Event, BindFile}
use Rattle.ibm1620_cli.specs.declared.status.Status.{Status}
use Rattle.ibm1620_cli.specs.declared.answer.Answer.{Answer}
use Rattle.ibm1620_cli.specs.declared.status.Status.TheVariants.{Usage, OutOfMemory}
use Rattle.command_line.specs.declared.words.Command.{Command}
use Rattle.command_line.specs.declared.words.Command.TheVariants.{Assemble, Load, Run, Debug, Generate, Trial, Disk}
use Rattle.command_line.specs.declared.words.CoreSize.{CoreSize}
use Rattle.command_line.specs.declared.words.CoreSize.TheVariants.{OneModule, TwoModules, ThreeModules}
use Rattle.command_line.specs.declared.reading.Settings.{Settings}
use Rattle.command_line.specs.Words.{Names, WordsSaid, plain, names_of}
use Rattle.ibm1620_cli.specs.Binding.{all_bound, BindsNamed}
use Rattle.ibm1620_cli.specs.Inputs.{EndsOnce, reads_nothing, reads_source, reads_feed, placing_reads, load_reads, run_reads, debug_reads}
use Rattle.ibm1620_cli.specs.Promise.{answer_of, job_with_report, texts_alone, Promise, promise_behind, KeepsPromise, KeepsFrom, KeepsJob}
use Rattle.ibm1620_cli.specs.AssembleJob.{assemble_promise}
use Rattle.ibm1620_cli.specs.LoadJob.{load_promise}
use Rattle.ibm1620_cli.specs.RunJob.{run_promise}
use Rattle.ibm1620_cli.specs.DebugJob.{debug_promise}
use Rattle.ibm1620_cli.specs.GenerateJob.{generate_promise}
use Rattle.ibm1620_cli.specs.TrialJob.{trial_promise}
use Rattle.ibm1620_cli.specs.DiskJob.{disk_promise}

-- how many modules of core the words say
abbrev pub modules_of : CoreSize → ℕ
modules_of OneModule = 1
modules_of TwoModules = 2
modules_of ThreeModules = 3

-- THE TABLE of jobs: the promise of each command for m modules of core, from the world in which its files are bound
abbrev pub job_promise : ℕ → Command → Settings → World → Promise
job_promise m Assemble settings = assemble_promise m settings
job_promise m Load settings = load_promise m settings
job_promise m Run settings = run_promise m settings
job_promise m Debug settings = debug_promise m settings
job_promise m Generate settings = generate_promise settings
job_promise m Trial settings = trial_promise settings
job_promise m Disk settings = disk_promise m

-- THE TABLE of inputs: which of them each command reads, and whether it works with the pack
abbrev pub reads : Command → unit.Unit → Bool
reads Assemble = reads_source
reads Load = load_reads
reads Run = run_reads
reads Debug = debug_reads
reads Generate = reads_nothing
reads Trial = reads_feed
reads Disk = placing_reads

-- a file is bound if there is a name
abbrev pub bind_event : unit.Unit → Option (List ℕ) → List Event
bind_event u None = []
bind_event u (Some name) = BindFile u name ∷ []

-- each of these units is bound to the file that is named for it, one unit after another
abbrev pub bind_events : List unit.Unit → Names → List Event
bind_events [] names = []
bind_events (u ∷ us) names = bind_event u (names u) ++ bind_events us names

-- all files are bound, and then the job of the command is done in the world with these bindings
abbrev pub said_promise : WordsSaid → World → Promise
said_promise said bound =
    promise_behind (bind_events all_units said.names) (job_promise (modules_of said.core) said.command said.settings bound)

-- the promise of words that are not plain: the line that reports them, and nothing else
abbrev pub usage_promise : Promise
usage_promise = record { job = Some (job_with_report Usage []); outline = None; made = texts_alone (Some []); usage = true }

-- the promise of plain words is kept, from the world at the entry
abbrev pub DoesSaid : WordsSaid → Seen → Seen → Answer → Type 0
DoesSaid said old new answer = KeepsFrom (said_promise said) (all_bound said.names old.world) old new answer

-- WHAT THE PROGRAM DOES: it keeps the promise of plain words, or of words that are not plain
abbrev pub DoesWords : Option WordsSaid → Seen → Seen → Answer → Type 0
DoesWords None old new answer = KeepsPromise usage_promise old new answer
DoesWords (Some said) old new answer = DoesSaid said old new answer

-- the bytes of each word of a command line
abbrev pub word_bytes : List (String Global) → List (List ℕ)
word_bytes words = map string_bytes words

-- plain words, and no memory to read them: nothing at all was done
pub record LacksWords (words : List (List ℕ)) (old new : Seen) (status : Status) : Type 0 where
  pub are_plain : is_some (plain words) ≡ true
  pub lacks : status ≡ OutOfMemory
  pub nothing : new ≡ old

-- the program does the job of its words; or the words are plain, and no memory was found to read them
abbrev pub TellsAnswer : List (List ℕ) → Seen → Seen → Answer → Type 0
TellsAnswer words old new answer =
    DoesWords (plain words) old new answer ⊎ (LacksWords words old new answer.status × (answer ≡ answer_of OutOfMemory))

-- the status of an answer that has this property
pub record IsStatusOf (status : Status) (Holds : Answer → Type 0) : Type 0 where
  pub answer : Answer
  pub is : status ≡ answer.status
  pub holds : Holds answer

-- which files it binds to which units
abbrev pub BindsSaid : List (List ℕ) → Seen → Seen → Status → Type 0
BindsSaid words old new answer =
    BindsNamed (names_of (plain words)) old.world new.world answer ⊎ LacksWords words old new answer

-- Each input that the command does not read keeps all its bytes, which are the bytes of its file if a file is bound to it; and it
-- is not asked. The pack also keeps its sectors, if the command does not work with it. At most one reading of an input that no
-- machine works with, as Source, Script and Commands, finds no more.
pub record KeepsFiles (said : WordsSaid) (old new : Seen) : Type 0 where
  pub left : (u : unit.Unit) → reads said.command u ≡ false
      → new.world.left u
      ≡ (if new.world.in_use u then (all_bound said.names old.world).left u else old.world.left u)
  pub sectors : reads said.command units.Pack ≡ false
      → new.world.sectors
      ≡ (if new.world.in_use units.Pack then (all_bound said.names old.world).sectors else old.world.sectors)
  pub asked : (u : unit.Unit) → reads said.command u ≡ false → new.world.asked u ≡ old.world.asked u
  pub once : (u : unit.Unit) → reads_feed u ≡ false → EndsOnce (old.world.asked u) (new.world.asked u)

-- if the words are not plain, the program asks no input at all
abbrev pub KeepsSaid : Option WordsSaid → Seen → Seen → Type 0
KeepsSaid None old new =
    (new.world.left ≡ old.world.left) × (new.world.sectors ≡ old.world.sectors) × (new.world.asked ≡ old.world.asked)
KeepsSaid (Some said) old new = KeepsFiles said old new

-- the units that the job does not work with are left alone
abbrev pub KeepsUnread : List (List ℕ) → Seen → Seen → Type 0
KeepsUnread words old new = KeepsSaid (plain words) old new

-- What the functions for plain words answer.

abbrev pub BindsFiles : WordsSaid → Seen → Seen → Status → Type 0
BindsFiles said old new answer = BindsNamed said.names old.world new.world answer

-- the job once the files are bound, for m modules of core
abbrev pub DoesJobIn : ℕ → WordsSaid → Seen → Seen → Answer → Type 0
DoesJobIn m said old new answer = KeepsJob (job_promise m said.command said.settings) old new answer

abbrev pub DoesJob : WordsSaid → Seen → Seen → Answer → Type 0
DoesJob said old new answer = DoesJobIn (modules_of said.core) said old new answer
