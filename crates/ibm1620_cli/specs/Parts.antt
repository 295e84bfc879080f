-- What the parts of the program do.
use Rattle.std.specs.Prelude.{◌≡◌, ◌≢◌, ◌≤◌, ◌⊎◌, ℕ, Bool, true, false, List, [], length, map, All, Option, Some, None, IfSome, Result, Ok, Err, Vec}
use Rattle.std.specs.declared.alloc.Global.{Global}
use Rattle.outside_io.specs.declared.host.Unit as unit
use Rattle.outside_io.specs.declared.host.Unit.TheVariants as units
use Rattle.outside_io.specs.World.{World, Readings, Seen, Rose, Goes, world_after_put, world_after_take}
use Rattle.outside_io.specs.Events.{Event, after_events, IsFirstPart}
use Rattle.outside_io.specs.declared.whole.Sent.{Sent}
use Rattle.outside_io.specs.declared.whole.Sent.TheVariants as sent
use Rattle.outside_io.specs.Whole.{Stops}
use Rattle.card_unit.specs.declared.hopper.Hopper.{Hopper}
use Rattle.cpu_step.specs.declared.machine.Machine.{Machine}
use Rattle.cpu_step.specs.Load.{load_key, load_cut}
use Rattle.cpu_step.specs.Machine.{IsPowered, Makes, StopsShort}
use Rattle.cpu_step.specs.Console.{shown_on}
use Rattle.operator_script.specs.declared.turns.Ending.{Ending}
use Rattle.operator_script.specs.declared.script.Script.{Script}
use Rattle.operator_script.specs.Run.{moment, RunsOut, BreaksOff, Runs}
use Rattle.operator_script.specs.Scripts.{IsLine, lines_left}
use Rattle.digit_core.specs.Size.{size}
use Rattle.card_code.specs.declared.Card.{Card}
use Rattle.card_columns.specs.Types.{card_bytes}
use Rattle.sps_ops.specs.declared.rule.Rule.{Rule}
use Rattle.sps_pass_two.specs.declared.assembled.Assembled as assembled
use Rattle.sps_pass_two.specs.declared.assembled.AsmFault.TheVariants.{Broken}
use Rattle.sps_pass_two.specs.Assembled.{PlacedText}
use Rattle.sps_pass_two.specs.Assembling.{Assembles, IsAssembled}
use Rattle.sps_listing.specs.Texts.{image_text, refusal_line}
use Rattle.sps_listing.specs.Refused.{refused_text}
use Rattle.sps_listing.specs.Listing.{listing_text, placed_texts}
use Rattle.console_debug.specs.declared.commands.Commands.{Commands}
use Rattle.console_debug.specs.CommandLists.{IsCommand, HasBreakRoom, command_list}
use Rattle.console_debug.specs.Debugs.{task, without_count, EndsSession, BreaksSession}
use Rattle.deck_punch.specs.declared.form.DeckForm.{DeckForm}
use Rattle.loader_cards.specs.ObjectDeck.{fewest_in}
use Rattle.command_line.specs.declared.reading.Settings.{Settings}
use Rattle.ibm1620_cli.specs.declared.status.Status.{Status}
use Rattle.ibm1620_cli.specs.declared.answer.Answer.{Answer}
use Rattle.ibm1620_cli.specs.declared.status.Status.TheVariants.{Refused, HostFault, OutOfMemory, SessionEnded}
use Rattle.ibm1620_cli.specs.Inputs.{reads_feed, EndsOnce}
use Rattle.ibm1620_cli.specs.Report.{report_line}
use Rattle.ibm1620_cli.specs.Turns.{status_of}
use Rattle.ibm1620_cli.specs.Promise.{ProgramTexts, is_own, is_usage, answer_of, ShowsRefusal, ShowsStatement}
use Rattle.ibm1620_cli.specs.Program.{deck_of, KeepsProgramPromise}
use Rattle.ibm1620_cli.specs.declared.source.SoundSource.{SoundSource}
use Rattle.ibm1620_cli.specs.Reading.{text_read}
use Rattle.ibm1620_cli.specs.Source.{source_read, program_of, SourceTexts, made_of, made_events}
use Rattle.ibm1620_cli.specs.LoadJob.{script_read}
use Rattle.ibm1620_cli.specs.DebugJob.{commands_read}
use Rattle.ibm1620_cli.specs.TrialJob.{trial_line, steps_of}

-- the line is written, or the host failed after a part of it
abbrev pub ReportsAs : Seen → Seen → Status → List ℕ → Status → Type 0
ReportsAs old new status line answer =
    ((answer ≡ status) × Goes old new (world_after_put units.Report line old.world))
    ⊎ ((answer ≡ HostFault) × Stops old new units.Report line)

-- a refusal is reported, and shown: the statement, its broken rule, and the breaking part; nothing is shown if the host failed
pub record RefusesAndShows (source : List ℕ) (statement : ℕ) (rule : Rule) (part : Option ℕ) (old new : Seen) (answer : Answer) : Type 0 where
  pub reports : ReportsAs old new (Refused statement rule) (refusal_line source statement rule part) answer.status
  pub console : answer.console ≡ None
  pub unstated : answer.statement ≡ None
  pub shows : answer.status ≢ HostFault → ShowsRefusal (Some (refused_text source statement rule part)) answer.refusal
  pub unshown : answer.status ≡ HostFault → answer.refusal ≡ None

-- a refusal is reported and shown; or no memory was found, and nothing is done
abbrev pub RefusesOrLacks : List ℕ → ℕ → Rule → Option ℕ → Seen → Seen → Answer → Type 0
RefusesOrLacks source statement rule part old new answer =
    RefusesAndShows source statement rule part old new answer ⊎ ((answer ≡ answer_of OutOfMemory) × (new ≡ old))

-- the report line of a status
abbrev pub Reports : Seen → Seen → Status → Status → Type 0
Reports old new status answer = ReportsAs old new status (report_line status) answer

-- the answer has nothing except the status
pub record IsAlone (answer : Answer) : Type 0 where
  pub console : answer.console ≡ None
  pub refusal : answer.refusal ≡ None
  pub statement : answer.statement ≡ None

-- the same units are in use, bound to the same names; inputs that are not read keep all their bytes, and are not asked; at most
-- one reading of an input that no machine works with finds no more; and a pack that is not worked with keeps its sectors
pub record LeavesUnread (reads : unit.Unit → Bool) (old new : World) : Type 0 where
  pub in_use : new.in_use ≡ old.in_use
  pub names : new.names ≡ old.names
  pub left : (u : unit.Unit) → reads u ≡ false → new.left u ≡ old.left u
  pub sectors : reads units.Pack ≡ false → new.sectors ≡ old.sectors
  pub asked : (u : unit.Unit) → reads u ≡ false → new.asked u ≡ old.asked u
  pub once : (u : unit.Unit) → reads_feed u ≡ false → EndsOnce (old.asked u) (new.asked u)

-- readings took some bytes of a unit, at most one of them found no more, and this holds of all its bytes, revealed or not
pub record TakesFrom (u : unit.Unit) (old new : Seen) (Says : List ℕ → Type 0) : Type 0 where
  pub gone : Readings
  pub once : gone.ends ≤ 1
  pub goes : Goes old new (world_after_take u gone old.world)
  pub text : List ℕ
  pub told : IfSome (old.world.left u) (λ all. all ≡ text)
  pub says : Says text

-- readings took some bytes of a unit, and at most one of them found no more
pub record Loses (u : unit.Unit) (old new : Seen) : Type 0 where
  pub gone : Readings
  pub once : gone.ends ≤ 1
  pub goes : Goes old new (world_after_take u gone old.world)

-- nothing was read of a unit: its bytes are refused with a status of the job's own, or the host failed, or there was no memory
pub data Unread {A : Type 0} (u : unit.Unit) (read : List ℕ → Result A Status) (old new : Seen) (s : Status)
    : Type 0 where
  refused : TakesFrom u old new (λ text. read text ≡ Err s) → is_own s ≡ true → is_usage s ≡ false
      → Unread u read old new s
  host_failed : Loses u old new → s ≡ HostFault → Rose old.faults new.faults → Unread u read old new s
  lacking : Loses u old new → s ≡ OutOfMemory → Unread u read old new s

-- the reading of a unit that has at most this many bytes; the error is the status of a job without them
abbrev pub ReadsText : unit.Unit → ℕ → Seen → Seen → Result (Vec ℕ Global) Status → Type 0
ReadsText u most old new (Ok bytes) = TakesFrom u old new (λ text. text_read most u text ≡ Ok bytes.items)
ReadsText u most old new (Err s) = Unread u (text_read most u) old new s

-- the reading of the script; the error is the status of a job without one
abbrev pub ReadsScript : ℕ → Seen → Seen → Result Script Status → Type 0
ReadsScript m old new (Ok script) =
    TakesFrom units.Script old new (λ text. script_read m text ≡ Ok (lines_left script))
    × All (IsLine (size m)) (lines_left script)
ReadsScript m old new (Err s) = Unread units.Script (script_read m) old new s

-- the commands fit m modules of core, and there is room for their breakpoints
pub record AreReady (m : ℕ) (commands : Commands) : Type 0 where
  pub fits : All (IsCommand (size m)) (command_list commands)
  pub room : HasBreakRoom commands

-- the reading of the commands
abbrev pub ReadsCommands : ℕ → Seen → Seen → Result Commands Status → Type 0
ReadsCommands m old new (Ok commands) =
    TakesFrom units.Commands old new (λ text. commands_read m text ≡ Ok (command_list commands))
    × AreReady m commands
ReadsCommands m old new (Err s) = Unread units.Commands (commands_read m) old new s

-- a source breaks no rule, and this is its assembly
abbrev pub IsSoundSource : ℕ → SoundSource → Type 0
IsSoundSource m sound = IsAssembled (size m) sound.source.items sound.assembled

-- A source is refused: its first broken statement is reported. Or there was no memory.
pub data RefusesSource (m : ℕ) (source : List ℕ) (old new : Seen) (answer : Answer) : Type 0 where
  breaks : (statement : ℕ) (rule : Rule) (part : Option ℕ) → Assembles (size m) source (Err (Broken statement rule part))
      → RefusesAndShows source statement rule part old new answer → RefusesSource m source old new answer
  no_memory : answer ≡ answer_of OutOfMemory → new ≡ old → RefusesSource m source old new answer

-- a source is assembled, and nothing is done outside; or it is refused, and the error is the answer of the job
abbrev pub AssemblesOrRefuses : ℕ → List ℕ → Seen → Seen → Result SoundSource Answer → Type 0
AssemblesOrRefuses m source old new (Ok sound) = (sound.source.items ≡ source) × IsSoundSource m sound × (new ≡ old)
AssemblesOrRefuses m source old new (Err answer) = RefusesSource m source old new answer

-- a job ends because it has no source, or a refused source
pub data EndsAtSource (m : ℕ) (old new : Seen) (answer : Answer) : Type 0 where
  without : (mid : Seen) (s : Status) → Unread units.Source source_read old mid s → Reports mid new s answer.status → IsAlone answer → EndsAtSource m old new answer
  with_broken : (mid : Seen) (source : List ℕ) → TakesFrom units.Source old mid (λ text. source_read text ≡ Ok source)
      → RefusesSource m source mid new answer → EndsAtSource m old new answer

-- the source is read and assembled, or the job has ended with the error
abbrev pub ReadsSource : ℕ → Seen → Seen → Result SoundSource Answer → Type 0
ReadsSource m old new (Ok sound) =
    TakesFrom units.Source old new (λ text. source_read text ≡ Ok sound.source.items) × IsSoundSource m sound
ReadsSource m old new (Err answer) = EndsAtSource m old new answer

-- the texts of an assembled source with this object deck
abbrev pub made_with : List ℕ → List ℕ → assembled.Assembled → SourceTexts
made_with object source a = record {
  object = object;
  image = image_text a.image.pieces;
  listing = listing_text source (placed_texts a);
}

-- the host failed within some events: a first part of them was done, and nothing else
pub record StopsWithin (all : List Event) (old new : Seen) : Type 0 where
  pub done : List Event
  pub part : IsFirstPart done all
  pub rose : Rose old.faults new.faults
  pub goes : Goes old new (after_events old.world done)

-- some events are done, one after another
abbrev pub EventsOccur : List Event → Seen → Seen → Sent → Type 0
EventsOccur all old new sent.Done = Goes old new (after_events old.world all)
EventsOccur all old new sent.Failed = StopsWithin all old new

-- these are the cards of a source's deck in a form
pub record AreCards (m : ℕ) (form : DeckForm) (source : List ℕ) (cards : List Card) : Type 0 where
  pub are : map card_bytes cards ≡ deck_of (program_of m form source)
  pub some : fewest_in form ≤ length cards
  pub most : length cards ≤ 100000

-- the texts of a source are written, and these are the cards of its deck; or no memory was found, and nothing is done; or the host failed
-- within one of the texts
abbrev pub WritesSource : ℕ → DeckForm → List ℕ → Seen → Seen → Result (Vec Card Global) Status → Type 0
WritesSource m form source old new (Ok cards) =
    EventsOccur (made_events (made_of m form source)) old new sent.Done × AreCards m form source cards.items
WritesSource m form source old new (Err s) =
    ((s ≡ OutOfMemory) × (new ≡ old))
    ⊎ ((s ≡ HostFault) × EventsOccur (made_events (made_of m form source)) old new sent.Failed)

-- the promise is kept for each program of m modules of core that has these cards as its deck, in the form of the settings
abbrev pub ProgramPromise : ℕ → Settings → Vec Card Global → Script → Seen → Seen → Answer → Type 0
ProgramPromise m settings cards script old new answer =
    KeepsProgramPromise m settings (map card_bytes cards.items) (lines_left script) old new answer

-- the answer shows the console of a machine, and no statement
pub record ShowsMachine (m : ℕ) (machine : Machine m) (answer : Answer) : Type 0 where
  pub console : answer.console ≡ Some (shown_on m machine)
  pub refusal : answer.refusal ≡ None
  pub statement : answer.statement ≡ None

-- the program of a sound source
abbrev pub program_of_sound : SoundSource → ProgramTexts
program_of_sound sound = record { source = sound.source.items; placed = placed_texts sound.assembled }

-- an answer with the statement of a program at IR of its console, and otherwise unchanged; none after a fault of the host
pub record AddsStatement (p : ProgramTexts) (answer stated : Answer) : Type 0 where
  pub status : stated.status ≡ answer.status
  pub console : stated.console ≡ answer.console
  pub refusal : stated.refusal ≡ answer.refusal
  pub shows : answer.status ≢ HostFault → ShowsStatement (Some p) answer.console stated.statement
  pub unshown : answer.status ≡ HostFault → stated.statement ≡ None

-- the turns of a machine under a script, up to a limit, end after some steps; this ending is reported, and the console shown
pub record TakesTurns (m limit : ℕ) (machine : Machine m) (script : Script) (old new : Seen) (answer : Answer)
    : Type 0 where
  pub left : Machine m
  pub left_script : Script
  pub steps : ℕ
  pub how : Ending
  pub mid : Seen
  pub runs : Runs m limit (moment m machine script 0 old) (moment m left left_script steps mid) how
  pub reports : Reports mid new (status_of steps how) answer.status
  pub shows : ShowsMachine m left answer

-- a machine was powered on over a hopper, and the host failed in its Load key
pub record BreaksKey (m : ℕ) (hopper : Hopper) (old new : Seen) : Type 0 where
  pub machine : Machine m
  pub keyed : Machine m
  pub powered : IsPowered m hopper machine
  pub breaks : StopsShort m load_cut machine keyed old new

-- a machine was powered on over a hopper, and its Load key was pressed
pub record PressesKey (m : ℕ) (hopper : Hopper) (old new : Seen) : Type 0 where
  pub machine : Machine m
  pub keyed : Machine m
  pub powered : IsPowered m hopper machine
  pub makes : Makes m load_key machine keyed old new

-- the steps of a deck are a run without a script, and the host failed in it
pub record BreaksSteps (m steps : ℕ) (keyed : Machine m) (old new : Seen) : Type 0 where
  pub none : Script
  pub no_lines : lines_left none ≡ []
  pub left : Machine m
  pub left_script : Script
  pub made : ℕ
  pub breaks : BreaksOff m steps (moment m keyed none 0 old) (moment m left left_script made new)

-- the steps of a deck are a run without a script, and it came to its end
pub record MakesSteps (m steps : ℕ) (keyed left : Machine m) (old new : Seen) : Type 0 where
  pub none : Script
  pub no_lines : lines_left none ≡ []
  pub left_script : Script
  pub made : ℕ
  pub how : Ending
  pub out : RunsOut m steps (moment m keyed none 0 old) (moment m left left_script made new) how

-- a machine is powered on over a hopper, its Load key is pressed, the steps of the deck are made without a script, and then the
-- turns are taken under the script, up to the limit; or no memory was found, and nothing is done; or the host failed in the key
-- or in the steps, and the console is shown
pub data Executes (m steps limit : ℕ) (hopper : Hopper) (script : Script) (old new : Seen) (answer : Answer)
    : Type 0 where
  lacks_memory : answer ≡ answer_of OutOfMemory → new ≡ old → Executes m steps limit hopper script old new answer
  breaks_key : answer.status ≡ HostFault → (broke : BreaksKey m hopper old new) → ShowsMachine m broke.keyed answer → Executes m steps limit hopper script old new answer
  breaks_steps : (pressed : Seen) (key : PressesKey m hopper old pressed) → answer.status ≡ HostFault
      → (broke : BreaksSteps m steps key.keyed pressed new) → ShowsMachine m broke.left answer → Executes m steps limit hopper script old new answer
  takes_turns : (pressed ready_at : Seen) (key : PressesKey m hopper old pressed) (ready : Machine m)
      → MakesSteps m steps key.keyed ready pressed ready_at → TakesTurns m limit ready script ready_at new answer
      → Executes m steps limit hopper script old new answer

-- a machine is powered on over a hopper, its Load key is pressed, the commands are carried out from there, and the end of the session is
-- reported; or no memory was found, and nothing is done; or the host failed in the key or in the session; the console is shown
pub data HoldsSession (m limit : ℕ) (placed : List PlacedText) (hopper : Hopper) (script : Script)
    (commands : Commands) (old new : Seen) (answer : Answer) : Type 0 where
  lacks_memory : answer ≡ answer_of OutOfMemory → new ≡ old → HoldsSession m limit placed hopper script commands old new answer
  breaks_key : answer.status ≡ HostFault → (broke : BreaksKey m hopper old new) → ShowsMachine m broke.keyed answer
      → HoldsSession m limit placed hopper script commands old new answer
  breaks_session : (pressed : Seen) (key : PressesKey m hopper old pressed) (left : Machine m)
      (left_script : Script) → answer.status ≡ HostFault → ShowsMachine m left answer
      → BreaksSession m (task limit placed (command_list commands))
      (moment m key.keyed script 0 pressed) (without_count m left left_script new)
      → HoldsSession m limit placed hopper script commands old new answer
  ends_session : (pressed mid : Seen) (key : PressesKey m hopper old pressed) (left : Machine m)
      (left_script : Script) (breaks : List ℕ)
      → EndsSession m (task limit placed (command_list commands)) (moment m key.keyed script 0 pressed)
      (without_count m left left_script mid) breaks → Reports mid new SessionEnded answer.status → ShowsMachine m left answer
      → HoldsSession m limit placed hopper script commands old new answer

-- a line is added after the report line of a status that counts steps, or the host failed after a part of it; for other statuses
-- nothing is done
abbrev pub ReportsBy : Option ℕ → Settings → ℕ → Seen → Seen → Status → Status → Type 0
ReportsBy None settings cards old new status answer = (answer ≡ status) × (new ≡ old)
ReportsBy (Some steps) settings cards old new status answer =
    ReportsAs old new status (trial_line settings cards steps) answer

abbrev pub ReportsTrial : Settings → ℕ → Seen → Seen → Status → Status → Type 0
ReportsTrial settings cards old new status answer =
    ReportsBy (steps_of status) settings cards old new status answer
