-- THE ROUND TRIP: the bytes of Object, given as Deck, are the cards again. A load of them enters the program, ends where the
-- program ends, and does what the program does.
use Rattle.std.specs.Prelude.{ℕ, ◌≡◌, ◌≢◌, ◌≤◌, ◌+◌, List, ◌++◌, length, map, replicate, slice_set, Some, None, IfSome, Ok}
use Rattle.outside_io.specs.declared.host.Unit.TheVariants as units
use Rattle.outside_io.specs.World.{World, Seen, all_units}
use Rattle.outside_io.specs.Events.{Event, text_events, DidAll}
use Rattle.digit_core.specs.{zero_cell}
use Rattle.digit_core.specs.Size.{IsSize, size}
use Rattle.indicators.specs.Panel.{dark, set}
use Rattle.indicators.specs.Codes.{LAST_CARD}
use Rattle.card_code.specs.Entries.{Text, entries_of_unit, has_none_left}
use Rattle.disk_1311.specs.declared.TheConstants.{DRIVES}
use Rattle.cpu_step.specs.declared.machine.Mode.TheVariants.{Running}
use Rattle.cpu_step.specs.State.{UnitTexts, State}
use Rattle.cpu_step.specs.Load.{load_key}
use Rattle.cpu_step.specs.Outside.{load_events}
use Rattle.operator_script.specs.declared.script.Due.{Due}
use Rattle.operator_script.specs.declared.script.Due.TheVariants as due
use Rattle.operator_script.specs.declared.script.ScriptLine.{ScriptLine}
use Rattle.operator_script.specs.Turn.{RunPlace, place_after, last_place, ending_of}
use Rattle.operator_script.specs.Run.{IsQuiet}
use Rattle.operator_script.specs.TurnEvents.{run_events}
use Rattle.card_steps.specs.Steps.{deck_taken}
use Rattle.operator_script.specs.Script.{script_of}
use Rattle.sps_pass_two.specs.Broken.{refusal_of}
use Rattle.deck_punch.specs.declared.form.DeckForm.{DeckForm}
use Rattle.disk_loader.specs.Stretches.{stretches}
use Rattle.disk_loader.specs.DiskOverlay.{disk_overlay}
use Rattle.disk_loader.specs.DiskLoads.{HasSectors, last_cylinder}
use Rattle.disk_loader.specs.Writes.{sectors_after}
use Rattle.disk_loader.specs.BootstrapDeck.{boot_steps}
use Rattle.command_line.specs.declared.words.Command.TheVariants.{Load}
use Rattle.command_line.specs.Words.{WordsSaid, plain}
use Rattle.ibm1620_cli.specs.declared.answer.Answer.{Answer}
use Rattle.ibm1620_cli.specs.declared.status.Status.TheVariants.{HostFault, OutOfMemory}
use Rattle.ibm1620_cli.specs.Binding.{all_bound}
use Rattle.ibm1620_cli.specs.Report.{report_line}
use Rattle.ibm1620_cli.specs.Promise.{Job, job_behind, job_leaving, EndsWithAnswer}
use Rattle.ibm1620_cli.specs.Turns.{MachineFeed, feed_at, lines_of_feed, SetUp, first_in, first_over, status_of}
use Rattle.ibm1620_cli.specs.Program.{Program, deck_of, steps_of_deck, cards_before, set_up_at_start}
use Rattle.deck_punch.specs.DeckText.{deck_text}
use Rattle.ibm1620_cli.specs.Source.{SourceTexts, assembled_source, program_of, made_of}
use Rattle.ibm1620_cli.specs.LoadJob.{Loading, powered_to_load, state_after_load_key, longest_script}
use Rattle.ibm1620_cli.specs.DiskJob.{boot_cards, sectors_of_source, disk_placing, placing_events}
use Rattle.ibm1620_cli.specs.Job.{modules_of, bind_events}

-- a line that is due k steps later
abbrev pub later_due : ℕ → Due → Due
later_due k (due.At n) = due.At (n + k)
later_due k due.Halt = due.Halt

abbrev pub later_line : ℕ → ScriptLine → ScriptLine
later_line k line = record { due = later_due k line.due; action = line.action }

abbrev pub later_lines : ℕ → List ScriptLine → List ScriptLine
later_lines k lines = map (later_line k) lines

-- the same state, with k more steps counted, and each AT line k steps later
abbrev pub later_place : ℕ → RunPlace → RunPlace
later_place k p = record { state = p.state; steps = p.steps + k; script = later_lines k p.script }

-- k turns from the state s lead to the state t, with k steps counted, under each limit of at least k, if no line is due before.
abbrev pub StandsAfter : ℕ → State → State → Type 0
StandsAfter k s t = (limit : ℕ) (lines : List ScriptLine) → k ≤ limit → IsQuiet k lines
    → place_after limit k (first_in s lines) ≡ Some (record { state = t; steps = k; script = lines })

-- With k steps more, in the limit and in each AT line, the turns from the state s end where the turns from the state t end, with
-- k steps more.
abbrev pub EndsAfter : ℕ → State → State → Type 0
EndsAfter k s t = (limit : ℕ) (lines : List ScriptLine)
    → last_place (limit + k) (first_in s (later_lines k lines)) ≡ later_place k (last_place limit (first_in t lines))

-- From the Load key in the state s on, the cards of a deck are taken, and then all is done outside that is done from the state t
-- on, event by event.
abbrev pub DoesAfter : ℕ → List (List ℕ) → State → State → Type 0
DoesAfter k deck s t = (limit : ℕ) (lines : List ScriptLine)
    → load_events s ++ run_events (limit + k) (first_in (load_key s) (later_lines k lines)) ≡ deck_taken deck ++ run_events limit (first_in t lines)

-- a load of the object deck that is made of a source
abbrev pub load_of_made : SourceTexts → MachineFeed → Loading
load_of_made made feed = record { deck = made.object; feed = feed }

-- What the object deck of a program does that is loaded by itself; n is the number of its steps.
--   cards: its bytes, given as Deck, are its cards;
--   stands: n turns after the Load key, a load is in the state in which a run of the program begins, with n steps counted, if no
--     line is due before and the limit is at least n;
--   ends: with n steps more, in the limit and in each AT line, the load ends where the run ends, with n steps more;
--   does: it takes its cards, and then does outside what the run does from there, event by event, and nothing else.
pub record MakesRoundTrip (p : Program) (made : SourceTexts) (feed : MachineFeed) : Type 0 where
  pub cards : entries_of_unit units.Deck 0 made.object ≡ map Text (deck_of p)
  pub stands : (written : UnitTexts)
      → StandsAfter (steps_of_deck p) (state_after_load_key p.modules (load_of_made made feed) written) (set_up_at_start p feed written)
  pub ends : (written : UnitTexts)
      → EndsAfter (steps_of_deck p) (state_after_load_key p.modules (load_of_made made feed) written) (set_up_at_start p feed written)
  pub does : (written : UnitTexts)
      → DoesAfter (steps_of_deck p) (deck_of p)
      (powered_to_load p.modules (load_of_made made feed) written) (set_up_at_start p feed written)

-- THE ROUND TRIP of every source that breaks no rule, for each size of core, in both forms of its deck, with any data cards, keyboard and pack
abbrev pub RoundTripLaw : Type 0
RoundTripLaw = (m : ℕ) (form : DeckForm) (source : List ℕ) (feed : MachineFeed) → IsSize m → refusal_of (size m) source ≡ None
    → MakesRoundTrip (program_of m form source) (made_of m form source) feed

-- The round trip by disk.

-- how many steps the bootstrap deck of a source takes
abbrev pub steps_of_boot : ℕ → List ℕ → ℕ
steps_of_boot m source = boot_steps (length (boot_cards m source))

-- a load of the bootstrap deck that is made of a source
abbrev pub load_of_boot : ℕ → List ℕ → MachineFeed → Loading
load_of_boot m source feed = record { deck = deck_text (boot_cards m source); feed = feed }

-- the arms at power on, except that the arm of drive 1 is at the cylinder of the last hundred of a source's image
abbrev pub arms_from_disk : ℕ → List ℕ → List ℕ
arms_from_disk m source = slice_set (replicate DRIVES 0) 0 (last_cylinder 0 (stretches (assembled_source m source).pieces))

-- the core has the needed hundreds of a source's image over the transfer card, and zeros elsewhere; the machine runs at the
-- start, the data cards are in the hopper, the arm of drive 1 has moved, and all else is as at power on
unfoldable pub set_up_from_disk : ℕ → List ℕ → MachineFeed → SetUp
set_up_from_disk m source feed written =
    let image = (assembled_source m source).pieces in
    let start = (assembled_source m source).start in
    record {
      core = disk_overlay (replicate (size m) zero_cell) image start;
      regs = record { ir = start; ir2 = 0 };
      panel = set LAST_CARD (has_none_left (entries_of_unit units.Data 0 feed.cards)) dark;
      arms = arms_from_disk m source;
      hopper = entries_of_unit units.Data 0 feed.cards;
      keys = entries_of_unit units.Keys 0 feed.keys;
      written = written;
      sectors = feed.sectors;
      mode = Running;
    }

-- What the bootstrap deck of a source does that is loaded over a pack with its sectors.
--   cards: its bytes, given as Deck, are its cards;
--   sectors: a pack to which the source's sectors were written, whatever it had before, has the sectors that these cards read;
--   placed: if the host reveals the pack, it has these sectors after a placing of the source, whatever was done before and with
--     any line reported, as `disk` does it;
--   stands, ends, does: as for an object deck, over each pack that has these sectors, and with the set-up from disk;
--   enters: this set-up equals the set-up by the object deck, in either form, except for the arm of drive 1;
--   same: in a core of one module both set-ups are equal.
pub record MakesDiskRoundTrip (m : ℕ) (source : List ℕ) : Type 0 where
  pub cards : entries_of_unit units.Deck 0 (deck_text (boot_cards m source)) ≡ map Text (boot_cards m source)
  pub sectors : (before : ℕ → List ℕ)
      → HasSectors (assembled_source m source).pieces (sectors_after (sectors_of_source m source) before)
  pub placed : (before : List Event) (line : List ℕ) (old new : World)
      → DidAll (before ++ (placing_events (disk_placing m source) ++ text_events units.Report line)) old new
      → IfSome new.sectors (HasSectors (assembled_source m source).pieces)
  pub stands : (feed : MachineFeed) → HasSectors (assembled_source m source).pieces feed.sectors → (written : UnitTexts)
      → StandsAfter (steps_of_boot m source)
      (state_after_load_key m (load_of_boot m source feed) written) (set_up_from_disk m source feed written)
  pub ends : (feed : MachineFeed) → HasSectors (assembled_source m source).pieces feed.sectors → (written : UnitTexts)
      → EndsAfter (steps_of_boot m source)
      (state_after_load_key m (load_of_boot m source feed) written) (set_up_from_disk m source feed written)
  pub does : (feed : MachineFeed) → HasSectors (assembled_source m source).pieces feed.sectors → (written : UnitTexts)
      → DoesAfter (steps_of_boot m source) (boot_cards m source)
      (powered_to_load m (load_of_boot m source feed) written) (set_up_from_disk m source feed written)
  pub enters : (form : DeckForm) (feed : MachineFeed) (written : UnitTexts)
      → set_up_from_disk m source feed written
      ≡ record (set_up_at_start (program_of m form source) feed written) { arms = arms_from_disk m source }
  pub same : m ≡ 1 → (form : DeckForm) → set_up_from_disk m source ≡ set_up_at_start (program_of m form source)

-- THE ROUND TRIP BY DISK of every source that breaks no rule, for each size of core
abbrev pub DiskRoundTripLaw : Type 0
DiskRoundTripLaw = (m : ℕ) (source : List ℕ) → IsSize m → refusal_of (size m) source ≡ None → MakesDiskRoundTrip m source

-- By words: a load whose script is the script of a run, with some steps more in the limit and in each AT line. The words say
-- `load`, and the host reveals the bytes of the script and the machine's feed.
pub record LaterLoad (words : List (List ℕ)) (w : World) : Type 0 where
  pub said : WordsSaid
  pub is : plain words ≡ Some said
  pub loads : said.command ≡ Load
  pub steps : ℕ
  pub limit : ℕ
  pub limit_is : said.settings.limit ≡ limit + steps
  pub script : List ℕ
  pub script_is : (all_bound said.names w).left units.Script ≡ Some script
  pub script_fits : length script ≤ longest_script
  pub lines : List ScriptLine
  pub lines_are : script_of (size (modules_of said.core)) script ≡ Ok (later_lines steps lines)
  pub feed : MachineFeed
  pub feed_is : feed_at (all_bound said.names w) ≡ Some feed

-- The job of this load, if the deck leads to a set-up: it binds its files, takes the cards of the deck, does all that a machine
-- with this set-up does, and reports the ending of that machine, with those steps more.
abbrev pub later_job : {words : List (List ℕ)} {w : World} → LaterLoad words w → List (List ℕ) → SetUp → Job
later_job {w = w} r deck set_up =
    let first = first_over (all_bound r.said.names w) set_up r.lines in
    let last = last_place r.limit first in
    let status = status_of (last.steps + r.steps) (ending_of last.state) in
    job_behind (bind_events all_units r.said.names)
    (job_leaving (Some (record { state = last.state; own = None; pile = map Text deck; cards = cards_before deck r.feed; keys = lines_of_feed r.feed })) None
    status (report_line status) (deck_taken deck ++ run_events r.limit first))

-- A sound load of the object deck of a source that breaks no rule: the bytes of Deck are the object deck that is made of the
-- source, in one form or the other, for the core that the words say; and the steps are the deck's.
pub record SoundRoundTrip (words : List (List ℕ)) (w : World) : Type 0 where
  pub load : LaterLoad words w
  pub form : DeckForm
  pub source : List ℕ
  pub unbroken : refusal_of (size (modules_of load.said.core)) source ≡ None
  pub steps_are : load.steps ≡ steps_of_deck (program_of (modules_of load.said.core) form source)
  pub deck_is : (all_bound load.said.names w).left units.Deck ≡ Some (made_of (modules_of load.said.core) form source).object

-- A sound load of an object deck, whose status is neither `HostFault` nor `OutOfMemory`, does what the entered program does.
abbrev pub RoundTrip : List (List ℕ) → Seen → Seen → Answer → Type 0
RoundTrip words old new answer = (r : SoundRoundTrip words old.world) → answer.status ≢ HostFault → answer.status ≢ OutOfMemory
    → let p = program_of (modules_of r.load.said.core) r.form r.source in
    EndsWithAnswer (later_job r.load (deck_of p) (set_up_at_start p r.load.feed)) old new answer

-- A sound load of the bootstrap deck of a source that breaks no rule: the bytes of Deck are the bootstrap deck that is made of
-- it, the pack has its sectors, as `disk` writes them, and the steps are the deck's.
pub record SoundDiskRoundTrip (words : List (List ℕ)) (w : World) : Type 0 where
  pub load : LaterLoad words w
  pub source : List ℕ
  pub unbroken : refusal_of (size (modules_of load.said.core)) source ≡ None
  pub steps_are : load.steps ≡ steps_of_boot (modules_of load.said.core) source
  pub deck_is : (all_bound load.said.names w).left units.Deck ≡ Some (deck_text (boot_cards (modules_of load.said.core) source))
  pub sectors : HasSectors (assembled_source (modules_of load.said.core) source).pieces load.feed.sectors

-- A sound load of a bootstrap deck, whose status is neither `HostFault` nor `OutOfMemory`, does what its program does from disk.
abbrev pub DiskRoundTrip : List (List ℕ) → Seen → Seen → Answer → Type 0
DiskRoundTrip words old new answer = (r : SoundDiskRoundTrip words old.world) → answer.status ≢ HostFault → answer.status ≢ OutOfMemory
    → let m = modules_of r.load.said.core in
    EndsWithAnswer (later_job r.load (boot_cards m r.source) (set_up_from_disk m r.source r.load.feed)) old new answer
