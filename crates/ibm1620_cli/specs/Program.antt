-- A program: its image, its start, the form of its deck and the size of its core; its deck; and the state in which its first instruction
-- is to be carried out.
use Rattle.std.specs.Prelude.{ℕ, ◌≡◌, ◌<◌, ◌≤◌, List, [], length, map, replicate, Option, Some}
use Rattle.std.specs.List.{All}
use Rattle.outside_io.specs.declared.host.Unit.TheVariants as units
use Rattle.outside_io.specs.World.{World, Seen}
use Rattle.digit_core.specs.{zero_cell, size}
use Rattle.digit_core.specs.Size.{IsSize}
use Rattle.indicators.specs.Panel.{dark, set}
use Rattle.disk_1311.specs.declared.TheConstants.{DRIVES}
use Rattle.card_code.specs.Entries.{Entry, Text, hopper_of, entries_of_unit, has_none_left}
use Rattle.indicators.specs.Codes.{LAST_CARD}
use Rattle.cpu_step.specs.declared.machine.Mode.TheVariants.{Running}
use Rattle.cpu_step.specs.State.{UnitTexts, State}
use Rattle.cpu_step.specs.Load.{load_key}
use Rattle.operator_script.specs.declared.script.ScriptLine.{ScriptLine}
use Rattle.operator_script.specs.Turn.{RunPlace}
use Rattle.sps_pass_two.specs.{DigitRun, IsPiece, IsRunBelow, lowest_declared}
use Rattle.deck_punch.specs.declared.form.DeckForm.{DeckForm}
use Rattle.loader_cards.specs.ObjectDeck.{deck_in, deck_steps}
use Rattle.deck_punch.specs.Overlay.{overlay}
use Rattle.loader_cards.specs.Loads.{Loads}
use Rattle.card_steps.specs.Steps.{after_steps, deck_taken}
use Rattle.command_line.specs.declared.reading.Settings.{Settings}
use Rattle.ibm1620_cli.specs.declared.answer.Answer.{Answer}
use Rattle.outside_io.specs.Events.{Event}
use Rattle.ibm1620_cli.specs.Promise.{Promise, KeepsPromise}
use Rattle.ibm1620_cli.specs.Turns.{MachineFeed, feed_at, state_over_feed, lines_of_feed, SetUp, state_over, first_in, first_over, LoadedMachine, turns_job, turns_promise}

-- the image and start of a source deck without a broken rule, the form of its object deck, and its number of modules of core
pub record Program : Type 0 where
  pub modules : ℕ
  pub form : DeckForm
  pub image : List DigitRun
  pub start : ℕ

-- its digits are good, none lies below 00100, and they and the start lie in its core, which is of a size that exists
pub record Fits (p : Program) : Type 0 where
  pub sized : IsSize p.modules
  pub each : All IsPiece p.image
  pub above : All (λ r. lowest_declared ≤ r.from) p.image
  pub below : All (IsRunBelow (size p.modules)) p.image
  pub start_below : p.start < size p.modules

-- the object deck of a program
abbrev pub deck_of : Program → List (List ℕ)
deck_of p = deck_in p.form p.image p.start

-- how many steps the object deck takes
abbrev pub steps_of_deck : Program → ℕ
steps_of_deck p = deck_steps p.form (length (deck_of p))

-- the Load key over the deck, and its steps, load the program over any core
abbrev pub LoadsItself : Program → Type 0
LoadsItself p = Loads (deck_of p) p.image p.start (steps_of_deck p)

-- some cards and then the data cards
abbrev pub cards_before : List (List ℕ) → MachineFeed → List Entry
cards_before deck feed = hopper_of deck [] feed.cards

-- a machine at power on whose hopper has the deck and then the data cards
abbrev pub set_up_at_power_on : Program → MachineFeed → SetUp
set_up_at_power_on p feed written = state_over_feed p.modules written (cards_before (deck_of p) feed) feed

-- the deck was loaded: the Load key was pressed at power on, and the deck's steps were made
unfoldable pub set_up_after_load : Program → MachineFeed → SetUp
set_up_after_load p feed written = after_steps (steps_of_deck p) (load_key (set_up_at_power_on p feed written))

-- the core has the image over both standard tables and the transfer card, and zeros elsewhere; the machine runs at the start, the
-- data cards are in the hopper, and all else is as at power on
unfoldable pub set_up_at_start : Program → MachineFeed → SetUp
set_up_at_start p feed written = record {
  core = overlay (replicate (size p.modules) zero_cell) p.image p.start;
  regs = record { ir = p.start; ir2 = 0 };
  panel = set LAST_CARD (has_none_left (entries_of_unit units.Data 0 feed.cards)) dark;
  arms = replicate DRIVES 0;
  hopper = entries_of_unit units.Data 0 feed.cards;
  keys = entries_of_unit units.Keys 0 feed.keys;
  written = written;
  sectors = feed.sectors;
  mode = Running;
}

-- a machine of a program that was powered on in this state; the cards of its deck were taken, and its turns begin at this place
abbrev pub loaded_by : Program → MachineFeed → State → RunPlace → LoadedMachine
loaded_by p feed powered first = record {
  powered = powered;
  steps = steps_of_deck p;
  pile = map Text (deck_of p);
  cards = cards_before (deck_of p) feed;
  keys = lines_of_feed feed;
  taken = deck_taken (deck_of p);
  first = first;
}

-- THE PROMISE OF A PROGRAM: its deck is loaded first, which takes its cards and does nothing else outside, and its turns begin at
-- its first instruction
abbrev pub program_promise : List Event → ℕ → List ScriptLine → Program → World → Promise
program_promise before limit lines p w =
    turns_promise (Some (deck_of p)) before limit
    (λ feed. loaded_by p feed (state_over w (set_up_at_power_on p feed)) (first_over w (set_up_after_load p feed) lines)) (feed_at w)

-- the promise is kept for each program of m modules of core that has this deck, in the form of the settings
abbrev pub KeepsProgramPromise : ℕ → Settings → List (List ℕ) → List ScriptLine → Seen → Seen → Answer → Type 0
KeepsProgramPromise m settings cards lines old new answer =
    (p : Program) → Fits p → p.modules ≡ m → p.form ≡ settings.form → cards ≡ deck_of p
    → KeepsPromise (program_promise [] settings.limit lines p old.world) old new answer

-- THE HEADLINE: the job of a run's turns is equal after the deck's steps and from the overlaid core on, for every program,
-- script, limit and feed, whatever was done before, and whatever was punched and typed by then
abbrev pub HeadlineLaw : Type 0
HeadlineLaw = (own : Option (List (List ℕ))) (before : List Event) (limit : ℕ) (lines : List ScriptLine) (p : Program) (feed : MachineFeed)
    (written : UnitTexts) → Fits p
    → let powered = set_up_at_power_on p feed written in
    turns_job own before limit (loaded_by p feed powered (first_in (set_up_after_load p feed written) lines))
    ≡ turns_job own before limit (loaded_by p feed powered (first_in (set_up_at_start p feed written) lines))
