-- The job load: the script is read, and then power on, the Load key over the cards of the deck and then the data, and the turns.
use Rattle.std.specs.Prelude.{ℕ, List, [], Option, None, Result, Ok, Err, option_map, option_and_then}
use Rattle.digit_core.specs.Size.{size}
use Rattle.outside_io.specs.declared.host.Unit.TheVariants as units
use Rattle.outside_io.specs.World.{World, Seen}
use Rattle.card_code.specs.Entries.{Entry, entries_of_unit, hopper_of}
use Rattle.cpu_step.specs.Load.{load_key}
use Rattle.cpu_step.specs.Outside.{load_events}
use Rattle.operator_script.specs.declared.script.Script.{Script}
use Rattle.operator_script.specs.declared.script.ScriptLine.{ScriptLine}
use Rattle.operator_script.specs.Script.{script_of}
use Rattle.operator_script.specs.Scripts.{lines_left}
use Rattle.command_line.specs.declared.reading.Settings.{Settings}
use Rattle.ibm1620_cli.specs.declared.status.Status.{Status}
use Rattle.ibm1620_cli.specs.declared.status.Status.TheVariants.{BadScript}
use Rattle.ibm1620_cli.specs.declared.answer.Answer.{Answer}
use Rattle.ibm1620_cli.specs.Promise.{Promise, KeepsPromise, KeepsJob, read_promise, nothing_done}
use Rattle.ibm1620_cli.specs.Reading.{read_within}
use Rattle.ibm1620_cli.specs.Turns.{MachineFeed, feed_at, state_over_feed, lines_of_feed, SetUp, state_over, first_over, LoadedMachine, turns_promise}

-- the inputs of a load: the bytes of the deck, and the rest of the machine's feed
pub record Loading : Type 0 where
  pub deck : List ℕ
  pub feed : MachineFeed

abbrev pub loading_of : Option (List ℕ) → Option MachineFeed → Option Loading
loading_of deck feed = option_and_then (λ d. option_map (λ f. record { deck = d; feed = f }) feed) deck

abbrev pub loading_at : World → Option Loading
loading_at w = loading_of (w.left units.Deck) (feed_at w)

-- the cards of the deck and then the data cards
abbrev pub cards_to_load : Loading → List Entry
cards_to_load l = hopper_of [] l.deck l.feed.cards

-- a machine with m modules of core at power on, with these cards in its hopper
abbrev pub powered_to_load : ℕ → Loading → SetUp
powered_to_load m l written = state_over_feed m written (cards_to_load l) l.feed

-- the Load key was pressed there
unfoldable pub state_after_load_key : ℕ → Loading → SetUp
state_after_load_key m l written = load_key (powered_to_load m l written)

-- the machine that is loaded so, over the texts of a world: the turns begin at the first card
abbrev pub keyed_machine : ℕ → World → List ScriptLine → Loading → LoadedMachine
keyed_machine m w lines l = record {
  powered = state_over w (powered_to_load m l);
  steps = 0;
  pile = entries_of_unit units.Deck 0 l.deck;
  cards = cards_to_load l;
  keys = lines_of_feed l.feed;
  taken = load_events (state_over w (powered_to_load m l));
  first = first_over w (state_after_load_key m l) lines;
}

-- the lines that were read, or the status of a job whose script has a bad line
abbrev pub lines_or_status : Result (List ScriptLine) ℕ → Result (List ScriptLine) Status
lines_or_status (Ok lines) = Ok lines
lines_or_status (Err line) = Err (BadScript line)

-- how many bytes a script has at most
abbrev pub longest_script : ℕ
longest_script = 1000000

-- the lines of a script by its bytes, for m modules of core, or the status of a job whose script is too long or has a bad line
unfoldable pub script_read : ℕ → List ℕ → Result (List ScriptLine) Status
script_read m script =
    read_within longest_script units.Script (λ text. lines_or_status (script_of (size m) text)) script

-- the promise once the script is read
abbrev pub loaded_promise : ℕ → Settings → List ScriptLine → World → Promise
loaded_promise m settings lines w = turns_promise None [] settings.limit (keyed_machine m w lines) (loading_at w)

-- THE PROMISE OF A LOAD, from the world in which its files are bound
abbrev pub load_promise : ℕ → Settings → World → Promise
load_promise m settings = read_promise units.Script (script_read m) nothing_done (loaded_promise m settings)

-- What the functions of this job answer.

abbrev pub LoadedPromise : ℕ → Settings → Script → Seen → Seen → Answer → Type 0
LoadedPromise m settings script old new answer =
    KeepsPromise (loaded_promise m settings (lines_left script) old.world) old new answer

abbrev pub LoadPromise : ℕ → Settings → Seen → Seen → Answer → Type 0
LoadPromise m settings old new answer = KeepsJob (load_promise m settings) old new answer
