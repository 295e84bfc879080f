-- The message about a job.
use Rattle.std.specs.Prelude.{ℕ, ◌≡◌, ◌<◌, Bool, true, false, ◌&&◌, ◌||◌, ◌==◌, List, [], ◌++◌, codes, decimal, length, Option, None, Some, is_none, if◌then◌else◌, IsSomeAnd}
use Rattle.cpu_step.specs.declared.console.Console.{Console}
use Rattle.ibm1620_cli.specs.declared.status.Status.{Status}
use Rattle.ibm1620_cli.specs.declared.status.Status.TheVariants.{Halted, Assembled, Generated, Placed, CheckStop, Limit, NeedCards, NeedKeys, HostFault, Jam, SessionEnded}
use Rattle.arrayvec.specs.declared.array_string.ArrayString.{ArrayString}
use Rattle.messages.specs.declared.ending.JobEnding.{JobEnding}
use Rattle.messages.specs.declared.ending.TheConstants.{ROOM}
use Rattle.messages.specs.Said.{is_whole}
use Rattle.messages.specs.Console.{console_line}

-- the job went well
abbrev pub is_good : Status → Bool
is_good (Halted at steps) = true
is_good (Assembled statements digits cards) = true
is_good (Generated statements) = true
is_good (Placed sectors cards) = true
is_good SessionEnded = true
is_good status = false

-- the job leaves a machine for its operator: the machine neither halted nor ended a session
abbrev pub leaves_machine : Status → Bool
leaves_machine (CheckStop kind at steps) = true
leaves_machine (Limit steps) = true
leaves_machine (NeedCards at steps) = true
leaves_machine (NeedKeys at steps) = true
leaves_machine (Jam u line) = true
leaves_machine HostFault = true
leaves_machine status = false

-- the console, if it is shown
abbrev pub shown_of : JobEnding → Option Console
shown_of e = if e.asks_console || leaves_machine e.status then e.answer.now.console else None

-- no bad character of a card or of a line of Keys was read
abbrev pub has_no_bad : Option Console → Bool
has_no_bad (Some c) = is_none c.bad_cards.first && is_none c.bad_keys.first
has_no_bad None = true

-- there is nothing to say
abbrev pub is_quiet : JobEnding → Bool
is_quiet e = is_good e.status && has_no_bad e.answer.now.console && is_none (shown_of e) && (e.lost_cards == 0)

-- the console's line, if the console is shown
abbrev pub shown_line : Option Console → List ℕ
shown_line None = []
shown_line (Some c) = console_line c

-- the words after the count of lost cards
abbrev pub cards_were : ℕ → List ℕ
cards_were cards = if cards == 1 then codes " card was" else codes " cards were"

-- the line of the cards that were punched to no file
abbrev pub lost_line : ℕ → List ℕ
lost_line cards =
    if cards == 0 then []
    else codes "ibm1620: " ++ decimal cards ++ cards_were cards ++ codes " punched to no file: --punched FILE keeps them" ++ codes "\n"

-- the last lines of a message
abbrev pub last_lines : JobEnding → List ℕ
last_lines e = shown_line (shown_of e) ++ lost_line e.lost_cards

-- whole lines, at least one, that end in the last lines; no clause fixes the lines before them
pub record EndsInLines (last text : List ℕ) : Type 0 where
  pub first : List ℕ
  pub is : text ≡ first ++ last
  pub whole : is_whole text ≡ true
  pub some : 0 < length text

-- THE MESSAGE: none if there is nothing to say, otherwise a text whose last lines are the console's line and the line of lost cards
pub record IsMessageOf (ending : JobEnding) (m : Option (ArrayString ROOM)) : Type 0 where
  pub none : is_quiet ending ≡ true → m ≡ None
  pub some : is_quiet ending ≡ false → IsSomeAnd m (λ text. EndsInLines (last_lines ending) text.bytes)
