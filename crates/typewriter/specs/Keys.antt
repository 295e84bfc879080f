-- The lines that are still to be read from the keyboard, and how they are read into core.
-- Source: CPU manual, read numerically and read alphamerically; what a line is, and the order of the parts, are this
-- project's own.
use Rattle.std.specs.Prelude.{ℕ, ◌-◌, List, [], ◌∷◌, ◌++◌, length, map, ◌≡◌, Option, Some, None, IfSome, Result, Ok, Err, ⊤}
use Rattle.std.specs.List.{All}
use Rattle.outside_io.specs.declared.host.Unit as unit
use Rattle.outside_io.specs.declared.host.Unit.TheVariants as units
use Rattle.outside_io.specs.World.{World, Readings, Seen, Goes, world_after_take}
use Rattle.addr_indirect.specs.declared.Stop.{Stop}
use Rattle.traces.specs.Trace.{Trace}
use Rattle.traces.specs.Change.{Change}
use Rattle.card_code.specs.Break.{Break, NoKeys, JamsAt}
use Rattle.card_code.specs.declared.lines.Lines.{Lines}
use Rattle.card_code.specs.declared.lines.LineAnswer.{LineAnswer}
use Rattle.card_code.specs.declared.lines.LineAnswer.TheVariants as answer
use Rattle.card_code.specs.{text_of_line, Entry, next_keys, Intake, store_digits, store_pairs, entries_left}
use Rattle.card_code.specs.Reader.{unit_of, lines_handed_out, lines_tally, IsInTurn}
use Rattle.card_code.specs.Feed.{Feed, TakesNext, take_next}
use Rattle.card_code.specs.declared.tally.ReadAs.TheVariants.{Digit}
use Rattle.card_code.specs.Readings.{Reading, counted, tally_of, all_bad, entry_read, no_lines, AreNumbered}

-- the lines that are left, if the host reveals them
abbrev pub keys_left : Lines → World → Option (List Entry)
keys_left keyboard w = entries_left keyboard w

-- a unit was asked some times, and nothing else outside changed
pub record LooksAtUnit (u : unit.Unit) (before after : Seen) : Type 0 where
  pub taken : Readings
  pub goes : Goes before after (world_after_take u taken before.world)

-- how lines of a unit are taken
abbrev pub line_feed : unit.Unit → Feed Lines (List ℕ)
line_feed u = record { left = keys_left; Looks = LooksAtUnit u; next = next_keys }

-- how lines of the keyboard are taken
abbrev pub key_feed : Feed Lines (List ℕ)
key_feed = line_feed units.Keys

-- how the taking of a line ended; None if the host failed
abbrev pub line_ending : unit.Unit → LineAnswer → Option (Result (List ℕ) Break)
line_ending u (answer.Line line) = Some (Ok (text_of_line line))
line_ending u answer.End = Some (Err NoKeys)
line_ending u (answer.Jam n) = Some (Err (JamsAt u n))
line_ending u answer.Failed = None

-- what the taking of a line does
abbrev pub NextKeyLine : Lines → Lines → Seen → Seen → LineAnswer → Type 0
NextKeyLine old new before after got = TakesNext (line_feed (unit_of old)) old new before after (line_ending (unit_of old) got)

-- a line is taken, and then its text is stored
abbrev pub take_keys : List Entry → (List ℕ → Trace Change ⊤ Stop) → Trace Intake ⊤ Break
take_keys keys stored = take_next next_keys keys stored

-- RN from the keyboard: a line's digits go from P upwards, in a core of n positions
abbrev pub read_line_numeric : ℕ → ℕ → List Entry → Trace Intake ⊤ Break
read_line_numeric n p keys = take_keys keys (store_digits n p)

-- RA from the keyboard: a line's pairs go from P-1 upwards
abbrev pub read_line_alphameric : ℕ → ℕ → List Entry → Trace Intake ⊤ Break
read_line_alphameric n p keys = take_keys keys (store_pairs n (p - 1))

-- What was read.

-- WHAT A KEYBOARD HAS READ since it was made with the lines `start`: the readings of its lines, in their order. They are numbered as
-- the lines of Keys, and the tally has their bad characters that were stored. If the host reveals the lines, the lines read and the
-- lines left are all lines of `start`. No line was asked for early.
pub record HasReadLinesBy (start : List Entry) (readings : List Reading) (keyboard : Lines) (w : World) : Type 0 where
  pub unit : unit_of keyboard ≡ units.Keys
  pub turn : IsInTurn keyboard w
  pub of_keys : All (λ r. r.unit ≡ units.Keys) readings
  pub numbered : AreNumbered readings no_lines
  pub read : lines_handed_out keyboard ≡ counted (length readings)
  pub tallied : lines_tally keyboard ≡ tally_of (all_bad readings)
  pub all : IfSome (keys_left keyboard w) (λ left. start ≡ map entry_read readings ++ left)

-- a keyboard has read some lines
pub record HasReadLines (start : List Entry) (keyboard : Lines) (w : World) : Type 0 where
  pub readings : List Reading
  pub by : HasReadLinesBy start readings keyboard w

-- the reading of the line that was taken last, before any of it is stored
abbrev pub line_taken : Lines → List ℕ → Reading
line_taken keyboard text = record { unit = units.Keys; line = lines_handed_out keyboard; text = text; how = Digit; room = 0 }

-- the taking of a line adds that line to the readings; if no line is taken, they stay
abbrev pub HasTaken : List Entry → List Reading → Lines → World → LineAnswer → Type 0
HasTaken start readings keyboard w (answer.Line line) =
    HasReadLinesBy start (readings ++ line_taken keyboard (text_of_line line) ∷ []) keyboard w
HasTaken start readings keyboard w answer.End = HasReadLinesBy start readings keyboard w
HasTaken start readings keyboard w (answer.Jam n) = HasReadLinesBy start readings keyboard w
HasTaken start readings keyboard w answer.Failed = HasReadLinesBy start readings keyboard w

-- how the taking of a line adds to the readings of the keyboard
abbrev pub TakesReading : Lines → Lines → Seen → Seen → LineAnswer → Type 0
TakesReading old new before after got = (start : List Entry) (readings : List Reading)
    → HasReadLinesBy start readings old before.world → HasTaken start readings new after.world got

-- if the keyboard had read some lines before, it has read some lines after
abbrev pub GoesOnReadingLines : Lines → Lines → Seen → Seen → Type 0
GoesOnReadingLines old new before after = (start : List Entry) → HasReadLines start old before.world → HasReadLines start new after.world

-- a keyboard that has read nothing yet
abbrev pub IsNewKeyboard : Lines → Type 0
IsNewKeyboard keyboard = (start : List Entry) (w : World) → IfSome (keys_left keyboard w) (λ left. start ≡ left) → HasReadLines start keyboard w
