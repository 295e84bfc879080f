-- What the reading of a keyboard line does to core, panel and keyboard.
use Rattle.std.specs.Prelude.{ℕ, ◌≡◌, List, [], ◌∷◌, ◌++◌, Option, Some, None, Result, Ok, Err, ⊤}
use Rattle.outside_io.specs.declared.host.Unit as unit
use Rattle.outside_io.specs.World.{World, Seen}
use Rattle.addr_indirect.specs.declared.Stop.{Stop}
use Rattle.traces.specs.Trace.{Trace}
use Rattle.card_code.specs.Break.{Break, StopsBy, NoKeys, JamsAt}
use Rattle.card_code.specs.{Entry, Intake, Station, ReadsIn}
use Rattle.card_code.specs.declared.lines.Lines.{Lines}
use Rattle.card_code.specs.Reader.{unit_of}
use Rattle.typewriter.specs.declared.typing.TypeIo.{TypeIo}
use Rattle.typewriter.specs.declared.typing.TypeIo.TheVariants as io
use Rattle.card_code.specs.declared.tally.ReadAs.{ReadAs}
use Rattle.card_code.specs.Readings.{Reading}
use Rattle.typewriter.specs.Keys.{line_feed, HasReadLinesBy}

-- how a reading of a unit ended; None if the host failed
abbrev pub line_reading_ending : unit.Unit → TypeIo → Option (Result ⊤ Break)
line_reading_ending u io.Done = Some (Ok tt)
line_reading_ending u (io.Stop why) = Some (Err (StopsBy why))
line_reading_ending u io.NoKeys = Some (Err NoKeys)
line_reading_ending u (io.Jam n) = Some (Err (JamsAt u n))
line_reading_ending u io.Failed = None

-- what a reading with the trace t does
abbrev pub ReadsLineBy : (List Entry → Trace Intake ⊤ Break) → Station Lines → Station Lines → TypeIo → Type 0
ReadsLineBy t old new answer = ReadsIn (line_feed (unit_of old.from)) t old new (line_reading_ending (unit_of old.from) answer)

-- one more line was read, as `how` says, and core had room for `room` characters
abbrev pub HasReadOneLine : ReadAs → ℕ → List Entry → List Reading → Lines → World → Type 0
HasReadOneLine how room start readings keyboard w =
    (r : Reading) × (r.how ≡ how) × (r.room ≡ room) × HasReadLinesBy start (readings ++ r ∷ []) keyboard w

-- one more line was read if the reading was done or stopped, and otherwise no line
abbrev pub HasReadLineAsSaid : ReadAs → ℕ → List Entry → List Reading → Lines → World → TypeIo → Type 0
HasReadLineAsSaid how room start readings keyboard w io.Done = HasReadOneLine how room start readings keyboard w
HasReadLineAsSaid how room start readings keyboard w (io.Stop why) = HasReadOneLine how room start readings keyboard w
HasReadLineAsSaid how room start readings keyboard w io.NoKeys = HasReadLinesBy start readings keyboard w
HasReadLineAsSaid how room start readings keyboard w (io.Jam n) = HasReadLinesBy start readings keyboard w
HasReadLineAsSaid how room start readings keyboard w io.Failed = HasReadLinesBy start readings keyboard w

-- how a call adds to the readings of the keyboard
abbrev pub ReadsLineAsSaid : ReadAs → ℕ → Lines → Lines → Seen → Seen → TypeIo → Type 0
ReadsLineAsSaid how room old new before after answer = (start : List Entry) (readings : List Reading)
    → HasReadLinesBy start readings old before.world → HasReadLineAsSaid how room start readings new after.world answer

-- the answer of a reading, by the result of storing its line
abbrev pub line_stored_ending : Result ⊤ Stop → TypeIo
line_stored_ending (Ok done) = io.Done
line_stored_ending (Err why) = io.Stop why
