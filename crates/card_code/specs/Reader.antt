-- What a reader of lines means: its unit, how many lines it has handed out, and the bytes that are left. And what its calls do.
use Rattle.std.specs.Prelude.{◌≡◌, ℕ, ◌-◌, ◌<◌, ◌≤◌, Bool, true, false, ◌||◌, ◌==◌, ◌⊎◌, List, [], ◌∷◌, ◌++◌, length, take, drop, Option, Some, None, option_map, IfSome}
use Rattle.outside_io.specs.declared.host.Unit as unit
use Rattle.outside_io.specs.World.{World, Asked, Readings, no_readings, one_reading, both_readings, Seen, Rose, Goes, BeginsWith, world_after_take, one_more}
use Rattle.card_code.specs.declared.lines.Lines.{Lines}
use Rattle.card_code.specs.declared.tally.ReadAs.{ReadAs}
use Rattle.card_code.specs.declared.tally.Tally.{Tally}
use Rattle.card_code.specs.Readings.{bad_from, with_bad}
use Rattle.card_code.specs.declared.lines.LineAnswer.{LineAnswer}
use Rattle.card_code.specs.declared.lines.LineAnswer.TheVariants as answer
use Rattle.card_code.specs.declared.lines.More.{More}
use Rattle.card_code.specs.declared.lines.More.TheVariants as more
use Rattle.card_code.specs.LineText.{text_of_line}
use Rattle.outside_io.specs.Lines.{behind_line, first_text}
use Rattle.card_code.specs.Entries.{Entry, Text, Long, entries_of_unit, behind, has_none_left}

-- the unit whose lines are read
abbrev pub unit_of : Lines → unit.Unit
unit_of lines = lines.unit

-- how many lines were handed out
abbrev pub lines_handed_out : Lines → ℕ
lines_handed_out lines = lines.number

-- the tally of the bad characters that were stored
abbrev pub lines_tally : Lines → Tally
lines_tally lines = lines.bad

-- the reader after the bad ones among these characters of its last line were tallied
abbrev pub with_bad_stored : ReadAs → List ℕ → Lines → Lines
with_bad_stored how text lines =
    record lines { bad = with_bad (bad_from (unit_of lines) (lines_handed_out lines) how 1 text) (lines_tally lines) }

-- the bytes that were taken and not handed out
abbrev pub bytes_held : Lines → List ℕ
bytes_held lines = lines.held.items ++ take (lines.end - lines.start) (drop lines.start lines.piece)

-- the bytes that are left, if the host reveals them
abbrev pub lines_rest : Lines → World → Option (List ℕ)
lines_rest lines w = option_map (λ left. bytes_held lines ++ left) (w.left (unit_of lines))

-- the lines that are left, if the host reveals them
abbrev pub entries_left : Lines → World → Option (List Entry)
entries_left lines w = option_map (entries_of_unit (unit_of lines) (lines_handed_out lines)) (lines_rest lines w)

-- the bytes have a LF
abbrev pub has_end : List ℕ → Bool
has_end [] = false
has_end (b ∷ bytes) = b == 10 || has_end bytes

-- the bytes held show the next line: they have a LF, or they are more than any line has
abbrev pub HasWhole : List ℕ → Type 0
HasWhole held = (has_end held ≡ true) ⊎ (82 ≤ length held)

-- some readings, and then a last one, which gave these bytes or found no more; None if the host failed in it
abbrev pub with_last_reading : Readings → Option (List ℕ) → Readings
with_last_reading earlier None = earlier
with_last_reading earlier (Some piece) = both_readings earlier (one_reading piece)

-- the host was asked only as needed: every reading before the last gave some bytes, and with these the bytes held didn't show the
-- next line
pub record AsksAsNeeded (old : Lines) (before after : Seen) : Type 0 where
  pub earlier : Readings
  pub last : Option (List ℕ)
  pub some : earlier.ends ≡ 0
  pub lacks : HasWhole (bytes_held old ++ earlier.bytes) → ⊥
  pub begins : BeginsWith (with_last_reading earlier last).bytes (before.world.left (unit_of old))
  pub goes : Goes before after (world_after_take (unit_of old) (with_last_reading earlier last) before.world)

-- the host was asked only while the bytes held didn't show the next line
pub data TakesNeeded (old : Lines) (before after : Seen) : Type 0 where
  takes_none : after ≡ before → TakesNeeded old before after
  takes_some : AsksAsNeeded old before after → TakesNeeded old before after

-- A READER IN TURN: its unit was asked for no more than was needed. The last reading found no more bytes; or it gave more bytes than
-- are held, so it ended a line that was handed out; or the bytes held don't show the next line; or they show that this line is over
-- 80 bytes.
abbrev pub AsksInTurn : List ℕ → Asked → Type 0
AsksInTurn held asked =
    (asked.last ≡ 0) ⊎ ((length held < asked.last) ⊎ ((HasWhole held → ⊥) ⊎ (80 < length (first_text held))))

-- a reader is in turn, if the host reveals how its unit was asked
abbrev pub IsInTurn : Lines → World → Type 0
IsInTurn lines w = IfSome (w.asked (unit_of lines)) (AsksInTurn (bytes_held lines))

-- A READER ONE AHEAD is in turn, except for a look whether a byte is left after the line that was handed out last: all bytes that this
-- look gave may be held.
abbrev pub AsksOneAhead : List ℕ → Asked → Type 0
AsksOneAhead held asked =
    (asked.last ≡ 0) ⊎ ((length held ≤ asked.last) ⊎ ((HasWhole held → ⊥) ⊎ (80 < length (first_text held))))

-- a reader is one ahead, if the host reveals how its unit was asked
abbrev pub IsOneAhead : Lines → World → Type 0
IsOneAhead lines w = IfSome (w.asked (unit_of lines)) (AsksOneAhead (bytes_held lines))

-- the host was asked once
pub record AsksOne (old : Lines) (before after : Seen) : Type 0 where
  pub last : Option (List ℕ)
  pub goes : Goes before after (world_after_take (unit_of old) (with_last_reading no_readings last) before.world)

-- the host was asked once at most
pub data AsksOnce (old : Lines) (before after : Seen) : Type 0 where
  asks_none : after ≡ before → AsksOnce old before after
  asks_one : AsksOne old before after → AsksOnce old before after

-- the unit was asked some times, and nothing else outside changed
pub record AsksUnit (old new : Lines) (before after : Seen) : Type 0 where
  pub unit : unit_of new ≡ unit_of old
  pub taken : Readings
  pub goes : Goes before after (world_after_take (unit_of old) taken before.world)

-- the bytes that are left and the count of lines handed out stay
pub record Stays (old new : Lines) (before after : Seen) : Type 0 where
  pub moves : AsksUnit old new before after
  pub rest : lines_rest new after.world ≡ lines_rest old before.world
  pub number : lines_handed_out new ≡ lines_handed_out old

-- the first line is handed out
pub record GivesEntry (old new : Lines) (before after : Seen) (text : List ℕ) : Type 0 where
  pub moves : AsksUnit old new before after
  pub short : length text ≤ 80
  pub some : IfSome (lines_rest old before.world) (λ rest. 0 < length rest)
  pub is_text : IfSome (lines_rest old before.world) (λ rest. text ≡ first_text rest)
  pub rest : lines_rest new after.world ≡ option_map behind_line (lines_rest old before.world)
  pub number : lines_handed_out new ≡ one_more (lines_handed_out old)

-- no byte is left
pub record HasEnded (old new : Lines) (before after : Seen) : Type 0 where
  pub stays : Stays old new before after
  pub none : IfSome (lines_rest old before.world) (λ rest. rest ≡ [])

-- the first line is over 80 bytes, and stays
pub record Jams (old new : Lines) (before after : Seen) (number : ℕ) : Type 0 where
  pub stays : Stays old new before after
  pub number_is : number ≡ one_more (lines_handed_out old)
  pub long : IfSome (lines_rest old before.world) (λ rest. 80 < length (first_text rest))

-- the host failed
pub record HostFails (old new : Lines) (before after : Seen) : Type 0 where
  pub stays : Stays old new before after
  pub rose : Rose before.faults after.faults

-- what the reading of a line does, in bytes
abbrev pub NextLine : Lines → Lines → Seen → Seen → LineAnswer → Type 0
NextLine old new before after (answer.Line line) = GivesEntry old new before after (text_of_line line)
NextLine old new before after answer.End = HasEnded old new before after
NextLine old new before after (answer.Jam number) = Jams old new before after number
NextLine old new before after answer.Failed = HostFails old new before after

-- some byte is left
pub record IsLeft (old new : Lines) (before after : Seen) : Type 0 where
  pub stays : Stays old new before after
  pub some : IfSome (lines_rest old before.world) (λ rest. 0 < length rest)

-- what the look ahead does, in bytes
abbrev pub HasMore : Lines → Lines → Seen → Seen → More → Type 0
HasMore old new before after more.Yes = IsLeft old new before after
HasMore old new before after more.No = HasEnded old new before after
HasMore old new before after more.Failed = HostFails old new before after

-- an entry is the first of the entries that are left, if the host reveals them
abbrev pub Fronts : Entry → Option (List Entry) → Type 0
Fronts e left = IfSome left (λ es. es ≡ e ∷ behind es)

-- no entry is left, if the host reveals the entries
abbrev pub HasNone : Option (List Entry) → Type 0
HasNone left = IfSome left (λ es. es ≡ [])

-- some entry is left, if the host reveals the entries
abbrev pub HasSome : Option (List Entry) → Type 0
HasSome left = IfSome left (λ es. has_none_left es ≡ false)

-- what the reading of a line does to the entries of a unit that are left
abbrev pub NextEntry : unit.Unit → Option (List Entry) → Option (List Entry) → Seen → Seen → LineAnswer → Type 0
NextEntry u old new before after (answer.Line line) = (new ≡ option_map behind old) × Fronts (Text (text_of_line line)) old
NextEntry u old new before after answer.End = (new ≡ old) × HasNone old
NextEntry u old new before after (answer.Jam number) = (new ≡ old) × Fronts (Long u number) old
NextEntry u old new before after answer.Failed = (new ≡ old) × Rose before.faults after.faults

-- what the look ahead says of the entries that are left
abbrev pub MoreEntries : Option (List Entry) → Option (List Entry) → Seen → Seen → More → Type 0
MoreEntries old new before after more.Yes = (new ≡ old) × HasSome old
MoreEntries old new before after more.No = (new ≡ old) × HasNone old
MoreEntries old new before after more.Failed = (new ≡ old) × Rose before.faults after.faults

-- the reading of a line, over the entries that the reader has left
abbrev pub NextOf : Lines → Lines → Seen → Seen → LineAnswer → Type 0
NextOf old new before after got =
    NextEntry (unit_of old) (entries_left old before.world) (entries_left new after.world) before after got

-- the look ahead, over the entries that the reader has left
abbrev pub MoreOf : Lines → Lines → Seen → Seen → More → Type 0
MoreOf old new before after got =
    MoreEntries (entries_left old before.world) (entries_left new after.world) before after got
