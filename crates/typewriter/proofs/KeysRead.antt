-- A line of the keyboard as it is read in.
use Rattle.std.proofs.Common.{◌≡◌, ℕ, false, List, [], ◌∷◌, ◌++◌, take, refl, sym, ◌∙◌, ap, subst}
use Rattle.std.specs.Prelude.{Result, Ok, Err, IfOk, ⊤}
use Rattle.indicators.specs.declared.Panel.{Panel}
use Rattle.addr_indirect.specs.declared.Stop.{Stop}
use Rattle.outside_io.specs.declared.host.Unit as unit
use Rattle.outside_io.specs.World.{World, Seen}
use Rattle.traces.specs.Trace.{Trace, map_reason}
use Rattle.traces.specs.Change.{Change, Changed}
use Rattle.card_code.specs.Break.{Break, StopsBy}
use Rattle.card_code.specs.Entries.{Entry}
use Rattle.card_code.specs.TextIn.{Intake, store_digits, store_pairs}
use Rattle.card_code.specs.Feed.{Station, station, GivesEntry, Lacks, ReadsAll}
use Rattle.card_code.proofs.EntriesRead.{entry_read, none_read as no_entry}
use Rattle.card_code.specs.declared.tally.ReadAs.{ReadAs}
use Rattle.card_code.specs.declared.tally.ReadAs.TheVariants as as_read
use Rattle.card_code.specs.declared.tally.Tally.{Tally}
use Rattle.card_code.specs.Readings.{Reading, bad_from}
use Rattle.card_code.proofs.GoodStored.{none_in_first, no_bad_digit, no_bad_pair}
use Rattle.card_code.specs.declared.lines.Lines.{Lines}
use Rattle.card_code.specs.Reader.{unit_of, with_bad_stored}
use Rattle.typewriter.specs.declared.typing.TypeIo.{TypeIo}
use Rattle.typewriter.specs.declared.typing.TypeIo.TheVariants as io
use Rattle.typewriter.specs.Keys.{line_feed, take_keys, HasReadLinesBy, HasReadLines, line_taken}
use Rattle.typewriter.specs.KeyCalls.{ReadsLineBy, HasReadOneLine, HasReadLineAsSaid, line_stored_ending}
use Rattle.typewriter.proofs.LinesRead.{line_stored, reading_stored}

-- a reading's answer is that of the call
reads_by : (t : List Entry → Trace Intake ⊤ Break) (old new : Station Lines) (answer : Result ⊤ Stop) (got : TypeIo) → got ≡ line_stored_ending answer → ReadsAll (line_feed (unit_of old.from)) t old new (map_reason StopsBy answer) → ReadsLineBy t old new got
reads_by t old new (Ok done) got ends all = subst (λ (x : TypeIo). ReadsLineBy t old new x) (sym ends) all
reads_by t old new (Err why) got ends all = subst (λ (x : TypeIo). ReadsLineBy t old new x) (sym ends) all

-- Of a line that was stored whole while 06 is off, no character is bad.
module _ (u : unit.Unit) (core new : List ℕ) (panel new_panel : Panel) (n a line room : ℕ) (text : List ℕ) where
  pub digits_good : (answer : Result ⊤ Stop) → Changed core panel (store_digits n a text) new new_panel answer
      → IfOk answer (λ done. new_panel.read_check ≡ false → bad_from u line as_read.Digit 1 (take room text) ≡ [])
  digits_good (Ok done) changed = λ off. none_in_first u line as_read.Digit room text 1 (no_bad_digit u line core new panel new_panel n a text off 1 changed)
  digits_good (Err why) changed = tt

  pub pairs_good : (answer : Result ⊤ Stop) → Changed core panel (store_pairs n a text) new new_panel answer
      → IfOk answer (λ done. new_panel.read_check ≡ false → bad_from u line as_read.Pair 1 (take room text) ≡ [])
  pairs_good (Ok done) changed = λ off. none_in_first u line as_read.Pair room text 1 (no_bad_pair u line core new panel new_panel n a text off 1 changed)
  pairs_good (Err why) changed = tt

-- What the keyboard has read then.
module _ (how : ReadAs) (room : ℕ) where
  said_by : (start : List Entry) (readings : List Reading) (k : Lines) (w : World) (answer : Result ⊤ Stop) (got : TypeIo) → got ≡ line_stored_ending answer → HasReadOneLine how room start readings k w → HasReadLineAsSaid how room start readings k w got
  said_by start readings k w (Ok done) got ends one = subst (λ (x : TypeIo). HasReadLineAsSaid how room start readings k w x) (sym ends) one
  said_by start readings k w (Err why) got ends one = subst (λ (x : TypeIo). HasReadLineAsSaid how room start readings k w x) (sym ends) one

  -- a line that was taken is one reading more, with its bad characters
  pub line_said : (old next k : Lines) (v w : World) (text bytes : List ℕ) (space : ℕ) (answer : Result ⊤ Stop) (got : TypeIo)
      → ((start : List Entry) (readings : List Reading) → HasReadLinesBy start readings old v → HasReadLinesBy start (readings ++ line_taken next text ∷ []) next w) → bytes ≡ text → space ≡ room
      → k ≡ with_bad_stored how (take space bytes) next → got ≡ line_stored_ending answer
      → (start : List Entry) (readings : List Reading) → HasReadLinesBy start readings old v → HasReadLineAsSaid how room start readings k w got
  line_said old next k v w text bytes space answer got takes same space_is is ends start readings by =
      let up : k ≡ with_bad_stored how (take space text) next = is ∙ ap (λ (xs : List ℕ). with_bad_stored how (take space xs) next) same in
      said_by start readings k w answer got ends (line_stored start readings next k w text how space, refl, space_is, reading_stored start readings next k w text how space up (takes start readings by))

  has_read : (start : List Entry) (readings : List Reading) (k : Lines) (w : World) (got : TypeIo) → HasReadLineAsSaid how room start readings k w got → HasReadLines start k w
  has_read start readings k w io.Done said = record { readings = readings ++ said.0 ∷ []; by = said.3 }
  has_read start readings k w (io.Stop why) said = record { readings = readings ++ said.0 ∷ []; by = said.3 }
  has_read start readings k w io.NoKeys said = record { readings = readings; by = said }
  has_read start readings k w (io.Jam n) said = record { readings = readings; by = said }
  has_read start readings k w io.Failed said = record { readings = readings; by = said }

  -- so it goes on with what it has read
  pub goes_on : (old k : Lines) (v w : World) (got : TypeIo) → ((start : List Entry) (readings : List Reading) → HasReadLinesBy start readings old v → HasReadLineAsSaid how room start readings k w got)
      → (start : List Entry) → HasReadLines start old v → HasReadLines start k w
  goes_on old k v w got said start read = has_read start read.readings k w got (said start read.readings read.by)

-- A line is taken, and what its text stores is stored.
module _ (stored : List ℕ → Trace Change ⊤ Stop) (core : List ℕ) (panel : Panel) where
  -- the call's answer and what it leaves are those of the reading
  line_read : (text : List ℕ) (new : List ℕ) (new_panel : Panel) (answer : Result ⊤ Stop) (old next : Lines) (before after : Seen) → GivesEntry (line_feed (unit_of old)) old next before after text
      → (bytes : List ℕ) → bytes ≡ text → Changed core panel (stored bytes) new new_panel answer → ReadsAll (line_feed (unit_of old)) (λ es. take_keys es stored) (station core panel old before) (station new new_panel next after) (map_reason StopsBy answer)
  line_read text new new_panel answer old next before after gives bytes same changed =
      entry_read (line_feed (unit_of old)) stored (station core panel old before) (station new new_panel next after) text answer gives (subst (λ (x : List ℕ). Changed core panel (stored x) new new_panel answer) same changed)

  -- so they are by the answer of the call, when the bad characters were taken up
  pub line_reads : (text : List ℕ) (new : List ℕ) (new_panel : Panel) (answer : Result ⊤ Stop) (old next k : Lines) (bad : Tally) (before after : Seen) → GivesEntry (line_feed (unit_of old)) old next before after text → k ≡ record next { bad = bad }
      → (bytes : List ℕ) → bytes ≡ text → Changed core panel (stored bytes) new new_panel answer → (got : TypeIo) → got ≡ line_stored_ending answer
      → ReadsLineBy (λ es. take_keys es stored) (station core panel old before) (station new new_panel k after) got
  line_reads text new new_panel answer old next k bad before after gives is bytes same changed got ends =
      let given : GivesEntry (line_feed (unit_of old)) old k before after text = subst (λ (x : Lines). GivesEntry (line_feed (unit_of old)) old x before after text) (sym is) (record { looks = gives.looks; left = gives.left; given = gives.given }) in
      reads_by (λ es. take_keys es stored) (station core panel old before) (station new new_panel k after) answer got ends (line_read text new new_panel answer old k before after given bytes same changed)

  -- there was no line to be read
  pub none_read : (old next : Lines) (before after : Seen) (why : Break) → Lacks (line_feed (unit_of old)) old next before after why
      → ReadsAll (line_feed (unit_of old)) (λ es. take_keys es stored) (station core panel old before) (station core panel next after) (Err why)
  none_read old next before after why lacks = no_entry (line_feed (unit_of old)) stored core panel old next before after why lacks
