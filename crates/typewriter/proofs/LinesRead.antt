-- What a keyboard has read, as its next line is taken and stored.
use Rattle.std.proofs.Common.{◌≡◌, ℕ, suc, ◌+◌, List, [], ◌∷◌, ◌++◌, length, map, take, refl, sym, ◌∙◌, ap, subst, append_assoc, length-append, arith}
use Rattle.std.proofs.lemmas.List.{map-append}
use Rattle.std.proofs.lemmas.List.Elements.{All-push, All-nil, All-head, All-tail, All-pop}
use Rattle.std.specs.List.{All}
use Rattle.std.specs.Prelude.{Option, Some, None, option_map, IfSome}
use Rattle.outside_io.specs.declared.host.Unit as unit
use Rattle.outside_io.specs.declared.host.Unit.TheVariants as units
use Rattle.outside_io.specs.World.{World, Seen, one_more}
use Rattle.card_code.specs.declared.lines.Lines.{Lines}
use Rattle.card_code.specs.declared.lines.LineAnswer.{LineAnswer}
use Rattle.card_code.specs.declared.lines.LineAnswer.TheVariants as answer
use Rattle.card_code.specs.Entries.{Entry, Text, behind}
use Rattle.card_code.specs.LineText.{text_of_line}
use Rattle.card_code.specs.Reader.{unit_of, lines_handed_out, lines_tally, with_bad_stored, Fronts, NextLine, NextEntry, IsInTurn, IsOneAhead}
use Rattle.card_code.proofs.LineEntries.{next_moves}
use Rattle.card_code.proofs.InTurn.{is_ahead}
use Rattle.card_code.specs.declared.tally.ReadAs.{ReadAs}
use Rattle.card_code.specs.declared.tally.BadCharacter.{BadCharacter}
use Rattle.card_code.specs.declared.tally.Tally.{Tally}
use Rattle.card_code.specs.Readings.{Reading, counted, bad_in, bad_from, no_bad, with_bad, entry_read, no_lines, with_line, lines_after, AreNumbered}
use Rattle.card_code.proofs.OneMore.{counted_more, tally_more, tally_same, numbered_more}
use Rattle.typewriter.specs.Keys.{keys_left, HasReadLinesBy, line_taken, HasTaken, TakesReading, IsNewKeyboard}

-- a reading is one of Keys
abbrev IsOfKeys : Reading → Type 0
IsOfKeys r = r.unit ≡ units.Keys

-- lines of Keys are counted as those that were read
keys_counted : (readings : List Reading) (gone : unit.Unit → ℕ) (n : ℕ) → All IsOfKeys readings → gone units.Keys ≡ counted n → lines_after readings gone units.Keys ≡ counted (n + length readings)
unfolding lines_after
keys_counted [] gone n of_keys is = let e : n + 0 ≡ n = omega arith in rw e is
keys_counted (r ∷ more) gone n of_keys is =
    let e : n + 1 + length more ≡ n + suc (length more) = omega arith in
    let first : with_line r.unit gone units.Keys ≡ counted (n + 1) = ap (λ (u : unit.Unit). with_line u gone units.Keys) (All-head IsOfKeys r more of_keys) ∙ ap one_more is ∙ counted_more n in
    keys_counted more (with_line r.unit gone) (n + 1) (All-tail IsOfKeys r more of_keys) first ∙ ap counted e

keys_lines : (readings : List Reading) → All IsOfKeys readings → lines_after readings no_lines units.Keys ≡ counted (length readings)
keys_lines readings of_keys =
    let e : 0 + length readings ≡ length readings = omega arith in
    keys_counted readings no_lines 0 of_keys refl ∙ ap counted e

-- one reading more is counted
one_counted : (readings : List Reading) (r : Reading) → one_more (counted (length readings)) ≡ counted (length (readings ++ r ∷ []))
one_counted readings r = counted_more (length readings) ∙ ap counted (sym (length-append readings (r ∷ [])))

-- and it is what was read last
entries_more : (readings : List Reading) (r : Reading) (left : List Entry) → map entry_read readings ++ (Text r.text ∷ left) ≡ map entry_read (readings ++ r ∷ []) ++ left
entries_more readings r left =
    sym (append_assoc (map entry_read readings) (Text r.text ∷ []) left) ∙ ap (λ (xs : List Entry). xs ++ left) (sym (map-append entry_read readings (r ∷ [])))

-- so what was read and what is left are the same lines when the first of these is read
all_more : (start : List Entry) (readings : List Reading) (r : Reading) (told next : Option (List Entry)) → next ≡ option_map behind told → Fronts (Text r.text) told → IfSome told (λ left. start ≡ map entry_read readings ++ left)
    → IfSome next (λ left. start ≡ map entry_read (readings ++ r ∷ []) ++ left)
all_more start readings r None next is front all = rw is tt
all_more start readings r (Some es) next is front all =
    rw is (all ∙ ap (λ (left : List Entry). map entry_read readings ++ left) front ∙ entries_more readings r (behind es))

-- A line is taken, or none.
module _ (start : List Entry) (readings : List Reading) (old new : Lines) (before after : Seen) (unit_is : unit_of new ≡ unit_of old) (turn : IsInTurn new after.world) (same : lines_tally new ≡ lines_tally old) (by : HasReadLinesBy start readings old before.world) where
  -- where none is, the readings are the same
  none_taken : lines_handed_out new ≡ lines_handed_out old → keys_left new after.world ≡ keys_left old before.world → HasReadLinesBy start readings new after.world
  none_taken read left = record {
    unit = unit_is ∙ by.unit;
    turn = turn;
    of_keys = by.of_keys;
    numbered = by.numbered;
    read = read ∙ by.read;
    tallied = same ∙ by.tallied;
    all = subst (λ (told : Option (List Entry)). IfSome told (λ es. start ≡ map entry_read readings ++ es)) (sym left) by.all;
  }

  one_taken : (text : List ℕ) → lines_handed_out new ≡ one_more (lines_handed_out old) → keys_left new after.world ≡ option_map behind (keys_left old before.world) → Fronts (Text text) (keys_left old before.world)
      → HasReadLinesBy start (readings ++ line_taken new text ∷ []) new after.world
  unfolding bad_from
  one_taken text read left front = record {
    unit = unit_is ∙ by.unit;
    turn = turn;
    of_keys = All-push IsOfKeys readings (line_taken new text) by.of_keys refl;
    numbered = numbered_more readings (line_taken new text) no_lines by.numbered (read ∙ ap one_more (by.read ∙ sym (keys_lines readings by.of_keys)));
    read = read ∙ ap one_more by.read ∙ one_counted readings (line_taken new text);
    tallied = same ∙ by.tallied ∙ tally_same readings (line_taken new text) refl;
    all = all_more start readings (line_taken new text) (keys_left old before.world) (keys_left new after.world) left front by.all;
  }

  reading_taken : (u : unit.Unit) (got : LineAnswer) → NextLine old new before after got → NextEntry u (keys_left old before.world) (keys_left new after.world) before after got → HasTaken start readings new after.world got
  reading_taken u (answer.Line line) read entry = one_taken (text_of_line line) read.number entry.0 entry.1
  reading_taken u answer.End read entry = none_taken read.stays.number entry.0
  reading_taken u (answer.Jam n) read entry = none_taken read.stays.number entry.0
  reading_taken u answer.Failed read entry = none_taken read.stays.number entry.0

-- what the taking adds to the readings
pub takes_reading : (old new : Lines) (before after : Seen) (u : unit.Unit) (got : LineAnswer) → (IsOneAhead old before.world → IsInTurn new after.world) → lines_tally new ≡ lines_tally old → NextLine old new before after got
    → NextEntry u (keys_left old before.world) (keys_left new after.world) before after got → TakesReading old new before after got
takes_reading old new before after u got turn same line entry = λ start readings by.
    reading_taken start readings old new before after (next_moves old new before after got line).unit (turn (is_ahead old before.world by.turn)) same by u got line entry

-- A line that was taken is stored.
module _ (start : List Entry) (readings : List Reading) (next new : Lines) (w : World) (text : List ℕ) (how : ReadAs) (room : ℕ) where
  -- the reading of so much of it
  abbrev pub line_stored : Reading
  line_stored = record { unit = units.Keys; line = lines_handed_out next; text = text; how = how; room = room }

  numbered_so : (earlier : List Reading) (gone : unit.Unit → ℕ) → AreNumbered (earlier ++ line_taken next text ∷ []) gone → AreNumbered (earlier ++ line_stored ∷ []) gone
  unfolding AreNumbered
  numbered_so [] gone are = (are.0, tt)
  numbered_so (r ∷ more) gone are = (are.0, numbered_so more (with_line r.unit gone) are.1)

  stored_so : HasReadLinesBy start (readings ++ line_taken next text ∷ []) next w → HasReadLinesBy start (readings ++ line_stored ∷ []) (record next { bad = with_bad (bad_in line_stored) next.bad }) w
  unfolding bad_from
  stored_so by =
      let earlier = All-pop IsOfKeys (readings ++ line_taken next text ∷ []) readings (Some (line_taken next text)) refl by.of_keys in
      record {
        unit = by.unit;
        turn = by.turn;
        of_keys = All-push IsOfKeys readings line_stored earlier.0 refl;
        numbered = numbered_so readings no_lines by.numbered;
        read = by.read ∙ sym (one_counted readings (line_taken next text)) ∙ one_counted readings line_stored;
        tallied = ap (λ (t : Tally). with_bad (bad_in line_stored) t) (by.tallied ∙ sym (tally_same readings (line_taken next text) refl)) ∙ tally_more readings line_stored;
        all = subst (λ (es : List Entry). IfSome (keys_left next w) (λ left. start ≡ es ++ left)) (map-append entry_read readings (line_taken next text ∷ []) ∙ sym (map-append entry_read readings (line_stored ∷ []))) by.all;
      }

  pub reading_stored : new ≡ with_bad_stored how (take room text) next → HasReadLinesBy start (readings ++ line_taken next text ∷ []) next w → HasReadLinesBy start (readings ++ line_stored ∷ []) new w
  reading_stored is by =
      let of_keys : with_bad_stored how (take room text) next ≡ record next { bad = with_bad (bad_in line_stored) next.bad } = ap (λ (u : unit.Unit). record next { bad = with_bad (bad_from u (lines_handed_out next) how 1 (take room text)) next.bad }) by.unit in
      subst (λ (k : Lines). HasReadLinesBy start (readings ++ line_stored ∷ []) k w) (sym (is ∙ of_keys)) (stored_so by)

-- the tally stays where none of some is bad
pub none_taken_up : (k : Lines) (bad : List BadCharacter) → bad ≡ [] → k ≡ record k { bad = with_bad bad k.bad }
unfolding with_bad
none_taken_up k bad none = ap (λ (some : List BadCharacter). record k { bad = with_bad some k.bad }) (sym none)

-- a keyboard that has read nothing
pub begins : (k : Lines) → unit_of k ≡ units.Keys → ((w : World) → IsInTurn k w) → lines_handed_out k ≡ 0 → lines_tally k ≡ no_bad → IsNewKeyboard k
unfolding AreNumbered
begins k unit_is turn read bad = λ start w all. record {
  readings = [];
  by = record { unit = unit_is; turn = turn w; of_keys = All-nil IsOfKeys; numbered = tt; read = read; tallied = bad; all = all };
}
