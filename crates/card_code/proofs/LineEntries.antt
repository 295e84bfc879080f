-- The lines that a reader has left, as entries.
use Rattle.std.proofs.Common.{◌≡◌, ℕ, ◌<◌, ◌≤◌, Bool, true, false, List, [], ◌∷◌, length, map, refl, sym, ◌∙◌, ap, arith}
use Rattle.std.proofs.lemmas.Bool.Decides.{nat_tests}
use Rattle.std.specs.Prelude.{Option, Some, None, option_map, IfSome, if◌then◌else◌, nat_lt}
use Rattle.outside_io.specs.declared.host.Unit as unit
use Rattle.outside_io.specs.World.{Seen, one_more}
use Rattle.card_code.specs.declared.lines.Lines.{Lines}
use Rattle.card_code.specs.declared.lines.LineAnswer.{LineAnswer}
use Rattle.card_code.specs.declared.lines.LineAnswer.TheVariants as answer
use Rattle.card_code.specs.declared.lines.More.{More}
use Rattle.card_code.specs.declared.lines.More.TheVariants as more
use Rattle.outside_io.specs.Lines.{behind_line, first_text, without_return}
use Rattle.card_code.specs.LineText.{text_of_line}
use Rattle.card_code.specs.Entries.{Entry, Text, Long, entry, entries, entries_of_unit, behind, has_none_left}
use Rattle.card_code.specs.Reader.{unit_of, lines_handed_out, lines_rest, entries_left, AsksUnit, Stays, NextLine, HasMore, Fronts, HasNone, HasSome, NextEntry, MoreEntries}
use Rattle.outside_io.proofs.WholeLines.{lines_of-front}

-- the entries of some bytes are the first line's and those of what stands behind it
entries_front : (u : unit.Unit) (n : ℕ) (bytes : List ℕ) → 0 < length bytes → entries_of_unit u n bytes ≡ entry u (one_more n) (first_text bytes) ∷ entries_of_unit u (one_more n) (behind_line bytes)
entries_front u n [] some = absurd (omega (arith, some))
entries_front u n (b ∷ bytes) some = ap (λ (lines : List (List ℕ)). entries u n (map without_return lines)) (lines_of-front b bytes)

-- a text that fits a card is its own entry
short_entry : (u : unit.Unit) (n : ℕ) (text : List ℕ) → length text ≤ 80 → entry u n text ≡ Text text
short_entry u n text short =
    let test : nat_lt 80 (length text) ≡ false = grind (arith, nat_tests) in
    ap (λ (t : Bool). if t then Long u n else Text text) test

-- a longer one is a jam
long_entry : (u : unit.Unit) (n : ℕ) (text : List ℕ) → 80 < length text → entry u n text ≡ Long u n
long_entry u n text long =
    let test : nat_lt 80 (length text) ≡ true = grind (arith, nat_tests) in
    ap (λ (t : Bool). if t then Long u n else Text text) test

-- Where the bytes are told, so are the entries.
module _ (u : unit.Unit) (n : ℕ) where
  -- the first text, where it fits a card, is the front entry
  front_told : (rest : Option (List ℕ)) (text : List ℕ) → IfSome rest (λ r. 0 < length r) → length text ≤ 80 → IfSome rest (λ r. text ≡ first_text r) → Fronts (Text text) (option_map (entries_of_unit u n) rest)
  front_told None text some short is = tt
  front_told (Some bytes) text some short is =
      let whole = entries_front u n bytes some in
      let first : entry u (one_more n) (first_text bytes) ≡ Text text = ap (entry u (one_more n)) (sym is) ∙ short_entry u (one_more n) text short in
      whole ∙ ap (λ (e : Entry). e ∷ entries_of_unit u (one_more n) (behind_line bytes)) first ∙ ap (λ (es : List Entry). Text text ∷ es) (sym (ap behind whole))

  -- what stands behind the first line is what stands behind the front entry
  behind_told : (rest : Option (List ℕ)) → IfSome rest (λ r. 0 < length r) → option_map (entries_of_unit u (one_more n)) (option_map behind_line rest) ≡ option_map behind (option_map (entries_of_unit u n) rest)
  behind_told None some = refl
  behind_told (Some bytes) some = ap (λ (es : List Entry). Some es) (sym (ap behind (entries_front u n bytes some)))

  -- a first text that is too long is a jam at the front
  jam_told : (rest : Option (List ℕ)) (number : ℕ) → number ≡ one_more n → IfSome rest (λ r. 80 < length (first_text r)) → Fronts (Long u number) (option_map (entries_of_unit u n) rest)
  jam_told None number is long = tt
  jam_told (Some []) number is long = absurd (omega (arith, long))
  jam_told (Some (b ∷ bytes)) number is long =
      let whole = entries_front u n (b ∷ bytes) (omega arith) in
      let first : entry u (one_more n) (first_text (b ∷ bytes)) ≡ Long u number = long_entry u (one_more n) (first_text (b ∷ bytes)) long ∙ ap (Long u) (sym is) in
      whole ∙ ap (λ (e : Entry). e ∷ entries_of_unit u (one_more n) (behind_line (b ∷ bytes))) first ∙ ap (λ (es : List Entry). Long u number ∷ es) (sym (ap behind whole))

  -- no byte is no entry
  none_told : (rest : Option (List ℕ)) → IfSome rest (λ r. r ≡ []) → HasNone (option_map (entries_of_unit u n) rest)
  none_told None none = tt
  none_told (Some bytes) none = ap (entries_of_unit u n) none

  -- some byte is some entry
  some_told : (rest : Option (List ℕ)) → IfSome rest (λ r. 0 < length r) → HasSome (option_map (entries_of_unit u n) rest)
  some_told None some = tt
  some_told (Some bytes) some = ap has_none_left (entries_front u n bytes some)

module _ (old new : Lines) (before after : Seen) where
  -- the entries by the unit, the number and the bytes that are left
  entries_by : (n : ℕ) (rest : Option (List ℕ)) → unit_of new ≡ unit_of old → lines_handed_out new ≡ n → lines_rest new after.world ≡ rest → entries_left new after.world ≡ option_map (entries_of_unit (unit_of old) n) rest
  entries_by n rest unit_is number_is rest_is =
      ap (λ (u : unit.Unit). option_map (entries_of_unit u (lines_handed_out new)) (lines_rest new after.world)) unit_is
      ∙ ap (λ (m : ℕ). option_map (entries_of_unit (unit_of old) m) (lines_rest new after.world)) number_is
      ∙ ap (λ (r : Option (List ℕ)). option_map (entries_of_unit (unit_of old) n) r) rest_is

  -- where nothing of the meaning changes, the entries stay
  stays_left : Stays old new before after → entries_left new after.world ≡ entries_left old before.world
  stays_left stays = entries_by (lines_handed_out old) (lines_rest old before.world) stays.moves.unit stays.number stays.rest

  -- what a reading of a line says in bytes, it says in entries
  pub next_entry : (got : LineAnswer) → NextLine old new before after got → NextEntry (unit_of old) (entries_left old before.world) (entries_left new after.world) before after got
  next_entry (answer.Line line) gives = (
    entries_by (one_more (lines_handed_out old)) (option_map behind_line (lines_rest old before.world)) gives.moves.unit gives.number gives.rest ∙ behind_told (unit_of old) (lines_handed_out old) (lines_rest old before.world) gives.some,
    front_told (unit_of old) (lines_handed_out old) (lines_rest old before.world) (text_of_line line) gives.some gives.short gives.is_text,
  )
  next_entry answer.End ended = (stays_left ended.stays, none_told (unit_of old) (lines_handed_out old) (lines_rest old before.world) ended.none)
  next_entry (answer.Jam number) jams = (stays_left jams.stays, jam_told (unit_of old) (lines_handed_out old) (lines_rest old before.world) number jams.number_is jams.long)
  next_entry answer.Failed fails = (stays_left fails.stays, fails.rose)

  -- and so does the look ahead
  pub more_entries : (got : More) → HasMore old new before after got → MoreEntries (entries_left old before.world) (entries_left new after.world) before after got
  more_entries more.Yes left = (stays_left left.stays, some_told (unit_of old) (lines_handed_out old) (lines_rest old before.world) left.some)
  more_entries more.No ended = (stays_left ended.stays, none_told (unit_of old) (lines_handed_out old) (lines_rest old before.world) ended.none)
  more_entries more.Failed fails = (stays_left fails.stays, fails.rose)

  -- bytes were taken from that unit alone
  pub next_moves : (got : LineAnswer) → NextLine old new before after got → AsksUnit old new before after
  next_moves (answer.Line line) gives = gives.moves
  next_moves answer.End ended = ended.stays.moves
  next_moves (answer.Jam number) jams = jams.stays.moves
  next_moves answer.Failed fails = fails.stays.moves

  -- by the look ahead too
  pub more_moves : (got : More) → HasMore old new before after got → AsksUnit old new before after
  more_moves more.Yes left = left.stays.moves
  more_moves more.No ended = ended.stays.moves
  more_moves more.Failed fails = fails.stays.moves
