-- What a hopper has read, once so much of its card was stored.
use Rattle.std.proofs.Common.{◌≡◌, ℕ, zero, suc, ◌+◌, ◌-◌, false, List, [], ◌∷◌, ◌++◌, length, take, replicate, refl, sym, ◌∙◌, ap, subst}
use Rattle.std.proofs.lemmas.List.{map-append}
use Rattle.std.specs.Prelude.{IfSome, IfOk, Result, Ok, Err, ⊤, if◌then◌else◌}
use Rattle.outside_io.specs.declared.host.Unit as unit
use Rattle.outside_io.specs.declared.host.Unit.TheVariants as units
use Rattle.outside_io.specs.World.{World}
use Rattle.indicators.specs.declared.Panel.{Panel}
use Rattle.addr_indirect.specs.declared.Stop.{Stop}
use Rattle.traces.specs.Change.{Changed}
use Rattle.card_code.specs.Characters.{digit_in}
use Rattle.card_code.specs.Pairs.{pair_in}
use Rattle.card_code.specs.Entries.{Entry, text_as_card}
use Rattle.card_code.specs.TextIn.{store_digits, store_pairs}
use Rattle.card_code.specs.declared.tally.ReadAs.{ReadAs}
use Rattle.card_code.specs.declared.tally.ReadAs.TheVariants as as_read
use Rattle.card_code.specs.declared.tally.BadCharacter.{BadCharacter}
use Rattle.card_code.specs.Readings.{Reading, is_bad, bad_from, bad_in, with_bad, no_lines, with_line, lines_after, AreNumbered, entry_read}
use Rattle.card_code.proofs.GoodStored.{no_bad_digit, no_bad_pair, none_in_first}
use Rattle.card_code.proofs.OneMore.{tally_more, tally_same, lines_after_more}
use Rattle.card_unit.specs.declared.hopper.Hopper.{Hopper}
use Rattle.card_unit.specs.declared.reader.CardIo.{CardIo}
use Rattle.card_unit.specs.declared.reader.CardIo.TheVariants as io
use Rattle.card_unit.specs.Counts.{counted_cards}
use Rattle.card_unit.specs.Pile.{pile_left}
use Rattle.card_unit.specs.Hopper.{hopper_left, line_read, Start, AreToCome, HasReadCardsBy, HasReadCards, reading_of, ReadsOneMore}
use Rattle.card_unit.specs.CardCalls.{HasReadOneCard, HasReadCardAsSaid, card_stored_ending}
use Rattle.card_unit.proofs.ReadOn.{ahead_like, one_longer, none_stored}

-- a blank is good
good_blank : (how : ReadAs) → is_bad how 32 ≡ false
unfolding digit_in pair_in
good_blank as_read.Digit = refl
good_blank as_read.Pair = refl

module _ (u : unit.Unit) (line : ℕ) (how : ReadAs) where
  -- so no blank is bad
  blanks_good : (n k : ℕ) → bad_from u line how k (replicate n 32) ≡ []
  unfolding bad_from
  blanks_good zero k = refl
  blanks_good (suc n) k = rw (good_blank how) (blanks_good n (k + 1))

  -- and of a text that is filled with blanks only its own characters may be
  filled_bad : (m : ℕ) (text : List ℕ) (n k : ℕ) → bad_from u line how k (take m (text ++ replicate n 32)) ≡ bad_from u line how k (take m text)
  unfolding bad_from
  filled_bad zero text n k = refl
  filled_bad (suc m) [] n k = none_in_first u line how (suc m) (replicate n 32) k (blanks_good n k)
  filled_bad (suc m) (c ∷ cs) n k =
      let bad : BadCharacter = record { unit = u; line = line; column = k; byte = c } in
      ap (λ (rest : List BadCharacter). if is_bad how c then bad ∷ rest else rest) (filled_bad m cs n (k + 1))

  -- so it is with a card
  card_bad : (m : ℕ) (card text : List ℕ) → card ≡ text_as_card text → bad_from u line how 1 (take m card) ≡ bad_from u line how 1 (take m text)
  card_bad m card text is = ap (λ (cs : List ℕ). bad_from u line how 1 (take m cs)) is ∙ filled_bad m text (80 - length text) 1

-- Of a card that was stored whole while 06 is off, no character is bad.
module _ (u : unit.Unit) (core new : List ℕ) (panel new_panel : Panel) (n a line room : ℕ) (card : List ℕ) where
  pub digits_good : (answer : Result ⊤ Stop) → Changed core panel (store_digits n a card) new new_panel answer
      → IfOk answer (λ done. new_panel.read_check ≡ false → bad_from u line as_read.Digit 1 (take room card) ≡ [])
  digits_good (Ok done) changed = λ off. none_in_first u line as_read.Digit room card 1 (no_bad_digit u line core new panel new_panel n a card off 1 changed)
  digits_good (Err why) changed = tt

  pub pairs_good : (answer : Result ⊤ Stop) → Changed core panel (store_pairs n a card) new new_panel answer
      → IfOk answer (λ done. new_panel.read_check ≡ false → bad_from u line as_read.Pair 1 (take room card) ≡ [])
  pairs_good (Ok done) changed = λ off. none_in_first u line as_read.Pair room card 1 (no_bad_pair u line core new panel new_panel n a card off 1 changed)
  pairs_good (Err why) changed = tt

-- the tally stays where none of some is bad
pub none_taken_up : (h : Hopper) (bad : List BadCharacter) → bad ≡ [] → h ≡ record h { bad = with_bad bad h.bad }
unfolding with_bad
none_taken_up h bad none = ap (λ (some : List BadCharacter). record h { bad = with_bad some h.bad }) (sym none)

-- A card that was taken is stored.
module _ (start : Start) (readings : List Reading) (next new : Hopper) (w : World) (text : List ℕ) (how : ReadAs) (room : ℕ) where
  -- the reading of so much of it
  abbrev card_stored : Reading
  card_stored = record { unit = next.from; line = line_read next; text = text; how = how; room = room }

  numbered_so : (earlier : List Reading) (gone : unit.Unit → ℕ) → AreNumbered (earlier ++ reading_of next text ∷ []) gone → AreNumbered (earlier ++ card_stored ∷ []) gone
  unfolding AreNumbered
  numbered_so [] gone are = (are.0, tt)
  numbered_so (r ∷ more) gone are = (are.0, numbered_so more (with_line r.unit gone) are.1)

  lines_so : (u : unit.Unit) → lines_after (readings ++ reading_of next text ∷ []) no_lines u ≡ lines_after (readings ++ card_stored ∷ []) no_lines u
  lines_so u = lines_after_more readings (reading_of next text) no_lines u ∙ sym (lines_after_more readings card_stored no_lines u)

  length_so : length (readings ++ reading_of next text ∷ []) ≡ length (readings ++ card_stored ∷ [])
  length_so = one_longer readings (reading_of next text) ∙ sym (one_longer readings card_stored)

  stored_so : HasReadCardsBy start (readings ++ reading_of next text ∷ []) next w → HasReadCardsBy start (readings ++ card_stored ∷ []) (record next { bad = with_bad (bad_in card_stored) next.bad }) w
  stored_so by = record {
    ahead = ahead_like next (record next { bad = with_bad (bad_in card_stored) next.bad }) w refl refl refl by.ahead;
    numbered = numbered_so readings no_lines by.numbered;
    of_deck = by.of_deck ∙ lines_so units.Deck;
    of_data = by.of_data ∙ lines_so units.Data;
    tallied = ap (with_bad (bad_in card_stored)) (by.tallied ∙ sym (tally_same readings (reading_of next text) (none_stored next text))) ∙ tally_more readings card_stored;
    all = subst (λ (es : List Entry). IfSome (hopper_left next w) (λ left. start.all ≡ es ++ left)) (map-append entry_read readings (reading_of next text ∷ []) ∙ sym (map-append entry_read readings (card_stored ∷ []))) by.all;
    count = subst (λ (n : ℕ). IfSome (hopper_left next w) (λ left. next.read ≡ counted_cards (length start.pile) n)) length_so by.count;
    from = by.from;
    to_come = subst (λ (n : ℕ). IfSome (pile_left next.pile w) (λ left. AreToCome next.front next.from (length left) (length start.pile - n))) length_so by.to_come;
  }

  -- its bad characters were taken up
  reading_stored : new ≡ record next { bad = with_bad (bad_in card_stored) next.bad } → HasReadCardsBy start (readings ++ reading_of next text ∷ []) next w → HasReadCardsBy start (readings ++ card_stored ∷ []) new w
  reading_stored is by = subst (λ (h : Hopper). HasReadCardsBy start (readings ++ card_stored ∷ []) h w) (sym is) (stored_so by)

module _ (how : ReadAs) (room : ℕ) where
  said_by : (start : Start) (readings : List Reading) (h : Hopper) (w : World) (answer : Result ⊤ Stop) (got : CardIo) → got ≡ card_stored_ending answer → HasReadOneCard how room start readings h w → HasReadCardAsSaid how room start readings h w got
  said_by start readings h w (Ok done) got ends one = subst (λ (x : CardIo). HasReadCardAsSaid how room start readings h w x) (sym ends) one
  said_by start readings h w (Err why) got ends one = subst (λ (x : CardIo). HasReadCardAsSaid how room start readings h w x) (sym ends) one

  -- a card that was taken is one reading more, with its bad characters
  pub card_said : (old next h : Hopper) (v w : World) (card : List ℕ) (space : ℕ) (answer : Result ⊤ Stop) (got : CardIo)
      → ((start : Start) (readings : List Reading) → HasReadCardsBy start readings old v → ReadsOneMore start readings next w card) → space ≡ room
      → h ≡ record next { bad = with_bad (bad_from next.from (line_read next) how 1 (take space card)) next.bad } → got ≡ card_stored_ending answer
      → (start : Start) (readings : List Reading) → HasReadCardsBy start readings old v → HasReadCardAsSaid how room start readings h w got
  card_said old next h v w card space answer got takes space_is is ends start readings had =
      let more = takes start readings had in
      let up : h ≡ record next { bad = with_bad (bad_from next.from (line_read next) how 1 (take space more.text)) next.bad } =
      is ∙ ap (λ (bad : List BadCharacter). record next { bad = with_bad bad next.bad }) (card_bad next.from (line_read next) how space card more.text more.filled) in
      said_by start readings h w answer got ends (card_stored start readings next h w more.text how space, refl, space_is, reading_stored start readings next h w more.text how space up more.by)

  has_read : (start : Start) (readings : List Reading) (h : Hopper) (w : World) (got : CardIo) → HasReadCardAsSaid how room start readings h w got → HasReadCards start h w
  has_read start readings h w io.Done said = record { readings = readings ++ said.0 ∷ []; by = said.3 }
  has_read start readings h w (io.Stop why) said = record { readings = readings ++ said.0 ∷ []; by = said.3 }
  has_read start readings h w io.Empty said = record { readings = readings; by = said }
  has_read start readings h w (io.Jam u n) said = record { readings = readings; by = said }
  has_read start readings h w io.Failed said = record { readings = readings; by = said }

  -- so it goes on with what it has read
  pub goes_on : (old h : Hopper) (v w : World) (got : CardIo) → ((start : Start) (readings : List Reading) → HasReadCardsBy start readings old v → HasReadCardAsSaid how room start readings h w got)
      → (start : Start) → HasReadCards start old v → HasReadCards start h w
  goes_on old h v w got said start read = has_read start read.readings h w got (said start read.readings read.by)
