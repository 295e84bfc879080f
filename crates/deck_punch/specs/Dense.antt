-- The dense form of the object deck: a loader card that stays in core, and cards of up to 69 digits.
use Rattle.std.specs.Prelude.{ℕ, suc, true, false, ◌+◌, ◌*◌, ◌-◌, List, [], ◌∷◌, ◌++◌, length, map, replicate, position, Option, Some, None, option_map, if◌then◌else◌}
use Rattle.digit_core.specs.declared.Digit.{Digit}
use Rattle.digit_core.specs.Cell.{unflagged_digit, with_flag}
use Rattle.card_code.specs.Characters.{object_char}
use Rattle.sps_pass_two.specs.Image.{DigitRun}
use Rattle.card_columns.specs.Orders.{address, instruction_columns}
use Rattle.deck_punch.specs.Cards.{read_and_go, transfer_card}
use Rattle.deck_punch.specs.Cut.{SEGMENT_DIGITS, DENSE_DIGITS, cut_dense}
use Rattle.deck_punch.specs.Deck.{cards_of}
use Rattle.deck_punch.specs.Tables.{table_piece, other_pieces}
use Rattle.deck_punch.specs.declared.cards.TheConstants.{READ_NUMERICALLY, BRANCH, CARD_READER}
use Rattle.deck_punch.specs.declared.dense.TheConstants.{BUFFER_END, REPAIR_DIGIT}

-- A dense card is read into the buffer, 00100 to 00179. Then the field that ends at 00179 moves to its address, and the digit at
-- 00110 to the repair address. A move ends at a flag, so on the card only the leftmost digit has a flag, and the last may. Thus
-- the flag of one digit may differ from the image; the repair puts this digit right.

-- if no digit needs a repair, the digit at 00110 moves to itself
abbrev pub nowhere : ℕ
nowhere = REPAIR_DIGIT

-- a repair: the address, the digit that goes there, and the digits as the card has them
pub record Repair : Type 0 where
  pub at : ℕ
  pub digit : Digit
  pub punched : List Digit

-- a repair with one more digit in front on the card
abbrev pub behind_digit : Digit → Repair → Repair
behind_digit d r = record { at = r.at; digit = r.digit; punched = d ∷ r.punched }

-- the repair of the first digit with a flag, from address a on: it is punched without its flag
unfoldable pub first_flagged : ℕ → List Digit → Repair
first_flagged a [] = record { at = nowhere; digit = unflagged_digit 0; punched = [] }
first_flagged a (d ∷ ds) =
    if d.flag then record { at = a; digit = d; punched = with_flag false d ∷ ds }
    else behind_digit d (first_flagged (a + 1) ds)

-- the repair of a first digit and the digits after it: the first if it has no flag, else the first flagged one after it, if any
abbrev pub repair_of : ℕ → Digit → List Digit → Repair
repair_of low d ds = if d.flag then first_flagged (low + 1) ds else record { at = low; digit = d; punched = ds }

-- the repair of a segment's digits, from its lowest address on
abbrev pub repair : ℕ → List Digit → Repair
repair low [] = first_flagged low []
repair low (d ∷ ds) = repair_of low d ds

-- the digits of a repair on the card: its address and its digit
abbrev pub repair_digits : Repair → List Digit
repair_digits r = address r.at (r.digit ∷ [])

-- the digits as the card has them: the leftmost has a flag
abbrev pub digits_on_card : ℕ → List Digit → List Digit
digits_on_card low [] = []
digits_on_card low (d ∷ ds) = with_flag true d ∷ (repair_of low d ds).punched

-- the place of the digit to repair among a segment's digits
abbrev pub place_of_repair : List Digit → Option ℕ
place_of_repair [] = None
place_of_repair (d ∷ ds) = if d.flag then option_map (λ k. k + 1) (position (λ e. e.flag) ds) else Some 0

-- digits right-adjusted to the end of the card, after its first 11 columns
abbrev pub dense_part : List Digit → List Digit
dense_part ds = replicate (DENSE_DIGITS - length ds) (unflagged_digit 0) ++ ds

-- the card of a segment at an address: one digit is its own repair, and a field of two zeros moves to itself
unfoldable pub dense_digits : ℕ → List Digit → List Digit
dense_digits low [] = []
dense_digits low (d ∷ []) = address BUFFER_END (address low (d ∷ dense_part (with_flag true (unflagged_digit 0) ∷ unflagged_digit 0 ∷ [])))
dense_digits low (d ∷ e ∷ ds) =
    let repair = repair_of low d (e ∷ ds) in
    address (low + suc (length ds)) (address repair.at (repair.digit ∷ dense_part (with_flag true d ∷ repair.punched)))

-- the P address of an instruction, an indirect one: the field that ends at 00100 + a has the address
abbrev pub indirect : ℕ → List Digit → List Digit
indirect a ds = unflagged_digit 0 ∷ unflagged_digit 0 ∷ unflagged_digit 1 ∷ unflagged_digit 0 ∷ with_flag true (unflagged_digit a) ∷ ds

-- the loader card: read a card into the buffer, move its field, move its repair digit, and go on
unfoldable pub loader_digits : List Digit
loader_digits =
    instruction_columns READ_NUMERICALLY 100 CARD_READER
    (unflagged_digit 2 ∷ unflagged_digit 6 ∷ indirect 4 (address BUFFER_END
    (unflagged_digit 2 ∷ unflagged_digit 5 ∷ indirect 9 (address REPAIR_DIGIT
    (instruction_columns BRANCH 0 0 (replicate SEGMENT_DIGITS (unflagged_digit 0)))))))

-- the bridge card: its field changes the loop's jump to 00112; there the buffer has a read into 00000 and a jump to 00000
unfoldable pub bridge_digits : List Digit
bridge_digits =
    address 42 (address REPAIR_DIGIT (unflagged_digit 0 ∷ unflagged_digit 0 ∷
    read_and_go
    (replicate 39 (unflagged_digit 0) ++ with_flag true (unflagged_digit 0) ∷ unflagged_digit 0 ∷ unflagged_digit 1 ∷ unflagged_digit 1 ∷ unflagged_digit 2 ∷ [])))

-- a card's text has an object character for each digit
abbrev pub dense_card_of : DigitRun → List ℕ
dense_card_of segment = map object_char (dense_digits segment.from segment.digits)

abbrev pub loader_card : List ℕ
loader_card = map object_char loader_digits

abbrev pub bridge_card : List ℕ
bridge_card = map object_char bridge_digits

-- a card for each dense segment of pieces
abbrev pub dense_cards_of : List DigitRun → List (List ℕ)
dense_cards_of pieces = map dense_card_of (cut_dense pieces)

-- the dense deck of an image and a start: the loader card, a card for each dense segment of the image's other pieces, the bridge card, and
-- then the self-loading cards of the table piece and the transfer card
abbrev pub dense_deck : List DigitRun → ℕ → List (List ℕ)
dense_deck image start =
    loader_card ∷ dense_cards_of (other_pieces image) ++ bridge_card ∷ cards_of (table_piece image ∷ []) ++ transfer_card start ∷ []

-- how many steps a dense deck with this number of cards takes: four for each card except the loader card and the transfer card,
-- two in the buffer after the bridge card, and one for the transfer card
abbrev pub dense_steps : ℕ → ℕ
dense_steps cards = 4 * cards - 5
