-- The cards of the object deck, as digits and as texts.
use Rattle.std.specs.Prelude.{ℕ, suc, Bool, true, ◌+◌, ◌-◌, List, [], ◌∷◌, ◌++◌, length, map, replicate, if◌then◌else◌}
use Rattle.digit_core.specs.declared.Digit.{Digit}
use Rattle.digit_core.specs.Cell.{unflagged_digit, with_flag}
use Rattle.card_code.specs.Characters.{object_char}
use Rattle.sps_pass_two.specs.Image.{DigitRun}
use Rattle.deck_punch.specs.declared.cards.TheConstants.{TRANSMIT_DIGIT, TRANSMIT_FIELD, CLEAR_FLAG, READ_NUMERICALLY, NO_OPERATION, BRANCH, LAST_COLUMN, CARD_READER}
use Rattle.deck_punch.specs.Cut.{SEGMENT_DIGITS}
use Rattle.card_columns.specs.Orders.{instruction_columns}

-- the two instructions in 00024 to 00047 of a segment's card: read the next card into 00000 to 00079, and go on at 00000
abbrev pub read_and_go : List Digit → List Digit
read_and_go ds = instruction_columns READ_NUMERICALLY 0 CARD_READER (instruction_columns BRANCH 0 0 ds)

-- digits right-adjusted to the end of the card
abbrev pub right_part : List Digit → List Digit
right_part ds = replicate (SEGMENT_DIGITS - length ds) (unflagged_digit 0) ++ ds

-- the instruction in 00012 to 00023 of the card of two digits or more: it clears the lowest digit's flag unless the image has it
abbrev pub unflagging : Bool → ℕ → List Digit → List Digit
unflagging flagged low ds = if flagged then instruction_columns NO_OPERATION 0 0 ds else instruction_columns CLEAR_FLAG low 0 ds

-- the card of a segment at an address: one digit is copied, and two or more move as a field, whose lowest digit is flagged
unfoldable pub segment_digits : ℕ → List Digit → List Digit
segment_digits low [] = []
segment_digits low (d ∷ []) =
    instruction_columns TRANSMIT_DIGIT low LAST_COLUMN
    (instruction_columns NO_OPERATION 0 0 (read_and_go (right_part (d ∷ []))))
segment_digits low (d ∷ e ∷ ds) =
    instruction_columns TRANSMIT_FIELD (low + suc (length ds)) LAST_COLUMN
    (unflagging d.flag low (read_and_go (right_part (with_flag true d ∷ e ∷ ds))))

-- the transfer card: a jump to the start, and at 00036, at which the card before goes on, a jump to that jump
unfoldable pub transfer_digits : ℕ → List Digit
transfer_digits start =
    instruction_columns BRANCH start 0 (replicate 24 (unflagged_digit 0) ++ instruction_columns BRANCH 0 0 (replicate SEGMENT_DIGITS (unflagged_digit 0)))

-- a card's text has an object character for each digit
abbrev pub card_of : DigitRun → List ℕ
card_of segment = map object_char (segment_digits segment.from segment.digits)

abbrev pub transfer_card : ℕ → List ℕ
transfer_card start = map object_char (transfer_digits start)
