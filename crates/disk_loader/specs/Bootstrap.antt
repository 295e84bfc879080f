-- The bootstrap deck: a card for each stretch, and the transfer card.
use Rattle.std.specs.Prelude.{ℕ, ◌*◌, ◌%◌, ◌==◌, List, [], ◌∷◌, ◌++◌, map, replicate, if◌then◌else◌}
use Rattle.digit_core.specs.declared.Digit.{Digit}
use Rattle.digit_core.specs.{unflagged_digit}
use Rattle.card_code.specs.Characters.{object_char}
use Rattle.sps_pass_two.specs.Image.{DigitRun}
use Rattle.card_columns.specs.Orders.{address, at_place, instruction_columns}
use Rattle.deck_punch.specs.Cards.{read_and_go, transfer_card}
use Rattle.disk_loader.specs.declared.deck.Stretch.{Stretch}
use Rattle.deck_punch.specs.declared.cards.TheConstants.{READ_NUMERICALLY}
use Rattle.disk_loader.specs.declared.deck.TheConstants.{CONTROL, FIELD, SEEK, READ_SECTORS}
use Rattle.disk_loader.specs.Stretches.{stretches}

-- the three digits of a count, and the digits after them
abbrev pub three : ℕ → List Digit → List Digit
three c ds = at_place 100 c ∷ at_place 10 c ∷ unflagged_digit (c % 10) ∷ ds

-- a control field of the disk: drive, sector, count, core address, and the digits after it
abbrev pub control_field_of : ℕ → ℕ → ℕ → ℕ → List Digit → List Digit
control_field_of drive sector count a ds = unflagged_digit drive ∷ address sector (three count (address a ds))

-- the card of a stretch: the arm of drive 1 seeks, the sectors are read to their hundreds, the next card is read over this one, and
-- the machine goes on there; the control field for the seek and the read follows the four instructions
unfoldable pub stretch_digits : Stretch → List Digit
stretch_digits s =
    instruction_columns CONTROL FIELD SEEK
    (instruction_columns READ_NUMERICALLY FIELD READ_SECTORS
    (read_and_go (control_field_of 1 s.from s.count (100 * s.from) (replicate 18 (unflagged_digit 0)))))

abbrev pub stretch_card : Stretch → List ℕ
stretch_card s = map object_char (stretch_digits s)

-- the card of a stretch that has ended; no card if it has no hundred
abbrev pub closed_cards : Stretch → List (List ℕ)
closed_cards s = if s.count == 0 then [] else stretch_card s ∷ []

-- the deck of an image and a start
abbrev pub bootstrap : List DigitRun → ℕ → List (List ℕ)
bootstrap image start = map stretch_card (stretches image) ++ transfer_card start ∷ []
