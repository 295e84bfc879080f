-- The object deck that loads itself.
use Rattle.std.specs.Prelude.{ℕ, ◌+◌, ◌*◌, ◌-◌, List, [], ◌∷◌, ◌++◌, map}
use Rattle.sps_pass_two.specs.Image.{DigitRun}
use Rattle.deck_punch.specs.Cut.{cut}
use Rattle.deck_punch.specs.Tables.{with_tables}
use Rattle.deck_punch.specs.Cards.{card_of, transfer_card}

-- the segments of a deck: the segments of the table piece, and then of the other pieces of the image
abbrev pub segments : List DigitRun → List DigitRun
segments image = cut (with_tables image)

-- a card for each segment of pieces
abbrev pub cards_of : List DigitRun → List (List ℕ)
cards_of pieces = map card_of (cut pieces)

-- the deck of an image and a start: a card for each segment, and the transfer card
abbrev pub deck : List DigitRun → ℕ → List (List ℕ)
deck image start = cards_of (with_tables image) ++ transfer_card start ∷ []

-- how many steps a deck with this number of cards takes: four for each card except the transfer card, and one for that card
abbrev pub self_loading_steps : ℕ → ℕ
self_loading_steps cards = 4 * (cards - 1) + 1
