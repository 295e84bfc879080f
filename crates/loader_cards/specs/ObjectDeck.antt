-- The cards of a program, and their effect, by the form of its deck.
use Rattle.std.specs.Prelude.{ℕ, ◌≡◌, List, length, map}
use Rattle.card_code.specs.declared.Card.{Card}
use Rattle.sps_pass_two.specs.Image.{DigitRun}
use Rattle.sps_pass_two.specs.declared.assembled.Assembled.{Assembled}
use Rattle.deck_punch.specs.Deck.{deck, self_loading_steps}
use Rattle.deck_punch.specs.Dense.{dense_deck, dense_steps}
use Rattle.deck_punch.specs.declared.form.DeckForm.{DeckForm}
use Rattle.deck_punch.specs.declared.form.DeckForm.TheVariants.{SelfLoading, Dense}
use Rattle.loader_cards.specs.Loads.{Loads}
use Rattle.card_columns.specs.Types.{card_bytes}

-- the deck of an image and a start
abbrev pub deck_in : DeckForm → List DigitRun → ℕ → List (List ℕ)
deck_in SelfLoading image start = deck image start
deck_in Dense image start = dense_deck image start

-- how many steps a deck with this number of cards takes
abbrev pub deck_steps : DeckForm → ℕ → ℕ
deck_steps SelfLoading cards = self_loading_steps cards
deck_steps Dense cards = dense_steps cards

-- the least number of cards that a deck has
abbrev pub fewest_in : DeckForm → ℕ
fewest_in SelfLoading = 1
fewest_in Dense = 3

-- the cards are the deck of the program's image and start
abbrev pub AreDeckOf : DeckForm → Assembled → List Card → Type 0
AreDeckOf form program cards = map card_bytes cards ≡ deck_in form program.image.pieces program.start

-- the cards load the program's image and enter its start, in the steps of their form
abbrev pub LoadAndEnter : DeckForm → Assembled → List Card → Type 0
LoadAndEnter form program cards =
    Loads (map card_bytes cards) program.image.pieces program.start (deck_steps form (length cards))
