-- The cards of a program on disk, and their effect.
use Rattle.std.specs.Prelude.{ℕ, ◌≡◌, List, length, map}
use Rattle.card_code.specs.declared.Card.{Card}
use Rattle.sps_pass_two.specs.declared.assembled.Assembled.{Assembled}
use Rattle.deck_punch.specs.Deck.{self_loading_steps}
use Rattle.card_columns.specs.Types.{card_bytes}
use Rattle.disk_loader.specs.Bootstrap.{bootstrap}
use Rattle.disk_loader.specs.DiskLoads.{DiskLoads}

-- the cards are the bootstrap deck of the program's image and start
abbrev pub AreBootstrapOf : Assembled → List Card → Type 0
AreBootstrapOf program cards = map card_bytes cards ≡ bootstrap program.image.pieces program.start

-- how many steps a deck with this number of cards takes: four for each card except the last, and one for that card
abbrev pub boot_steps : ℕ → ℕ
boot_steps cards = self_loading_steps cards

-- the cards load the program's image from its sectors and enter its start, in `boot_steps` steps
abbrev pub LoadFromDisk : Assembled → List Card → Type 0
LoadFromDisk program cards =
    DiskLoads (map card_bytes cards) program.image.pieces program.start (boot_steps (length cards))
