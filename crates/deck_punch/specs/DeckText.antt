-- The text of a deck.
use Rattle.std.specs.Prelude.{ℕ, List}
use Rattle.std.specs.List.{flat_map}
use Rattle.outside_io.specs.Lines.{with_line_feed}

-- a line for each card
abbrev pub deck_text : List (List ℕ) → List ℕ
deck_text cards = flat_map with_line_feed cards
