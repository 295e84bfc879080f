-- What a card means.
use Rattle.std.specs.Prelude.{ℕ, List}
use Rattle.card_code.specs.declared.Card.{Card}

-- the text of a card
abbrev pub card_bytes : Card → List ℕ
card_bytes card = card.0
