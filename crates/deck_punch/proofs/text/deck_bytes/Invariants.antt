use Rattle.std.proofs.Common.{◌≡◌, map, take}
use Rattle.card_columns.specs.Types.{card_bytes}
use Rattle.deck_punch.specs.DeckText.{deck_text}
use Rattle.deck_punch.proofs.text.deck_bytes.Given as goal

abbrev pub invariant-loop-card : goal.invariant-loop-card
invariant-loop-card l = l.bytes.items ≡ deck_text (map card_bytes (take l.card-index l.cards))
