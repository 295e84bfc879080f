-- A card that is lent is the card that is taken.
use Rattle.std.proofs.Common.{rules}
use Rattle.card_unit.proofs.Piles.{filled_whole}
use Rattle.card_unit.proofs.front.Front.to_card.Goals as goal

pub returns-in-Card : goal.returns-in-Card
returns-in-Card c = rw c.in-Card.is (filled_whole c.in-Card.card.0 (search rules))
