use Rattle.std.proofs.Common.{refl}
use Rattle.deck_punch.specs.Cards.{segment_digits}
use Rattle.deck_punch.proofs.cards.digit_card.Goals as goal

pub returns : goal.returns
unfolding segment_digits
returns c = rw (c.card.ensures, c.digit.ensures, c.zeros.ensures, c.read_and_go.ensures, c.order-2.ensures, c.order.ensures, c.new-columns.ensures) refl
