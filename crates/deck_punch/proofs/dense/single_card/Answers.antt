use Rattle.std.proofs.Common.{refl}
use Rattle.deck_punch.specs.Dense.{dense_digits}
use Rattle.deck_punch.proofs.dense.single_card.Goals as goal

pub returns : goal.returns
unfolding dense_digits
returns c = rw (c.card.ensures, c.digit-3.ensures, c.digit-2.ensures, c.zeros.ensures, c.digit.ensures, c.address-2.ensures, c.address.ensures, c.new-columns.ensures) refl
