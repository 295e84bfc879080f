use Rattle.std.proofs.Common.{refl, arith}
use Rattle.card_unit.proofs.Piles.{some_left}
use Rattle.card_unit.proofs.pile.Pile.more.Goals as goal

pub returns-then-gone-len-clause-entry : goal.returns-then-gone-len-clause-entry
returns-then-gone-len-clause-entry g c = rw c.in-Cards.is (refl, some_left c.in-Cards.cards.items c.in-Cards.gone (omega arith))
