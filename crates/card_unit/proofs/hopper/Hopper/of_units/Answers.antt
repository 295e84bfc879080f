use Rattle.std.proofs.Common.{refl}
use Rattle.card_unit.proofs.ReadOn.{begins}
use Rattle.card_unit.proofs.hopper.Hopper.of_units.Goals as goal

pub returns-clause-begins : goal.returns-clause-begins
returns-clause-begins c = begins _ refl refl refl c.new-3.ensures c.new.ensures.turn c.new-2.ensures.turn
