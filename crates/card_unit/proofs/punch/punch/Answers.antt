use Rattle.std.proofs.Common.{rules}
use Rattle.card_unit.proofs.punch.punch.Goals as goal

pub returns : goal.returns
returns g c = search rules
