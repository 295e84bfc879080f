use Rattle.std.proofs.Common.{rules}
use Rattle.field_moves.proofs.cf.Goals as goal

pub returns : goal.returns
returns g c = search rules
