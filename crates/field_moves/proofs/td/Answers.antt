use Rattle.std.proofs.Common.{rules}
use Rattle.field_moves.proofs.td.Goals as goal

pub returns : goal.returns
returns g c = search rules
