use Rattle.std.proofs.Common.{rules}
use Rattle.table_arith.proofs.sums.turn_sign.Goals as goal

pub returns : goal.returns
returns c = search rules
