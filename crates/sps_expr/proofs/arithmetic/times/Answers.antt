use Rattle.std.proofs.Common.{rules}
use Rattle.sps_expr.proofs.arithmetic.times.Goals as goal

pub returns : goal.returns
returns c = search rules
