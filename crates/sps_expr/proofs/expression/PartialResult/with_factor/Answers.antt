use Rattle.std.proofs.Common.{rules}
use Rattle.sps_expr.proofs.expression.PartialResult.with_factor.Goals as goal

pub returns-else-mark-eq42 : goal.returns-else-mark-eq42
returns-else-mark-eq42 c = search rules

pub returns-then-mark-eq42 : goal.returns-then-mark-eq42
returns-then-mark-eq42 c = search rules
