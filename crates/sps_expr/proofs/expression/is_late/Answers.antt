use Rattle.std.proofs.Common.{rules}
use Rattle.sps_expr.proofs.expression.is_late.Goals as goal

pub returns-in-Some : goal.returns-in-Some
returns-in-Some c = search rules
