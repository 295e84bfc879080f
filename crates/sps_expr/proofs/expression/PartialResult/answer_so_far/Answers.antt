use Rattle.std.proofs.Common.{rules}
use Rattle.sps_expr.proofs.expression.PartialResult.answer_so_far.Goals as goal

pub returns-then-self : goal.returns-then-self
returns-then-self c = search rules

pub returns-in-None : goal.returns-in-None
returns-in-None c = search rules
