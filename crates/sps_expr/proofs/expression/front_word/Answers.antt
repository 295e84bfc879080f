use Rattle.std.proofs.lemmas.Grind.{common_steps}
use Rattle.std.proofs.Common.{arith}
use Rattle.sps_expr.proofs.expression.front_word.Goals as goal

pub returns-clause-word : goal.returns-clause-word
returns-clause-word c = grind (arith, common_steps)

pub returns-clause-rest : goal.returns-clause-rest
returns-clause-rest c = grind (arith, common_steps)
