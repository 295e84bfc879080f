use Rattle.std.proofs.Common.{rules}
use Rattle.table_arith.proofs.cycles.make_cycle.Goals as goal

pub returns-in_err-y-clause-is : goal.returns-in_err-y-clause-is
unfolding Rattle.table_arith.specs.Made.make_cycle
returns-in_err-y-clause-is c = search rules
