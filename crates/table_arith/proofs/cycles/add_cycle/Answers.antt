use Rattle.std.proofs.Common.{tests, rules}
use Rattle.table_arith.proofs.cycles.add_cycle.Goals as goal

pub returns-clause-is : goal.returns-clause-is
unfolding Rattle.table_arith.specs.Cycle.add_cycle
returns-clause-is c = search (tests, rules)
