use Rattle.std.proofs.Common.{tests, rules}
use Rattle.table_arith.proofs.sums.overflows.Goals as goal

pub returns-then-not-complement : goal.returns-then-not-complement
returns-then-not-complement c = search (tests, rules)

pub returns-else-not-complement : goal.returns-else-not-complement
returns-else-not-complement c = search (tests, rules)
