use Rattle.std.proofs.Common.{rules}
use Rattle.table_arith.proofs.passes.before_cycles.Goals as goal

pub returns : goal.returns
returns c = search rules
