use Rattle.std.proofs.Common.{rules}
use Rattle.sps_ops.proofs.table.lookup.Goals as goal

pub returns-clause-is : goal.returns-clause-is
returns-clause-is c = search rules
