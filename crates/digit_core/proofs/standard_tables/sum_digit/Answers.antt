use Rattle.std.proofs.Common.{rules}
use Rattle.digit_core.proofs.standard_tables.sum_digit.Goals as goal

pub returns-clause-is : goal.returns-clause-is
returns-clause-is c = search rules
