use Rattle.std.proofs.Common.{rules}
use Rattle.card_code.proofs.storing.unflagged_digit.Goals as goal

pub returns-clause-is : goal.returns-clause-is
returns-clause-is c = search rules
