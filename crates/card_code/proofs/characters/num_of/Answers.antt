use Rattle.std.proofs.Common.{rules}
use Rattle.card_code.proofs.DigitTables.{num_found, num_good}
use Rattle.card_code.proofs.characters.num_of.Goals as goal

pub returns-clause-is : goal.returns-clause-is
returns-clause-is c = num_found c.args.c c.digit_entry.result (search rules) c.digit_entry.ensures

pub returns-clause-good : goal.returns-clause-good
returns-clause-good c = num_good c.args.c c.digit_entry.result (search rules) c.digit_entry.ensures
