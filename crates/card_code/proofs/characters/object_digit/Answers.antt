use Rattle.std.proofs.Common.{rules}
use Rattle.card_code.proofs.DigitTables.{object_found, object_good}
use Rattle.card_code.proofs.characters.object_digit.Goals as goal

pub returns-clause-is : goal.returns-clause-is
returns-clause-is c = object_found c.args.c c.digit_entry.result (search rules) c.digit_entry.ensures

pub returns-clause-good : goal.returns-clause-good
returns-clause-good c = object_good c.args.c c.digit_entry.result (search rules) c.digit_entry.ensures
