use Rattle.std.proofs.Common.{rules}
use Rattle.card_code.proofs.PairTables.{pair_found, pair_good}
use Rattle.card_code.proofs.pairs.alpha_of.Goals as goal

pub returns-clause-is : goal.returns-clause-is
returns-clause-is c = pair_found c.args.c c.pair_entry.result (search rules) c.pair_entry.ensures

pub returns-clause-good : goal.returns-clause-good
returns-clause-good c = pair_good c.args.c c.pair_entry.result (search rules) c.pair_entry.ensures
