-- Two pairs at a time.
use Rattle.table_arith.proofs.WordNumbers.{number_is}
use Rattle.table_arith.proofs.words.number_of_pairs.Goals as goal

pub returns : goal.returns
returns c = number_is c.args.pairs c.requires
