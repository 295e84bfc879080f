-- The digits of every other cell, ten times those before them.
use Rattle.table_arith.proofs.WordNumbers.{pairs_are}
use Rattle.table_arith.proofs.words.pairs_within.Goals as goal

pub returns : goal.returns
returns c = pairs_are c.args.w
