-- The highest cell's flag is turned round alone.
use Rattle.table_arith.proofs.WordCells.{others_stay}
use Rattle.table_arith.proofs.words.with_sign.Goals as goal

pub returns-then-minus-clause-others : goal.returns-then-minus-clause-others
returns-then-minus-clause-others c = others_stay c.args.digits
