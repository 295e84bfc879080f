-- The cells of all hundred numbers.
use Rattle.table_arith.proofs.WordCells.{tens_cell, units_cell, pair_small}
use Rattle.table_arith.proofs.words.pair_cells.Goals as goal

pub returns-clause-tens : goal.returns-clause-tens
returns-clause-tens c = tens_cell c.args.number c.requires

pub returns-clause-units : goal.returns-clause-units
returns-clause-units c = units_cell c.args.number c.requires

pub returns-clause-small : goal.returns-clause-small
returns-clause-small c = pair_small c.args.number c.requires
