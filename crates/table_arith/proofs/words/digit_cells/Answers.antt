-- Each pair gives two digits.
use Rattle.table_arith.proofs.WordCells.{digits_stand}
use Rattle.table_arith.proofs.words.digit_cells.Goals as goal

pub returns-clause-digits : goal.returns-clause-digits
returns-clause-digits c =
    digits_stand _ _ _ _ _ c.pair_cells-c0.ensures.small c.pair_cells-c1.ensures.small c.pair_cells-c2.ensures.small c.pair_cells-c3.ensures.small c.pair_cells-c4.ensures.small c.args.magnitude c.requires
    c.pair_cells-c0.ensures.tens c.pair_cells-c0.ensures.units
    c.pair_cells-c1.ensures.tens c.pair_cells-c1.ensures.units
    c.pair_cells-c2.ensures.tens c.pair_cells-c2.ensures.units
    c.pair_cells-c3.ensures.tens c.pair_cells-c3.ensures.units
    c.pair_cells-c4.ensures.tens c.pair_cells-c4.ensures.units
