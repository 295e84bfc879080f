-- The flags of the units and of the leftmost digit, and none between.
use Rattle.table_arith.proofs.WordCells.{field_stands}
use Rattle.table_arith.proofs.words.field_cells.Goals as goal

pub returns : goal.returns
returns c =
    field_stands c.digit_cells-digits.result c.with_sign-signed.result c.args.magnitude c.args.n c.args.minus c.requires.two c.requires.ten c.digit_cells-digits.ensures.digits c.with_sign-signed.ensures.units c.with_sign-signed.ensures.others
