-- The cells of the number's digits are written at once.
use Rattle.std.proofs.Common.{arith}
use Rattle.table_arith.proofs.FieldWords.{number_written, number_good}
use Rattle.table_arith.proofs.numbers.store_number.Goals as goal

pub returns : goal.returns
returns g c =
    let l = c.size_law.ensures.length in
    rw c.put_field.ensures
    (number_written c.args.core.now c.args.p c.args.n c.field_cells-cells.result c.args.magnitude c.args.minus (omega arith) c.requires.n c.field_cells-cells.ensures)

-- core stays as sound as it was
pub put_field-requires : goal.put_field-requires
put_field-requires g c =
    let l = c.size_law.ensures.length in
    (omega arith, (omega arith, (c.requires.ten, (omega arith, λ sound. number_good c.args.n c.field_cells-cells.result c.args.magnitude c.args.minus c.field_cells-cells.ensures))))
