-- A field that moves whole is moved by a copy.
use Rattle.std.proofs.Common.{arith}
use Rattle.field_moves.proofs.Wholes.{field_copied}
use Rattle.field_moves.proofs.long_field.Goals as goal

pub returns-in-Some : goal.returns-in-Some
returns-in-Some g c =
    let l = c.size_law.ensures.length in
    field_copied c.args.core.now c.copy_cells.new.self c.args.p c.args.q c.in-Some.n (omega arith) c.in-Some.ensures c.copy_cells.ensures
