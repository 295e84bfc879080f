use Rattle.std.proofs.Common.{arith}
use Rattle.typewriter.proofs.TensTyped.{ten_dumped_if}
use Rattle.typewriter.proofs.typing.dumped_ten.Goals as goal

pub returns-clause-is : goal.returns-clause-is
returns-clause-is g c = ten_dumped_if c.args.core.now c.args.a c.ten.result c.object_chars.result (omega (arith, c.size.ensures.length, c.size.ensures.size)) c.object_chars.ensures c.ten.ensures.cells
