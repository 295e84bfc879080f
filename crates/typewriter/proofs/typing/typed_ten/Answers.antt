use Rattle.std.proofs.Common.{refl, arith}
use Rattle.typewriter.proofs.TensTyped.{ten_typed_if}
use Rattle.typewriter.proofs.typing.typed_ten.Goals as goal

pub returns-in-None-clause-is : goal.returns-in-None-clause-is
returns-in-None-clause-is g c =
    ten_typed_if c.args.core.now c.args.a c.ten-w.result c.object_chars.result (omega (arith, c.size.ensures.length, c.size.ensures.size)) c.object_chars.ensures c.ten-w.ensures.cells (c.in-None.ensures.none refl)
