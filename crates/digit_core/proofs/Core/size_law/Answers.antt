-- Ten cells to each word.
use Rattle.std.proofs.Common.{arith}
use Rattle.digit_core.proofs.Sixes.{length_cells}
use Rattle.digit_core.proofs.Core.size_law.Goals as goal

pub returns-clause-length : goal.returns-clause-length
returns-clause-length g c =
    rw (← c.self.view_is, length_cells) (omega (arith, c.self.invariant.is_length))
