-- A whole word, or a part of each of two.
use Rattle.std.proofs.Common.{◌≡◌, ◌+◌, ◌*◌, arith}
use Rattle.digit_core.proofs.Core.ten_of.Goals as goal

pub returns-then-j-eq0-clause-cells : goal.returns-then-j-eq0-clause-cells
returns-then-j-eq0-clause-cells g c = let at : 10 * c.args.i + c.args.j ≡ 10 * c.args.i = omega arith in rw at c.word.ensures.cells
