-- A whole word, or a part of each of two.
use Rattle.std.proofs.Common.{◌≡◌, ◌+◌, ◌*◌, arith}
use Rattle.digit_core.proofs.Core.ten.Goals as goal

pub returns-then-j-eq0-clause-cells : goal.returns-then-j-eq0-clause-cells
returns-then-j-eq0-clause-cells g c = let at : 10 * c.from-i.result ≡ c.args.a = omega arith in rw at at c.word.ensures.cells

pub returns-clause-cells : goal.returns-clause-cells
returns-clause-cells g c = let at : 10 * c.from-i.result + c.from-j.result ≡ c.args.a = omega arith in rw at at c.across.ensures.cells
