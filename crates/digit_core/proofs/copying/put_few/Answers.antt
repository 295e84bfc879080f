-- In one piece, or in two.
use Rattle.std.proofs.Common.{◌≡◌, ◌∙◌, ◌+◌, ◌-◌, ◌*◌, ◌/◌, arith}
use Rattle.digit_core.specs.Packed.{cells_of}
use Rattle.digit_core.proofs.Writing.{written_two}
use Rattle.digit_core.proofs.copying.put_few.Goals as goal

pub returns-then-j-n-le10-clause-cells : goal.returns-then-j-n-le10-clause-cells
returns-then-j-n-le10-clause-cells c =
    let at : 10 * (c.args.a / 10) + c.from-j.result ≡ c.args.a = omega arith in
    rw at at c.put_part.ensures.cells

pub returns-else-j-n-le10-clause-cells : goal.returns-else-j-n-le10-clause-cells
returns-else-j-n-le10-clause-cells c =
    let at_first : 10 * (c.args.a / 10) + c.from-j.result ≡ c.args.a = omega arith in
    let first = rw at_first at c.put_part-else-j-n-le10.ensures.cells in
    let at_second : 10 * (c.args.a / 10 + 1) + 0 ≡ c.args.a + (10 - c.from-j.result) = omega arith in
    let all : 10 - c.from-j.result + (c.args.n - (10 - c.from-j.result)) ≡ c.args.n = omega arith in
    let second = rw (at_second, first) at c.put_part-else-j-n-le10-2.ensures.cells in
    let two = written_two (cells_of c.args.words.now) c.args.a (10 - c.from-j.result) (c.args.n - (10 - c.from-j.result)) c.args.w in
    second ∙ (rw all at two)
