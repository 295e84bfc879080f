-- A whole word, or a part of each of two.
use Rattle.std.proofs.Common.{◌≡◌, ◌∙◌, ◌+◌, ◌-◌, ◌*◌, arith}
use Rattle.digit_core.specs.Packed.{cells_of}
use Rattle.digit_core.proofs.Writing.{written_two}
use Rattle.digit_core.proofs.copying.put_ten.Goals as goal

pub returns-then-j-eq0-clause-cells : goal.returns-then-j-eq0-clause-cells
returns-then-j-eq0-clause-cells c = let at : 10 * c.args.i + c.args.j ≡ 10 * c.args.i = omega arith in rw at c.put_word.ensures.cells

pub returns-clause-cells : goal.returns-clause-cells
returns-clause-cells c =
    let low = 10 - c.args.j in
    let at_second : 10 * (c.args.i + 1) + 0 ≡ 10 * c.args.i + c.args.j + (10 - c.args.j) = omega arith in
    let all : 10 - c.args.j + c.args.j ≡ 10 = omega arith in
    let second = rw (at_second, c.put_part.ensures.cells) at c.put_part-2.ensures.cells in
    let two = written_two (cells_of c.args.words.now) (10 * c.args.i + c.args.j) (10 - c.args.j) c.args.j c.args.w in
    second ∙ (rw all at two)
