-- The two parts do not meet.
use Rattle.std.proofs.Common.{arith, refl}
use Rattle.digit_core.proofs.Tens.{ten_is, ten_below}
use Rattle.digit_core.proofs.copying.ten_across.Goals as goal

pub overflow_add-result : goal.overflow_add-result
overflow_add-result c =
    omega (arith, ten_is c.args.low c.args.high c.args.j c.requires.word c.requires.place, ten_below c.args.low c.args.high c.args.j c.requires.word c.requires.place)

pub returns-clause-word : goal.returns-clause-word
returns-clause-word c =
    omega (arith, ten_is c.args.low c.args.high c.args.j c.requires.word c.requires.place, ten_below c.args.low c.args.high c.args.j c.requires.word c.requires.place)

pub returns-clause-is : goal.returns-clause-is
returns-clause-is c = refl
