use Rattle.std.proofs.Common.{sym, ◌∙◌, arith}
use Rattle.disk_1311.proofs.Numbers.{cap_small, cap_more, number_on, number_end}
use Rattle.disk_1311.proofs.control.number_of_digits.Goals as goal

pub overflow_mul-number : goal.overflow_mul-number
overflow_mul-number c = omega (arith, cap_small c.loop-digit.digit-index (omega arith))

pub overflow_add-number : goal.overflow_add-number
overflow_add-number c = omega (arith, cap_small c.loop-digit.digit-index (omega arith))

pub loop-digit-preserved : goal.loop-digit-preserved
loop-digit-preserved c = record {
  rest = rw c.from.ensures (sym (number_on c.loop-digit.number c.loop-digit.digit-index c.args.digits.now c.loop-digit-test.true) ∙ c.loop-digit.invariant.rest);
  small = cap_more c.loop-digit.digit-index c.loop-digit.number c.from.result c.loop-digit.invariant.small (omega arith);
}

pub returns : goal.returns
returns c = sym (number_end c.loop-digit.number c.loop-digit.digit-index c.args.digits.now (omega arith)) ∙ c.loop-digit.invariant.rest
