-- Decimal digits are digits.
use Rattle.std.proofs.Common.{arith}
use Rattle.digit_core.specs.Packed.{six}
use Rattle.digit_core.proofs.Planes.{six_lowest}
use Rattle.addr_indirect.proofs.Windows.{undecimal_bad}
use Rattle.addr_indirect.proofs.twelve.twelve_are_good.Goals as goal

pub returns-then-are_decimal-2-clause-yes : goal.returns-then-are_decimal-2-clause-yes
returns-then-are_decimal-2-clause-yes c =
    λ h.
    record {
      low_good = λ j below. undecimal_bad (six c.args.low j) (c.are_decimal.ensures.yes c.if-are_decimal.true j below (six_lowest j below));
      high_good = λ j below. undecimal_bad (six c.args.high j) (c.are_decimal-then-are_decimal.ensures.yes c.if-are_decimal-2.true j (omega arith) (c.ones_below-two.ensures.named j below));
    }
