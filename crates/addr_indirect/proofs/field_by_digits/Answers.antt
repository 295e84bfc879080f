-- Its digits, one after another.
use Rattle.std.proofs.Common.{rules}
use Rattle.addr_indirect.proofs.field_by_digits.Goals as goal

pub returns-in_err-units : goal.returns-in_err-units
unfolding Rattle.addr_indirect.specs.Operand.field
returns-in_err-units g c = search rules

pub returns-in_err-above : goal.returns-in_err-above
unfolding Rattle.addr_indirect.specs.Operand.field
returns-in_err-above g c = search rules

pub returns : goal.returns
unfolding Rattle.addr_indirect.specs.Operand.field
returns g c = search rules
