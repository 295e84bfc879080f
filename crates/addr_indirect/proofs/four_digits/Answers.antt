use Rattle.std.proofs.Common.{rules}
use Rattle.addr_indirect.proofs.four_digits.Goals as goal

pub returns-in_err-b-clause-is : goal.returns-in_err-b-clause-is
unfolding Rattle.addr_indirect.specs.Operand.number_down
returns-in_err-b-clause-is c = search rules

pub returns-in_err-d-clause-is : goal.returns-in_err-d-clause-is
unfolding Rattle.addr_indirect.specs.Operand.number_down
returns-in_err-d-clause-is c = search rules

pub returns-clause-is : goal.returns-clause-is
unfolding Rattle.addr_indirect.specs.Operand.number_down
returns-clause-is c = search rules
