use Rattle.std.proofs.lemmas.Grind.{common_steps}
use Rattle.std.proofs.Common.{rules, arith}
use Rattle.sps_scan.proofs.operands.dac_operands.Goals as goal

pub returns-in-len1-up-clause-count : goal.returns-in-len1-up-clause-count
returns-in-len1-up-clause-count c = search rules

pub returns-in-len1-up-clause-parts : goal.returns-in-len1-up-clause-parts
returns-in-len1-up-clause-parts c = grind (arith, common_steps)

pub returns-in-len1-up-clause-remark : goal.returns-in-len1-up-clause-remark
returns-in-len1-up-clause-remark c = grind (arith, common_steps)

pub returns-in_default-behind-clause-parts : goal.returns-in_default-behind-clause-parts
returns-in_default-behind-clause-parts c = grind (arith, common_steps)

pub returns-in_default-behind-clause-count : goal.returns-in_default-behind-clause-count
returns-in_default-behind-clause-count c = grind (arith, common_steps)

pub returns-in_default-behind-clause-remark : goal.returns-in_default-behind-clause-remark
returns-in_default-behind-clause-remark c = grind (arith, common_steps)
