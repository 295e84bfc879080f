use Rattle.std.proofs.lemmas.Grind.{common_steps}
use Rattle.std.proofs.Common.{arith}
use Rattle.sps_scan.proofs.columns.split_comma.Goals as goal

pub returns-then-text-i-eq44-clause-behind : goal.returns-then-text-i-eq44-clause-behind
returns-then-text-i-eq44-clause-behind c = grind (arith, common_steps)
