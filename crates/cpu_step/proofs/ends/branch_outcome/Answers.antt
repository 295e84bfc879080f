use Rattle.std.proofs.Common.{rules}
use Rattle.cpu_step.proofs.ends.branch_outcome.Goals as goal

pub returns-in-Ok : goal.returns-in-Ok
returns-in-Ok c = search rules
