use Rattle.std.proofs.Common.{rules}
use Rattle.cpu_step.proofs.ends.show_parity.Goals as goal

pub returns-then-at-eq0 : goal.returns-then-at-eq0
returns-then-at-eq0 c = search rules

pub returns-else-at-eq0 : goal.returns-else-at-eq0
returns-else-at-eq0 c = search rules
