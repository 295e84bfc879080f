use Rattle.std.proofs.Common.{rules}
use Rattle.operator_script.proofs.turns.is_due.Goals as goal

pub returns-in-At : goal.returns-in-At
returns-in-At c = search rules
