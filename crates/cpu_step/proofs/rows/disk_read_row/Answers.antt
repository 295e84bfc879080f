use Rattle.std.proofs.Common.{rules}
use Rattle.cpu_step.proofs.rows.disk_read_row.Goals as goal

pub returns-in-3 : goal.returns-in-3
returns-in-3 c = search rules
