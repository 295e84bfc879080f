use Rattle.std.proofs.Common.{rules}
use Rattle.outside_io.proofs.in_memory.mem.Calls.fails.Goals as goal

pub returns-then-listed-clause-listed : goal.returns-then-listed-clause-listed
returns-then-listed-clause-listed c = search rules
