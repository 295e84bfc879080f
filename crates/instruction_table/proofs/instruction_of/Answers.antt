use Rattle.std.proofs.Common.{rules}
use Rattle.instruction_table.proofs.instruction_of.Goals as goal

pub returns : goal.returns
returns c = search rules
