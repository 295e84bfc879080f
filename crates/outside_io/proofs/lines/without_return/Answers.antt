use Rattle.std.proofs.Common.{rules}
use Rattle.outside_io.proofs.lines.without_return.Goals as goal

pub returns-then-text-len-eq13 : goal.returns-then-text-len-eq13
returns-then-text-len-eq13 c = search rules
