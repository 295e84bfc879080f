use Rattle.std.proofs.Common.{rules}
use Rattle.sps_ops.proofs.table.two_digit_text.Goals as goal

pub returns : goal.returns
returns c = search rules
