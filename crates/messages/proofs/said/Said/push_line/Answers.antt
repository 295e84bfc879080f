use Rattle.std.proofs.Common.{arith}
use Rattle.messages.proofs.Whole.{whole_end}
use Rattle.messages.proofs.said.Said.push_line.Goals as goal

pub invariant_of-self : goal.invariant_of-self
invariant_of-self c = record { whole = rw (c.push.ensures.ascii (omega arith)) (whole_end _) }
