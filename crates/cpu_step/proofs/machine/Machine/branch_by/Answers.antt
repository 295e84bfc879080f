-- What the branch left is what its row does.
use Rattle.std.proofs.Common.{refl}
use Rattle.cpu_step.proofs.Parts.{branch_acts}
use Rattle.cpu_step.proofs.machine.Machine.branch_by.Goals as goal

pub returns : goal.returns
returns g c = λ now. rw c.branch_outcome.ensures (branch_acts g.row.M c.args.self.now _ now refl refl refl refl refl c.args.op c.args.o c.branch_known-answer.new.regs c.branch_known-answer.result c.branch_known-answer.ensures.row)
