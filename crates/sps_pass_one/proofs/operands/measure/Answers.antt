use Rattle.sps_pass_one.specs.Measure.{measure}
use Rattle.sps_pass_one.proofs.Least.{least_four}
use Rattle.sps_pass_one.proofs.operands.measure.Goals as goal

pub returns-clause-worst : goal.returns-clause-worst
unfolding measure
returns-clause-worst c =
    least_four c.args.worst c.lacking_faults-worst.result c.answer_if-n.result.worst c.answer_if-k.result.worst c.answer_if-a.result.worst _ _ _ _ c.lacking_faults-worst.ensures c.answer_if-n.ensures.worst c.answer_if-k.ensures.worst c.answer_if-a.ensures.worst
