-- The cycles that are left do what all of them do.
use Rattle.feature_ops.specs.Feature.{fill_cycles}
use Rattle.feature_ops.proofs.Cycles.{FillGoing}
use Rattle.feature_ops.proofs.fill_digits.Given as goal

abbrev pub invariant-loop-i : goal.invariant-loop-i
invariant-loop-i g l = FillGoing l.core l.fn.core (fill_cycles l.fn.core l.pairs l.left) l.pairs l.left l.i
