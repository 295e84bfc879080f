-- The cycles that are left do what all of them do.
use Rattle.feature_ops.specs.Feature.{strip_cycles}
use Rattle.feature_ops.proofs.Cycles.{StripGoing}
use Rattle.feature_ops.proofs.strip_digits.Given as goal

abbrev pub invariant-loop-i : goal.invariant-loop-i
invariant-loop-i g l = StripGoing l.core l.fn.core (strip_cycles l.fn.core l.pairs l.left) l.pairs l.left l.i
