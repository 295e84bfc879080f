-- The cycles that are left do what the whole does.
use Rattle.std.proofs.Common.{◌≤◌, ◌*◌, ◌≡◌, length}
use Rattle.digit_core.specs.Size.{size}
use Rattle.traces.specs.Stored.{Rest}
use Rattle.feature_ops.specs.Feature.{fill, fill_cycles}
use Rattle.feature_ops.proofs.fill.Given as goal

abbrev pub invariant-loop-olds : goal.invariant-loop-olds
invariant-loop-olds g l = record {
  long : length l.core ≡ size g.row.M;
  pairs : 2 * l.pairs ≤ l.p;
  left : l.left ≤ l.q;
  some : 1 ≤ l.whole;
  most : l.whole ≤ 5;
  going : Rest l.core (fill_cycles l.core l.pairs l.left) l.fn.core (fill l.fn.core l.p l.q);
}

abbrev pub decreases-loop-olds : goal.decreases-loop-olds
decreases-loop-olds g l = l.left
