-- The cycles that are left do what the whole does.
use Rattle.std.proofs.Common.{◌≤◌, ◌*◌, ◌≡◌, length}
use Rattle.digit_core.specs.Size.{size}
use Rattle.traces.specs.Stored.{Rest}
use Rattle.feature_ops.specs.Feature.{strip, strip_cycles}
use Rattle.feature_ops.proofs.strip.Given as goal

abbrev pub invariant-loop-turn : goal.invariant-loop-turn
invariant-loop-turn g l = record {
  long : length l.core ≡ size g.row.M;
  pairs : 2 * l.pairs ≤ l.p;
  left : l.left ≤ l.q;
  some : 1 ≤ l.whole;
  most : l.whole ≤ 10;
  going : Rest l.core (strip_cycles l.core l.pairs l.left) l.fn.core (strip l.fn.core l.p l.q);
}

abbrev pub decreases-loop-turn : goal.decreases-loop-turn
decreases-loop-turn g l = l.left
