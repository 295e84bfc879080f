-- The first of the cells that are left is the first of all twelve.
use Rattle.std.proofs.Common.{◌≡◌, ◌+◌, ◌-◌}
use Rattle.cpu_step.specs.Checks.{first_unread}
use Rattle.cpu_step.proofs.checks.first_unread.Given as goal

abbrev pub invariant-loop-k : goal.invariant-loop-k
invariant-loop-k g l = first_unread l.core (l.a + l.k) (12 - l.k) ≡ first_unread l.core l.a 12
