-- The first of the digits that are left is the first of all.
use Rattle.std.proofs.Common.{◌≡◌, ◌+◌, ◌-◌}
use Rattle.digit_core.specs.Search.{first_up}
use Rattle.cpu_step.specs.Checks.{is_over_nine}
use Rattle.cpu_step.proofs.checks.over_nine_up.Given as goal

abbrev pub invariant-loop-k : goal.invariant-loop-k
invariant-loop-k g l = first_up is_over_nine l.core (l.a + l.k) (l.n - l.k) ≡ first_up is_over_nine l.core l.a l.n
