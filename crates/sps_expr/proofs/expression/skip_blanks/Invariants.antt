use Rattle.std.proofs.Common.{◌≡◌, ◌≤◌, length}
use Rattle.sps_expr.specs.Reading.{without_blanks}
use Rattle.sps_expr.proofs.expression.skip_blanks.Given as goal

abbrev pub invariant-loop-rest : goal.invariant-loop-rest
invariant-loop-rest l = (without_blanks l.rest ≡ without_blanks l.text) × (length l.rest ≤ length l.text)

abbrev pub decreases-loop-rest : goal.decreases-loop-rest
decreases-loop-rest l = length l.rest
