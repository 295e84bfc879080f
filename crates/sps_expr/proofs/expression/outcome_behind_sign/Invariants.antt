use Rattle.std.proofs.Common.{◌≡◌, ◌≢◌, ◌<◌, slice_index, length}
use Rattle.sps_expr.specs.Reading.{without_blanks, tokens, unsigned_expr}
use Rattle.sps_expr.specs.Value.{scope_now, tree_outcome}
use Rattle.sps_expr.specs.Steps.{sign_of}
use Rattle.sps_expr.proofs.Outcomes.{outcome_from}
use Rattle.sps_expr.proofs.expression.outcome_behind_sign.Given as goal

-- the rest, which begins with no blank, comes to what the whole comes to
abbrev pub invariant-loop-rest : goal.invariant-loop-rest
invariant-loop-rest l =
    let scope = scope_now l.scope in
    record {
      no_blank : 0 < length l.rest → slice_index l.rest 0 ≢ 32;
      same : outcome_from scope l.so_far l.rest ≡ tree_outcome scope (unsigned_expr (sign_of l.minus) (tokens (without_blanks l.text)));
    }

abbrev pub decreases-loop-rest : goal.decreases-loop-rest
decreases-loop-rest l = length l.rest
