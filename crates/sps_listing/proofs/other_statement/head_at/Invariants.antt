use Rattle.std.proofs.Common.{ℕ, Option, length}
use Rattle.sps_listing.specs.Others.{head_in_steps, head_at}
use Rattle.sps_listing.proofs.Ahead.{Ahead}
use Rattle.sps_listing.proofs.other_statement.head_at.Given as goal

abbrev pub invariant-loop-line : goal.invariant-loop-line
invariant-loop-line l = Ahead (Option (Option ℕ)) (head_in_steps l.statement) l.walk (head_at l.source l.statement)

abbrev pub decreases-loop-line : goal.decreases-loop-line
decreases-loop-line l = length l.walk.lines
