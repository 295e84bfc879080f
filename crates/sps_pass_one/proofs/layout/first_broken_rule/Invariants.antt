use Rattle.std.proofs.Common.{[], length}
use Rattle.sps_pass_one.specs.Layout.{layout_faults_at, layout_refusal}
use Rattle.sps_pass_one.proofs.Following.{Follows}
use Rattle.sps_pass_one.proofs.layout.first_broken_rule.Given as goal

abbrev pub invariant-loop-line : goal.invariant-loop-line
invariant-loop-line l = Follows (layout_faults_at l.located.symbols) [] l.walk l.places l.source (layout_refusal l.source)

abbrev pub decreases-loop-line : goal.decreases-loop-line
decreases-loop-line l = length l.walk.lines
