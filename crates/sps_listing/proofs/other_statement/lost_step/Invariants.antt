use Rattle.std.proofs.Common.{Option, length}
use Rattle.sps_pass_one.specs.Layout.{PassStep}
use Rattle.sps_listing.specs.Others.{lost_step}
use Rattle.sps_listing.proofs.Ahead.{Ahead}
use Rattle.sps_listing.proofs.OtherStatements.{lost_in}
use Rattle.sps_listing.proofs.other_statement.lost_step.Given as goal

abbrev pub invariant-loop-line : goal.invariant-loop-line
invariant-loop-line l = Ahead (Option PassStep) (lost_in l.head l.part l.symbols) l.walk (lost_step l.source l.head l.part)

abbrev pub decreases-loop-line : goal.decreases-loop-line
decreases-loop-line l = length l.walk.lines
