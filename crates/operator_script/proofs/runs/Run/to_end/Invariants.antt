use Rattle.operator_script.specs.Run.{IsSameRun, standing_of}
use Rattle.operator_script.proofs.Running.{Underway, turns_left}
use Rattle.operator_script.proofs.runs.Run.to_end.Given as goal

abbrev pub invariant-loop-count : goal.invariant-loop-count
invariant-loop-count g l = record {
  same : IsSameRun g.row.M l.initial.self l.self;
  under : Underway g.row.M l.self.limit (standing_of g.row.M l.initial.self) (g.H.Host.seen l.initial.host) (standing_of g.row.M l.self) (g.H.Host.seen l.host);
}

abbrev pub decreases-loop-count : goal.decreases-loop-count
decreases-loop-count g l = turns_left l.self.limit g.row.M (standing_of g.row.M l.self)
