-- The machine runs on below the count, and the turns so far lead a run on.
use Rattle.std.proofs.Common.{◌-◌, ◌≡◌, ◌<◌, true}
use Rattle.operator_script.specs.Scripts.{lines_left}
use Rattle.cpu_step.specs.Machine.{is_running}
use Rattle.operator_script.specs.Run.{GoesOn, IsSameRun, standing_of}
use Rattle.operator_script.proofs.runs.Run.steps_to.Given as goal

abbrev pub invariant-loop-self : goal.invariant-loop-self
invariant-loop-self g l = record {
  same : IsSameRun g.row.M l.initial.self l.self;
  lines : lines_left l.self.script.now ≡ lines_left l.initial.self.script.now;
  runs : l.self.steps < l.count → is_running l.self.machine.now.mode ≡ true;
  goes : GoesOn g.row.M l.self.limit (standing_of g.row.M l.initial.self) (g.H.Host.seen l.initial.host) (standing_of g.row.M l.self) (g.H.Host.seen l.host);
}

abbrev pub decreases-loop-self : goal.decreases-loop-self
decreases-loop-self g l = l.count - l.self.steps
