-- There may be a field here.
use Rattle.std.proofs.Common.{◌<◌, ◌≤◌, length}
use Rattle.cpu_step.proofs.further.FurtherFields.learn.Given as goal

abbrev pub invariant-loop-field : goal.invariant-loop-field
invariant-loop-field g l = record {
  field : 4 ≤ l.u;
  in_core : l.u < length l.core;
}
