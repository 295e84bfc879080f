-- The chain from here, over the fields that are left, ends where the whole one does.
use Rattle.std.proofs.Common.{◌≡◌, ◌-◌, ◌<◌, ◌≤◌, length}
use Rattle.cpu_step.specs.Checks.{chain_end}
use Rattle.cpu_step.proofs.checks.chain_end.Given as goal

abbrev pub invariant-loop-field : goal.invariant-loop-field
invariant-loop-field g l = record {
  long : l.size ≡ length l.core;
  field : 4 ≤ l.u;
  in_core : l.u < l.size;
  rest : chain_end (l.size - l._field) l.core l.u ≡ chain_end (length l.core) l.core l.at;
}
