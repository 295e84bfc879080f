-- The chain from here, over the fields that are left, comes to what the whole one does.
use Rattle.std.proofs.Common.{◌≡◌, ◌-◌, ◌<◌, ◌≤◌, length}
use Rattle.addr_indirect.specs.Operand.{chain, further}
use Rattle.cpu_step.proofs.further.FurtherFields.known.Given as goal

abbrev pub invariant-loop-field : goal.invariant-loop-field
invariant-loop-field g l = record {
  field : 4 ≤ l.u;
  in_core : l.u < length l.core;
  rest : chain (length l.core - 1 - l._field) l.core l.u ≡ further l.core l.at;
}
