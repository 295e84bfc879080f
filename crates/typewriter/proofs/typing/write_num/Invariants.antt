use Rattle.std.proofs.Common.{◌≡◌, ◌≤◌, ◌-◌, drop, length}
use Rattle.traces.specs.Trace.{does_all}
use Rattle.typewriter.specs.Typing.{type_cells}
use Rattle.typewriter.proofs.Performing.{Onward}
use Rattle.typewriter.proofs.typing.write_num.Given as goal

abbrev pub invariant-loop-a : goal.invariant-loop-a
invariant-loop-a g l = record {
  long : length l.core ≡ l.size;
  onward : Onward (does_all l.line.items (type_cells l.a (drop l.a l.core))) (g.H.Host.seen l.host) (type_cells l.fn.p (drop l.fn.p l.core)) (g.H.Host.seen l.fn.host);
}

abbrev pub invariant-loop-chars : goal.invariant-loop-chars
invariant-loop-chars g l = record {
  room : l.from ≤ l.size;
  onward : Onward (does_all l.line.items (type_cells l.from (drop l.from l.core))) (g.H.Host.seen l.host) (type_cells l.fn.p (drop l.fn.p l.core)) (g.H.Host.seen l.fn.host);
}

abbrev pub decreases-loop-chars : goal.decreases-loop-chars
decreases-loop-chars g l = l.size - l.from
