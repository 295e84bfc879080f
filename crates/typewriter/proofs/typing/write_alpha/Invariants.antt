use Rattle.std.proofs.Common.{◌≡◌, ◌≤◌, ◌+◌, ◌*◌, ◌-◌, drop, length, map}
use Rattle.traces.specs.Trace.{does_all}
use Rattle.card_code.specs.TextOut.{WritesByte}
use Rattle.typewriter.specs.Typing.{type_pairs}
use Rattle.typewriter.proofs.PairsTyped.{Onward}
use Rattle.typewriter.proofs.typing.write_alpha.Given as goal

abbrev pub invariant-loop-w : goal.invariant-loop-w
invariant-loop-w g l = record {
  room : l.a ≤ l.size;
  onward : Onward (does_all (map WritesByte l.line.items) (type_pairs l.a (drop l.a l.core))) l.panel (g.H.Host.seen l.host) (type_pairs (l.fn.p - 1) (drop (l.fn.p - 1) l.core)) l.fn.panel (g.H.Host.seen l.fn.host);
}

abbrev pub decreases-loop-w : goal.decreases-loop-w
decreases-loop-w g l = l.size - l.a

abbrev pub invariant-loop-k : goal.invariant-loop-k
invariant-loop-k g l =
    Onward (does_all (map WritesByte l.line.items) (type_pairs (l.a + 2 * l.k) (drop (l.a + 2 * l.k) l.core))) l.panel (g.H.Host.seen l.host) (type_pairs (l.fn.p - 1) (drop (l.fn.p - 1) l.core)) l.fn.panel (g.H.Host.seen l.fn.host)

abbrev pub invariant-loop-a : goal.invariant-loop-a
invariant-loop-a g l = record {
  long : length l.core ≡ l.size;
  onward : Onward (does_all (map WritesByte l.line.items) (type_pairs l.a (drop l.a l.core))) l.panel (g.H.Host.seen l.host) (type_pairs (l.fn.p - 1) (drop (l.fn.p - 1) l.core)) l.fn.panel (g.H.Host.seen l.fn.host);
}

abbrev pub decreases-loop-a : goal.decreases-loop-a
decreases-loop-a g l = l.size - l.a
