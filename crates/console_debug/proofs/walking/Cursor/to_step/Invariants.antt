-- Under way to the next step.
use Rattle.std.proofs.Common.{◌≡◌}
use Rattle.console_debug.specs.CursorStates.{IsSameCursor, cursor_state_of, moves_left}
use Rattle.console_debug.proofs.Heading.{Heading}
use Rattle.console_debug.proofs.walking.Cursor.to_step.Given as goal

abbrev pub invariant-loop-self : goal.invariant-loop-self
invariant-loop-self g l = record {
  same : IsSameCursor g.row.M l.initial.self l.self;
  furthest : l.self.behind ≡ 0;
  heads : Heading g.row.M l.self.run.limit (cursor_state_of g.row.M l.initial.self (g.H.Host.seen l.initial.host)) (cursor_state_of g.row.M l.self (g.H.Host.seen l.host));
}

abbrev pub decreases-loop-self : goal.decreases-loop-self
decreases-loop-self g l = moves_left g.row.M l.self.run.limit (cursor_state_of g.row.M l.self (g.H.Host.seen l.host))
