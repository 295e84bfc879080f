-- Under way to the next stop.
use Rattle.std.proofs.Common.{◌≡◌}
use Rattle.sps_listing.specs.Listing.{placed_texts}
use Rattle.console_debug.specs.Breakpoints.{set_now}
use Rattle.console_debug.specs.Places.{turns_to_stop}
use Rattle.console_debug.specs.CursorStates.{IsFit, IsSameCursor, cursor_state_of, moves_left, PassesOn}
use Rattle.console_debug.proofs.walking.Cursor.to_stop.Given as goal

abbrev pub invariant-loop-how : goal.invariant-loop-how
invariant-loop-how g l = record {
  same : IsSameCursor g.row.M l.fn.self l.self;
  furthest : l.self.behind ≡ 0;
  fit : IsFit g.row.M l.self.run.limit (cursor_state_of g.row.M l.self (g.H.Host.seen l.host));
  heads : PassesOn g.row.M l.self.run.limit (turns_to_stop (placed_texts l.assembled) (set_now l.breaks)) (cursor_state_of g.row.M l.fn.self (g.H.Host.seen l.fn.host)) (cursor_state_of g.row.M l.self (g.H.Host.seen l.host));
}

abbrev pub decreases-loop-how : goal.decreases-loop-how
decreases-loop-how g l = moves_left g.row.M l.self.run.limit (cursor_state_of g.row.M l.self (g.H.Host.seen l.host))
