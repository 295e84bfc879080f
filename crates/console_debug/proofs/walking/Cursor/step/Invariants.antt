-- The steps that are left.
use Rattle.std.proofs.Common.{◌≡◌, ◌<◌, ℕ, ◌-◌, List}
use Rattle.sps_pass_two.specs.Assembled.{PlacedText}
use Rattle.console_debug.specs.Session.{steps}
use Rattle.console_debug.specs.CursorStates.{IsSameCursor, cursor_state_of}
use Rattle.console_debug.specs.Carries.{debugger_state, PartsUnderway}
use Rattle.console_debug.proofs.walking.Cursor.step.Given as goal

abbrev pub invariant-loop-step : goal.invariant-loop-step
invariant-loop-step g l = record {
  same : IsSameCursor g.row.M l.fn.self l.self;
  furthest : 0 < l.left → l.self.behind ≡ 0;
  under : (placed : List PlacedText) (breaks : List ℕ) →
      PartsUnderway g.row.M l.self.run.limit placed (steps l.count) (steps (l.left - l._step))
      (debugger_state g.row.M (cursor_state_of g.row.M l.fn.self (g.H.Host.seen l.fn.host)) breaks)
      (debugger_state g.row.M (cursor_state_of g.row.M l.self (g.H.Host.seen l.host)) breaks);
}
