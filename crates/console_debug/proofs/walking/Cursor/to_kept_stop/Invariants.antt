-- None of the kept places that were looked at is a stop.
use Rattle.std.proofs.Common.{◌≡◌, ◌≤◌}
use Rattle.outside_io.specs.World.{Seen}
use Rattle.sps_listing.specs.Listing.{placed_texts}
use Rattle.console_debug.specs.Breakpoints.{set_now}
use Rattle.console_debug.specs.CursorStates.{IsFit, cursor_state_of}
use Rattle.console_debug.proofs.KeptStops.{LooksOn}
use Rattle.console_debug.proofs.walking.Cursor.to_kept_stop.Given as goal

abbrev pub invariant-loop-behind : goal.invariant-loop-behind
invariant-loop-behind g l = record {
  same : l.self ≡ l.initial.self;
  before : l.behind ≤ l.initial.self.behind;
  looks : (seen : Seen) → IsFit g.row.M l.initial.self.run.limit (cursor_state_of g.row.M l.initial.self seen)
      → LooksOn g.row.M l.initial.self.run.limit (placed_texts l.assembled) (set_now l.breaks) (cursor_state_of g.row.M l.initial.self seen) l.steps l.behind;
}

abbrev pub decreases-loop-behind : goal.decreases-loop-behind
decreases-loop-behind g l = l.behind
