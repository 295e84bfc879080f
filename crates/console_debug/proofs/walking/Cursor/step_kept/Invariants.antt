-- So many steps of the kept places have their lines.
use Rattle.std.proofs.Common.{◌≡◌, ℕ, List, ◌≤◌}
use Rattle.sps_pass_two.specs.Assembled.{PlacedText}
use Rattle.console_debug.specs.CursorStates.{cursor_state_of}
use Rattle.console_debug.proofs.KeptSteps.{StepsOn}
use Rattle.console_debug.proofs.walking.Cursor.step_kept.Given as goal

abbrev pub invariant-loop-left : goal.invariant-loop-left
invariant-loop-left g l = record {
  same : l.self ≡ l.fn.self;
  before : l.behind ≤ l.fn.self.behind;
  on : (placed : List PlacedText) (breaks : List ℕ)
      → StepsOn g.row.M l.fn.self.run.limit placed breaks l.count (cursor_state_of g.row.M l.fn.self (g.H.Host.seen l.fn.host)) (g.H.Host.seen l.host) l.ir l.steps l.behind l.left;
}

abbrev pub decreases-loop-left : goal.decreases-loop-left
decreases-loop-left g l = l.behind
