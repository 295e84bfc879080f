-- The commands that are left, and room for the breakpoint of each BREAK among them.
use Rattle.std.proofs.Common.{◌+◌, ◌≤◌, drop, count_by, vec_len}
use Rattle.sps_listing.specs.Listing.{placed_texts}
use Rattle.console_debug.specs.Breakpoints.{HasSameRoom}
use Rattle.console_debug.specs.Grammar.{is_break}
use Rattle.console_debug.specs.Session.{session_of}
use Rattle.console_debug.specs.Carries.{IsReadyFor, IsSameDebugger, debugger_state_of, PartsUnderway}
use Rattle.console_debug.proofs.debugger.Debugger.carry_out_all.Given as goal

abbrev pub invariant-loop-command : goal.invariant-loop-command
invariant-loop-command g l = record {
  same : IsSameDebugger g.row.M l.fn.self l.self;
  ready : IsReadyFor g.row.M (count_by is_break (drop l.command-index l.list)) l.self (g.H.Host.seen l.host);
  len : vec_len l.self.breaks.now.log + count_by is_break (drop l.command-index l.list) ≤ vec_len l.fn.self.breaks.now.log + count_by is_break l.list;
  capacity : HasSameRoom l.fn.self.breaks.now l.self.breaks.now;
  under : PartsUnderway g.row.M l.fn.self.cursor.run.limit (placed_texts l.fn.self.assembled.now) (session_of l.list) (session_of (drop l.command-index l.list))
      (debugger_state_of g.row.M l.fn.self (g.H.Host.seen l.fn.host))
      (debugger_state_of g.row.M l.self (g.H.Host.seen l.host));
}
