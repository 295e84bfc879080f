-- Moves up to the next stop.
use Rattle.std.proofs.Common.{sym, ◌∙◌, subst}
use Rattle.std.specs.Prelude.{Some}
use Rattle.sps_listing.specs.Listing.{placed_texts}
use Rattle.console_debug.specs.Breakpoints.{set_now}
use Rattle.console_debug.specs.CursorStates.{ToStop, cursor_state_of}
use Rattle.console_debug.proofs.Stops.{acted_on, stepped_on, stopped_on, ends_on}
use Rattle.console_debug.proofs.walking.Cursor.to_stop.Goals as goal

pub returns-then-to_kept_stop-clause-stops : goal.returns-then-to_kept_stop-clause-stops
returns-then-to_kept_stop-clause-stops g c = rw (c.if-to_kept_stop.true) at c.to_kept_stop.ensures.stops (g.H.Host.seen c.args.host.now) c.requires.sound

pub loop-how-init : goal.loop-how-init
loop-how-init g c =
    let passes = rw (c.if-to_kept_stop.false) at c.to_kept_stop.ensures.stops (g.H.Host.seen c.args.host.now) c.requires.sound in
    let same = c.to_kept_stop.ensures.same in
    record {
      same = same;
      furthest = c.to_kept_stop.ensures.furthest c.if-to_kept_stop.false;
      fit = rw (same.0.2) passes.fit;
      heads = rw (same.0.2) passes;
    }

pub loop-how-preserved-in-Acted : goal.loop-how-preserved-in-Acted
loop-how-preserved-in-Acted g c =
    let same = c.loop-how.invariant.same in
    let next = c.advance.ensures.same in
    record {
      same = ((next.0.0 ∙ same.0.0, next.0.1 ∙ same.0.1, next.0.2 ∙ same.0.2), next.1 ∙ same.1);
      furthest = c.advance.ensures.furthest;
      fit = rw (next.0.2) c.in-Acted.ensures.advances.fit;
      heads = rw (next.0.2) (acted_on (placed_texts c.args.assembled.now) (set_now c.args.breaks.now) g.row.M c.loop-how.self.run.limit _ _ _ c.loop-how.invariant.heads c.in-Acted.ensures.advances);
    }

pub loop-how-smaller-in-Acted : goal.loop-how-smaller-in-Acted
loop-how-smaller-in-Acted g c = rw (c.advance.ensures.same.0.2) c.in-Acted.ensures.advances.fewer

pub returns-then-stands_at_break-clause-stops : goal.returns-then-stands_at_break-clause-stops
returns-then-stands_at_break-clause-stops g c =
    rw (sym c.loop-how.invariant.same.0.2)
    (stopped_on (placed_texts c.args.assembled.now) (set_now c.args.breaks.now) g.row.M c.loop-how.self.run.limit _ _ _ c.loop-how.invariant.heads (sym c.stands_at_break.ensures ∙ c.if-stands_at_break.true) c.in-Stepped.ensures.advances)

pub loop-how-preserved : goal.loop-how-preserved
loop-how-preserved g c =
    let same = c.loop-how.invariant.same in
    let next = c.advance.ensures.same in
    record {
      same = ((next.0.0 ∙ same.0.0, next.0.1 ∙ same.0.1, next.0.2 ∙ same.0.2), next.1 ∙ same.1);
      furthest = c.advance.ensures.furthest;
      fit = rw (next.0.2) c.in-Stepped.ensures.advances.fit;
      heads = rw (next.0.2)
          (stepped_on (placed_texts c.args.assembled.now) (set_now c.args.breaks.now) g.row.M c.loop-how.self.run.limit _ _ _ c.loop-how.invariant.heads (sym c.stands_at_break.ensures ∙ c.if-stands_at_break.false) c.in-Stepped.ensures.advances);
    }

pub loop-how-smaller : goal.loop-how-smaller
loop-how-smaller g c = rw (c.advance.ensures.same.0.2) c.in-Stepped.ensures.advances.fewer

pub returns-in-Ended-clause-stops : goal.returns-in-Ended-clause-stops
returns-in-Ended-clause-stops g c =
    let m = g.row.M in
    let placed = placed_texts c.args.assembled.now in
    let breaks = set_now c.args.breaks.now in
    let old = cursor_state_of m c.args.self.now (g.H.Host.seen c.args.host.now) in
    let new = cursor_state_of m c.advance.new.self (g.H.Host.seen c.advance.new.host) in
    subst (λ k. ToStop m k placed breaks old new (Some c.in-Ended.how)) c.loop-how.invariant.same.0.2 (ends_on placed breaks m c.loop-how.self.run.limit _ _ new c.loop-how.invariant.heads c.in-Ended.how c.in-Ended.ensures.advances)
