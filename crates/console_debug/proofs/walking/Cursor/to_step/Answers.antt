-- Moves up to the next step.
use Rattle.std.proofs.Common.{refl, sym, ◌∙◌, subst}
use Rattle.std.specs.Prelude.{Some}
use Rattle.console_debug.specs.Places.{turns_to_step}
use Rattle.console_debug.specs.CursorStates.{ToStep, cursor_state_of}
use Rattle.console_debug.proofs.Passing.{sets_out}
use Rattle.console_debug.proofs.Heading.{moves_on, ends_on, step_there}
use Rattle.console_debug.proofs.walking.Cursor.to_step.Goals as goal

pub loop-self-init : goal.loop-self-init
loop-self-init g c = record {
  same = ((refl, refl, refl), refl);
  furthest = c.requires.furthest;
  heads = sets_out turns_to_step g.row.M c.args.self.now.run.limit (cursor_state_of g.row.M c.args.self.now (g.H.Host.seen c.args.host.now)) c.requires.fit;
}

pub returns-then-is_step_ahead-clause-steps : goal.returns-then-is_step_ahead-clause-steps
returns-then-is_step_ahead-clause-steps g c =
    rw (sym c.loop-self.invariant.same.0.2)
    (step_there g.row.M c.loop-self.self.run.limit _ _ c.loop-self.invariant.heads (rw (c.if-is_step_ahead.true) at c.is_step_ahead.ensures (g.H.Host.seen c.loop-self.host)))

pub loop-self-preserved : goal.loop-self-preserved
loop-self-preserved g c =
    let same = c.loop-self.invariant.same in
    let next = c.advance.ensures.same in
    record {
      same = ((next.0.0 ∙ same.0.0, next.0.1 ∙ same.0.1, next.0.2 ∙ same.0.2), next.1 ∙ same.1);
      furthest = c.advance.ensures.furthest;
      heads = rw (next.0.2)
          (moves_on g.row.M c.loop-self.self.run.limit _ _ (cursor_state_of g.row.M c.advance.new.self (g.H.Host.seen c.advance.new.host)) c.loop-self.invariant.heads c.advance.result
          (rw (c.if-is_step_ahead.false) at c.is_step_ahead.ensures (g.H.Host.seen c.loop-self.host)) c.in-Acted.is c.advance.ensures.advances).0;
    }

pub loop-self-smaller : goal.loop-self-smaller
loop-self-smaller g c =
    rw (c.advance.ensures.same.0.2)
    (moves_on g.row.M c.loop-self.self.run.limit _ _ (cursor_state_of g.row.M c.advance.new.self (g.H.Host.seen c.advance.new.host)) c.loop-self.invariant.heads c.advance.result
    (rw (c.if-is_step_ahead.false) at c.is_step_ahead.ensures (g.H.Host.seen c.loop-self.host)) c.in-Acted.is c.advance.ensures.advances).1

pub returns-in-Ended-clause-steps : goal.returns-in-Ended-clause-steps
returns-in-Ended-clause-steps g c =
    let m = g.row.M in
    let old = cursor_state_of m c.args.self.now (g.H.Host.seen c.args.host.now) in
    let new = cursor_state_of m c.advance.new.self (g.H.Host.seen c.advance.new.host) in
    subst (λ k. ToStep m k old new (Some c.in-Ended.how)) c.loop-self.invariant.same.0.2
    (ends_on m c.loop-self.self.run.limit _ _ new c.loop-self.invariant.heads c.in-Ended.how (rw (c.if-is_step_ahead.false) at c.is_step_ahead.ensures (g.H.Host.seen c.loop-self.host)) c.in-Ended.ensures.advances)
