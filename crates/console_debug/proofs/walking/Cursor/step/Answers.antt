-- One step after another.
use Rattle.std.proofs.Common.{◌≡◌, ◌∙◌, ◌<◌, ℕ, suc, ◌+◌, ◌-◌, List, [], sym, subst, arith, lit<}
use Rattle.outside_io.specs.declared.host.Unit.TheVariants as units
use Rattle.outside_io.specs.Whole.{Sends}
use Rattle.console_debug.specs.Session.{steps}
use Rattle.console_debug.specs.CursorStates.{cursor_state_of}
use Rattle.console_debug.specs.Carries.{debugger_state, PartsUnderway}
use Rattle.console_debug.proofs.StepByStep.{steps_done, stepped_out, step_broke, step_then, step_failed}
use Rattle.console_debug.proofs.Heading.{to_the_end}
use Rattle.console_debug.proofs.walking.Cursor.step.Goals as goal

one_left : (count i : ℕ) → i < count → count - i ≡ suc (count - (i + 1))
one_left count i below = omega arith

pub loop-step-init : goal.loop-step-init
loop-step-init g c =
    let same = c.step_kept.ensures.same in
    record {
      same = same;
      furthest = c.in-Some.ensures.furthest;
      under = λ placed breaks.
          let m = g.row.M in
          let all : c.in-Some.left ≡ c.in-Some.left - 0 = omega arith in
          let first = debugger_state m (cursor_state_of m c.args.self.now (g.H.Host.seen c.args.host.now)) breaks in
          let now = debugger_state m (cursor_state_of m c.step_kept.new.self (g.H.Host.seen c.step_kept.new.host)) breaks in
          rw (same.0.2)
          (subst (λ k. PartsUnderway m c.args.self.now.run.limit placed (steps c.args.count) (steps k) first now) all (c.in-Some.ensures.carries placed breaks));
    }

pub returns-in-None-clause-carries : goal.returns-in-None-clause-carries
returns-in-None-clause-carries g c = λ placed breaks. c.in-None.ensures.carries placed breaks

pub to_step-requires : goal.to_step-requires
to_step-requires g c = (lit< tt, ((c.loop-step.invariant.under [] []).fit, c.loop-step.invariant.furthest (omega (arith, c.loop-step-test.true))))

pub make_step-requires : goal.make_step-requires
make_step-requires g c =
    let there = c.in-None-to_step.ensures.steps in
    let limit = c.to_step.ensures.same.0.2 in
    (lit< tt, (rw limit there.fit, (rw limit there.next, c.to_step.ensures.furthest)))

pub returns-in_default-clause-carries : goal.returns-in_default-clause-carries
returns-in_default-clause-carries g c = λ placed breaks.
    let m = g.row.M in
    let left = c.in-Some.left in
    let i = c.loop-step._step in
    let first = debugger_state m (cursor_state_of m c.args.self.now (g.H.Host.seen c.args.host.now)) breaks in
    let here = cursor_state_of m c.loop-step.self (g.H.Host.seen c.loop-step.host) in
    let there = cursor_state_of m c.to_step.new.self (g.H.Host.seen c.to_step.new.host) in
    let after = g.H.Host.seen c.write_all.new.host in
    rw (sym c.loop-step.invariant.same.0.2)
    (stepped_out m c.loop-step.self.run.limit placed breaks (steps c.args.count) first (left - i) (left - (i + 1)) here there (one_left left i c.loop-step-test.true) (c.loop-step.invariant.under placed breaks)
    c.in-Some-to_step.how after c.write_all.result (to_the_end m c.loop-step.self.run.limit here there c.in-Some-to_step.how c.in_default.not-Failed c.in-Some-to_step.ensures.steps)
    (subst (λ (text : List ℕ). Sends there.seen after units.Report text c.write_all.result) (c.as_bytes.ensures.value ∙ c.deref.ensures.0 ∙ c.ending_line-line.ensures) c.write_all.ensures))

pub returns-in-Failed-clause-carries : goal.returns-in-Failed-clause-carries
returns-in-Failed-clause-carries g c = λ placed breaks.
    let m = g.row.M in
    let left = c.in-Some.left in
    let i = c.loop-step._step in
    let first = debugger_state m (cursor_state_of m c.args.self.now (g.H.Host.seen c.args.host.now)) breaks in
    let here = cursor_state_of m c.loop-step.self (g.H.Host.seen c.loop-step.host) in
    let there = cursor_state_of m c.to_step.new.self (g.H.Host.seen c.to_step.new.host) in
    rw (sym c.loop-step.invariant.same.0.2)
    (step_broke m c.loop-step.self.run.limit placed breaks (steps c.args.count) first (left - i) (left - (i + 1)) here there (one_left left i c.loop-step-test.true) (c.loop-step.invariant.under placed breaks)
    (rw (c.in-Failed.is) at c.in-Some-to_step.ensures.steps))

pub returns-in-Failed-make_step-clause-carries : goal.returns-in-Failed-make_step-clause-carries
returns-in-Failed-make_step-clause-carries g c = λ placed breaks.
    let m = g.row.M in
    let left = c.in-Some.left in
    let i = c.loop-step._step in
    let first = debugger_state m (cursor_state_of m c.args.self.now (g.H.Host.seen c.args.host.now)) breaks in
    let here = cursor_state_of m c.loop-step.self (g.H.Host.seen c.loop-step.host) in
    let there = cursor_state_of m c.to_step.new.self (g.H.Host.seen c.to_step.new.host) in
    let last = cursor_state_of m c.make_step.new.self (g.H.Host.seen c.make_step.new.host) in
    rw (sym c.loop-step.invariant.same.0.2)
    (step_failed m c.loop-step.self.run.limit placed breaks (steps c.args.count) first (left - i) (left - (i + 1)) here there (one_left left i c.loop-step-test.true) (c.loop-step.invariant.under placed breaks)
    c.in-None-to_step.ensures.steps (debugger_state m last breaks) (rw (c.to_step.ensures.same.0.2) at c.in-Failed-make_step.ensures.carries placed breaks))

pub loop-step-preserved : goal.loop-step-preserved
loop-step-preserved g c =
    let same = c.loop-step.invariant.same in
    let to = c.to_step.ensures.same in
    let made = c.in-Done.ensures.same in
    record {
      same = ((made.0.0 ∙ to.0.0 ∙ same.0.0, made.0.1 ∙ to.0.1 ∙ same.0.1, made.0.2 ∙ to.0.2 ∙ same.0.2), made.1 ∙ to.1 ∙ same.1);
      furthest = λ some. c.in-Done.ensures.furthest;
      under = λ placed breaks.
          let m = g.row.M in
          let left = c.in-Some.left in
          let i = c.loop-step._step in
          let first = debugger_state m (cursor_state_of m c.args.self.now (g.H.Host.seen c.args.host.now)) breaks in
          let here = cursor_state_of m c.loop-step.self (g.H.Host.seen c.loop-step.host) in
          let there = cursor_state_of m c.to_step.new.self (g.H.Host.seen c.to_step.new.host) in
          let last = cursor_state_of m c.make_step.new.self (g.H.Host.seen c.make_step.new.host) in
          rw (made.0.2, to.0.2)
          (step_then m c.loop-step.self.run.limit placed breaks (steps c.args.count) first (left - i) (left - (i + 1)) here there (one_left left i c.loop-step-test.true) (c.loop-step.invariant.under placed breaks)
          c.in-None-to_step.ensures.steps (debugger_state m last breaks) (rw (to.0.2) at c.in-Done.ensures.carries placed breaks));
    }

pub returns-clause-carries : goal.returns-clause-carries
returns-clause-carries g c = λ placed breaks.
    let none : c.in-Some.left - c.loop-step._step ≡ 0 = omega (arith, c.loop-step-test.false) in
    let m = g.row.M in
    let first = debugger_state m (cursor_state_of m c.args.self.now (g.H.Host.seen c.args.host.now)) breaks in
    let here = cursor_state_of m c.loop-step.self (g.H.Host.seen c.loop-step.host) in
    rw (sym c.loop-step.invariant.same.0.2)
    (steps_done m c.loop-step.self.run.limit placed (c.in-Some.left - c.loop-step._step) (steps c.args.count) first (debugger_state m here breaks) none (c.loop-step.invariant.under placed breaks))
