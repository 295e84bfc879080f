-- One kept place after another, each step behind its line.
use Rattle.std.proofs.Common.{◌≡◌, ◌∙◌, ◌+◌, ◌-◌, suc, List, ℕ, refl, subst, arith}
use Rattle.outside_io.specs.declared.host.Unit.TheVariants as units
use Rattle.outside_io.specs.declared.whole.Sent.TheVariants as sent
use Rattle.outside_io.specs.Whole.{Sends}
use Rattle.console_debug.specs.CursorStates.{cursor_state_of}
use Rattle.console_debug.proofs.KeptSteps.{steps_first, passes, steps_over, line_fails, steps_end}
use Rattle.console_debug.proofs.walking.Cursor.step_kept.Goals.{then-next-steps+in-Done, else-next-steps}
use Rattle.console_debug.proofs.walking.Cursor.step_kept.Goals as goal

pub loop-left-init : goal.loop-left-init
loop-left-init g c = record {
  same = refl;
  before = omega arith;
  on = λ placed breaks. steps_first g.row.M c.args.self.now.run.limit placed breaks c.args.count (cursor_state_of g.row.M c.args.self.now (g.H.Host.seen c.args.host.now)) c.requires;
}

pub returns-in-Failed-clause-carries : goal.returns-in-Failed-clause-carries
returns-in-Failed-clause-carries g c = λ placed breaks.
    let m = g.row.M in
    let self = c.args.self.now in
    let kept = c.loop-left.invariant in
    let old = cursor_state_of m self (g.H.Host.seen c.args.host.now) in
    let here = g.H.Host.seen c.loop-left.host in
    let after = g.H.Host.seen c.write_all.new.host in
    let there = c.go_up_to.new.self in
    let gone = c.go_up_to.ensures in
    let script = rw (kept.same) at gone.same.1 in
    let places = rw (kept.same) at gone.same.2 in
    let at = rw (kept.same) at gone.there (g.H.Host.seen c.args.host.now) in
    let counted = rw (c.len.ensures.len, kept.same) at c.count_at-next.ensures in
    let one : c.loop-left.behind - 1 + 1 ≡ c.loop-left.behind = omega (arith, c.if-behind-gt0.true) in
    let some_left : c.loop-left.left ≡ suc (c.loop-left.left - 1) = omega (arith, c.loop-left-test.true) in
    let sends = subst (λ (text : List ℕ). Sends here after units.Report text sent.Failed) (c.as_bytes.ensures.value ∙ c.deref.ensures.0 ∙ c.at_line.ensures) c.in-Failed.ensures in
    rw (script, places, gone.behind)
    (line_fails m self.run.limit placed breaks c.args.count old here c.loop-left.ir c.loop-left.steps c.loop-left.behind c.loop-left.left c.count_at-next.result (c.loop-left.behind - 1) (c.loop-left.left - 1)
    (kept.on placed breaks) some_left c.if-behind-gt0.true one counted c.if-next-steps.true after sends there.run.machine.now there.run.steps at)

pub loop-left-preserved : goal.loop-left-preserved
loop-left-preserved g c =
    let m = g.row.M in
    let self = c.args.self.now in
    let kept = c.loop-left.invariant in
    let old = cursor_state_of m self (g.H.Host.seen c.args.host.now) in
    let here = g.H.Host.seen c.loop-left.host in
    let counted = rw (c.len.ensures.len, kept.same) at c.count_at-next.ensures in
    let regs = rw (c.len.ensures.len, kept.same) at c.regs_at-ir.ensures in
    let one : c.loop-left.behind - 1 + 1 ≡ c.loop-left.behind = omega (arith, c.if-behind-gt0.true) in
    let some_left : c.loop-left.left ≡ suc (c.loop-left.left - 1) = omega (arith, c.loop-left-test.true) in
    record {
      same = kept.same;
      before = omega (arith, kept.before);
      on = λ placed breaks.
          elim c.if-next-steps.branch [
            | then-next-steps+in-Done w ↦
                let after = g.H.Host.seen w.write_all.new.host in
                let sends = subst (λ (text : List ℕ). Sends here after units.Report text sent.Done) (w.as_bytes.ensures.value ∙ w.deref.ensures.0 ∙ w.at_line.ensures) w.in-Done.ensures in
                rw (w.left-is, w.host-is)
                (steps_over m self.run.limit placed breaks c.args.count old here c.loop-left.ir c.loop-left.steps c.loop-left.behind c.loop-left.left c.count_at-next.result (c.loop-left.behind - 1) (c.loop-left.left - 1)
                (kept.on placed breaks) some_left c.if-behind-gt0.true one counted w.if-next-steps.true after sends c.regs_at-ir.result regs)
            | else-next-steps w ↦
                rw (w.left-is, w.host-is)
                (passes m self.run.limit placed breaks c.args.count old here c.loop-left.ir c.loop-left.steps c.loop-left.behind c.loop-left.left c.count_at-next.result (c.loop-left.behind - 1) (c.loop-left.left - 1)
                (kept.on placed breaks) some_left c.if-behind-gt0.true one counted w.if-next-steps.false c.regs_at-ir.result regs)
          ];
    }

pub returns-clause-carries : goal.returns-clause-carries
returns-clause-carries g c = λ placed breaks.
    let m = g.row.M in
    let self = c.args.self.now in
    let kept = c.loop-left.invariant in
    let old = cursor_state_of m self (g.H.Host.seen c.args.host.now) in
    let there = c.go_up_to-2.new.self in
    let gone = c.go_up_to-2.ensures in
    let script = rw (kept.same) at gone.same.1 in
    let places = rw (kept.same) at gone.same.2 in
    let at = rw (kept.same) at gone.there (g.H.Host.seen c.args.host.now) in
    rw (script, places, gone.behind)
    (steps_end m self.run.limit placed breaks c.args.count old (g.H.Host.seen c.loop-left.host) c.loop-left.ir c.loop-left.steps c.loop-left.behind c.loop-left.left (kept.on placed breaks) there.run.machine.now there.run.steps at)
