-- One kept place after another is looked at.
use Rattle.std.proofs.Common.{◌≡◌, ◌+◌, ◌-◌, lit<, refl, arith}
use Rattle.sps_listing.specs.Listing.{placed_texts}
use Rattle.console_debug.specs.Breakpoints.{set_now}
use Rattle.console_debug.specs.CursorStates.{cursor_state_of}
use Rattle.console_debug.proofs.KeptStops.{looks_first, looks_out, looks_over, looks_past, looks_stop}
use Rattle.console_debug.proofs.walking.Cursor.to_kept_stop.Goals.{else-count-steps-via-then-count-steps+else-is_kept_stop, else-count-steps-via-else-count-steps}
use Rattle.console_debug.proofs.walking.Cursor.to_kept_stop.Goals as goal

pub loop-behind-init : goal.loop-behind-init
loop-behind-init g c = record { same = refl; before = omega arith; looks = λ seen fit. looks_first g.row.M c.args.self.now.run.limit (placed_texts c.args.assembled.now) (set_now c.args.breaks.now) (cursor_state_of g.row.M c.args.self.now seen) fit }

pub overflow_sub-i : goal.overflow_sub-i
overflow_sub-i g c =
    let kept = c.loop-behind.invariant in
    let len = rw (kept.same) at c.len.ensures.len in
    omega (arith, len, kept.before, c.requires.few)

pub count_at-count-requires : goal.count_at-count-requires
count_at-count-requires g c =
    let kept = c.loop-behind.invariant in
    let len = rw (kept.same) at c.len.ensures.len in
    rw (kept.same) (lit< tt, omega (arith, len, kept.before, c.requires.few, c.loop-behind-test.true))

pub is_kept_stop-requires : goal.is_kept_stop-requires
is_kept_stop-requires g c =
    let kept = c.loop-behind.invariant in
    let len = rw (kept.same) at c.len.ensures.len in
    rw (kept.same) (lit< tt, (omega (arith, len, kept.before, c.requires.few, c.loop-behind-test.true), c.requires.tables))

pub returns-then-is_kept_stop-clause-stops : goal.returns-then-is_kept_stop-clause-stops
returns-then-is_kept_stop-clause-stops g c = λ seen fit.
    let m = g.row.M in
    let self = c.args.self.now in
    let there = c.go_up_to.new.self in
    let kept = c.loop-behind.invariant in
    let counted = rw (c.len.ensures.len, kept.same) at c.count_at-count.ensures in
    let tells = rw (c.len.ensures.len, kept.same) at c.is_kept_stop.ensures in
    let gone = c.go_up_to.ensures in
    let script = rw (kept.same) at gone.same.1 in
    let places = rw (kept.same) at gone.same.2 in
    let at = rw (kept.same) at gone.there seen in
    let one : c.loop-behind.behind - 1 + 1 ≡ c.loop-behind.behind = omega (arith, c.loop-behind-test.true) in
    rw (script, places, gone.behind)
    (looks_stop m self.run.limit (placed_texts c.args.assembled.now) (set_now c.args.breaks.now) (cursor_state_of m self seen)
    c.loop-behind.steps c.loop-behind.behind (c.loop-behind.behind - 1) c.count_at-count.result (kept.looks seen fit) c.loop-behind-test.true one counted
    c.if-count-steps.true c.is_kept_stop.result tells c.if-is_kept_stop.true there.run.machine.now there.run.steps at)

pub loop-behind-preserved : goal.loop-behind-preserved
loop-behind-preserved g c =
    let m = g.row.M in
    let self = c.args.self.now in
    let kept = c.loop-behind.invariant in
    let counted = rw (c.len.ensures.len, kept.same) at c.count_at-count.ensures in
    let one : c.loop-behind.behind - 1 + 1 ≡ c.loop-behind.behind = omega (arith, c.loop-behind-test.true) in
    record {
      same = kept.same;
      before = omega (arith, kept.before);
      looks = λ seen fit.
          elim c.else-count-steps.branch [
            | else-count-steps-via-then-count-steps+else-is_kept_stop w ↦
                let tells = rw (c.len.ensures.len, kept.same) at w.is_kept_stop.ensures in
                looks_over m self.run.limit (placed_texts c.args.assembled.now) (set_now c.args.breaks.now) (cursor_state_of m self seen)
                c.loop-behind.steps c.loop-behind.behind (c.loop-behind.behind - 1) c.count_at-count.result (kept.looks seen fit) c.loop-behind-test.true one counted
                w.if-count-steps.true w.is_kept_stop.result tells w.if-is_kept_stop.false
            | else-count-steps-via-else-count-steps w ↦
                looks_past m self.run.limit (placed_texts c.args.assembled.now) (set_now c.args.breaks.now) (cursor_state_of m self seen)
                c.loop-behind.steps c.loop-behind.behind (c.loop-behind.behind - 1) c.count_at-count.result (kept.looks seen fit) c.loop-behind-test.true one counted
                w.if-count-steps.false
          ];
    }

pub returns-clause-stops : goal.returns-clause-stops
returns-clause-stops g c = λ seen fit.
    let m = g.row.M in
    let self = c.args.self.now in
    let there = c.go_up_to-2.new.self in
    let kept = c.loop-behind.invariant in
    let gone = c.go_up_to-2.ensures in
    let script = rw (kept.same) at gone.same.1 in
    let places = rw (kept.same) at gone.same.2 in
    let at = rw (kept.same) at gone.there seen in
    let none : c.loop-behind.behind ≡ 0 = omega (arith, c.loop-behind-test.false) in
    rw (script, places, gone.behind)
    (looks_out m self.run.limit (placed_texts c.args.assembled.now) (set_now c.args.breaks.now) (cursor_state_of m self seen)
    c.loop-behind.steps 0 (rw none at (kept.looks seen fit)) there.run.machine.now there.run.steps at)
