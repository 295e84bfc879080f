-- The place so many before, or none.
use Rattle.std.proofs.Common.{◌≡◌, ◌+◌, ◌-◌, ◌<◌, length, subst, arith}
use Rattle.std.specs.Prelude.{IfSome, slice_get}
use Rattle.console_debug.specs.CursorStates.{cursor_state_of, IsAtKept}
use Rattle.console_debug.proofs.Stepping.{went_back}
use Rattle.console_debug.proofs.walking.Cursor.go_back.Goals as goal

pub returns-clause-backs : goal.returns-clause-backs
returns-clause-backs g c = λ seen fit.
    let m = g.row.M in
    let old = cursor_state_of m c.args.self.now seen in
    let len = c.len.ensures.len in
    let enough : c.args.self.now.behind + c.args.n < length c.args.self.now.rewind.now = omega (arith, len, c.requires.few, c.from.ensures, c.if-n-from.false) in
    let index : c.len.result - 1 - c.args.self.now.behind - c.args.n ≡ length c.args.self.now.rewind.now - 1 - (c.args.self.now.behind + c.args.n) = omega (arith, len) in
    let gone = c.go_to_kept.ensures in
    rw (gone.same.1, gone.same.2, gone.behind)
    (went_back m c.args.self.now.run.limit c.args.n old c.go_to_kept.new.self.run.machine.now c.go_to_kept.new.self.run.steps fit enough
    (subst (λ i. IfSome (slice_get c.args.self.now.rewind.now i) (IsAtKept m c.args.self.now.run.machine.now c.go_to_kept.new.self.run.machine.now c.go_to_kept.new.self.run.steps)) index gone.there))
