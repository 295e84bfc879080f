-- The line, and then the move.
use Rattle.std.proofs.Common.{◌∙◌, ℕ, List, subst}
use Rattle.outside_io.specs.declared.host.Unit.TheVariants as units
use Rattle.outside_io.specs.declared.whole.Sent.TheVariants as sent
use Rattle.outside_io.specs.Whole.{Sends}
use Rattle.console_debug.specs.CursorStates.{cursor_state_of}
use Rattle.console_debug.proofs.StepByStep.{line_failed, step_made_on, step_cut, step_over}
use Rattle.console_debug.proofs.walking.Cursor.make_step.Goals as goal

pub returns-in-Failed-clause-carries : goal.returns-in-Failed-clause-carries
returns-in-Failed-clause-carries g c = λ placed breaks.
    let m = g.row.M in
    let old = cursor_state_of m c.args.self.now (g.H.Host.seen c.args.host.now) in
    let after = g.H.Host.seen c.write_all.new.host in
    let line = c.as_bytes.ensures.value ∙ c.deref.ensures.0 ∙ c.at_line-line.ensures in
    line_failed m c.args.self.now.run.limit placed old breaks after c.requires.sound (subst (λ (text : List ℕ). Sends old.seen after units.Report text sent.Failed) line c.in-Failed.ensures)

pub returns-in-Acted-clause-carries : goal.returns-in-Acted-clause-carries
returns-in-Acted-clause-carries g c = λ placed breaks.
    let m = g.row.M in
    let old = cursor_state_of m c.args.self.now (g.H.Host.seen c.args.host.now) in
    let after = g.H.Host.seen c.write_all.new.host in
    let new = cursor_state_of m c.advance.new.self (g.H.Host.seen c.advance.new.host) in
    let line = c.as_bytes.ensures.value ∙ c.deref.ensures.0 ∙ c.at_line-line.ensures in
    step_made_on m c.args.self.now.run.limit placed old breaks after c.requires.sound new c.advance.result c.in-Acted.is
    (subst (λ (text : List ℕ). Sends old.seen after units.Report text sent.Done) line c.in-Done.ensures) c.advance.ensures.advances

pub returns-in-Failed-how-clause-carries : goal.returns-in-Failed-how-clause-carries
returns-in-Failed-how-clause-carries g c = λ placed breaks.
    let m = g.row.M in
    let old = cursor_state_of m c.args.self.now (g.H.Host.seen c.args.host.now) in
    let after = g.H.Host.seen c.write_all.new.host in
    let new = cursor_state_of m c.advance.new.self (g.H.Host.seen c.advance.new.host) in
    let line = c.as_bytes.ensures.value ∙ c.deref.ensures.0 ∙ c.at_line-line.ensures in
    step_cut m c.args.self.now.run.limit placed old breaks after c.requires.sound new
    (subst (λ (text : List ℕ). Sends old.seen after units.Report text sent.Done) line c.in-Done.ensures) (rw (c.in-Failed-how.is) at c.in-Ended.ensures.advances)

pub returns-in_default-clause-carries : goal.returns-in_default-clause-carries
returns-in_default-clause-carries g c = λ placed breaks.
    let m = g.row.M in
    let old = cursor_state_of m c.args.self.now (g.H.Host.seen c.args.host.now) in
    let after = g.H.Host.seen c.write_all.new.host in
    let new = cursor_state_of m c.advance.new.self (g.H.Host.seen c.advance.new.host) in
    let line = c.as_bytes.ensures.value ∙ c.deref.ensures.0 ∙ c.at_line-line.ensures in
    step_over m c.args.self.now.run.limit placed old breaks after c.requires.sound new c.in-Ended.how c.in_default.not-Failed c.requires.next
    (subst (λ (text : List ℕ). Sends old.seen after units.Report text sent.Done) line c.in-Done.ensures) c.in-Ended.ensures.advances
