-- The line of the place, or that there is none.
use Rattle.std.proofs.Common.{◌∙◌, ℕ, List, refl, subst}
use Rattle.outside_io.specs.declared.host.Unit.TheVariants as units
use Rattle.outside_io.specs.Whole.{Sends}
use Rattle.console_debug.specs.CursorStates.{cursor_state_of}
use Rattle.console_debug.proofs.PlaceLines.{went_back, stayed}
use Rattle.console_debug.proofs.walking.Cursor.back.Goals as goal

pub returns-then-go_back-clause-carries : goal.returns-then-go_back-clause-carries
returns-then-go_back-clause-carries g c = λ placed breaks.
    let m = g.row.M in
    let limit = c.args.self.now.run.limit in
    let seen = g.H.Host.seen c.args.host.now in
    let after = g.H.Host.seen c.write_all.new.host in
    let old = cursor_state_of m c.args.self.now seen in
    let mid = cursor_state_of m c.go_back.new.self seen in
    went_back m limit placed c.args.count breaks old mid after c.write_all.result refl (rw (c.if-go_back.true) at c.go_back.ensures.backs seen c.requires)
    (subst (λ (text : List ℕ). Sends seen after units.Report text c.write_all.result) (c.as_bytes.ensures.value ∙ c.deref.ensures.0 ∙ c.at_line-place.ensures) c.write_all.ensures)

pub returns-else-go_back-clause-carries : goal.returns-else-go_back-clause-carries
returns-else-go_back-clause-carries g c = λ placed breaks.
    let m = g.row.M in
    let limit = c.args.self.now.run.limit in
    let seen = g.H.Host.seen c.args.host.now in
    let after = g.H.Host.seen c.write_all-else-go_back.new.host in
    let old = cursor_state_of m c.args.self.now seen in
    let mid = cursor_state_of m c.go_back.new.self seen in
    let how = c.write_all-else-go_back.result in
    stayed m limit placed c.args.count breaks old mid after how c.requires (rw (c.if-go_back.false) at c.go_back.ensures.backs seen c.requires)
    (subst (λ (text : List ℕ). Sends seen after units.Report text how) (c.as_bytes-else-go_back.ensures.value ∙ c.deref-else-go_back.ensures.0 ∙ c.no_back_line.ensures) c.write_all-else-go_back.ensures)
