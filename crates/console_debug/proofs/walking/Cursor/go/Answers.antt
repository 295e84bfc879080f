-- The move to a stop or to the end, and its line.
use Rattle.std.proofs.Common.{◌∙◌, ℕ, List, subst}
use Rattle.outside_io.specs.declared.host.Unit.TheVariants as units
use Rattle.outside_io.specs.Whole.{Sends}
use Rattle.sps_listing.specs.Listing.{placed_texts}
use Rattle.console_debug.specs.Breakpoints.{set_now}
use Rattle.console_debug.specs.CursorStates.{cursor_state_of}
use Rattle.console_debug.proofs.PlaceLines.{stopped, ran_out, broke_off}
use Rattle.console_debug.proofs.Stops.{to_the_last}
use Rattle.console_debug.proofs.walking.Cursor.go.Goals as goal

pub returns-in-None-clause-carries : goal.returns-in-None-clause-carries
returns-in-None-clause-carries g c =
    let m = g.row.M in
    let placed = placed_texts c.args.assembled.now in
    let old = cursor_state_of m c.args.self.now (g.H.Host.seen c.args.host.now) in
    let between = g.H.Host.seen c.to_stop.new.host in
    let mid = cursor_state_of m c.to_stop.new.self between in
    let after = g.H.Host.seen c.write_all.new.host in
    let how = c.write_all.result in
    stopped m c.args.self.now.run.limit placed (set_now c.args.breaks.now) old mid after how c.in-None.ensures.stops
    (subst (λ (text : List ℕ). Sends between after units.Report text how) (c.as_bytes.ensures.value ∙ c.deref.ensures.0 ∙ c.break_line-line.ensures placed c.statement_number.ensures) c.write_all.ensures)

pub returns-in-Failed-clause-carries : goal.returns-in-Failed-clause-carries
returns-in-Failed-clause-carries g c =
    let m = g.row.M in
    let placed = placed_texts c.args.assembled.now in
    let old = cursor_state_of m c.args.self.now (g.H.Host.seen c.args.host.now) in
    let mid = cursor_state_of m c.to_stop.new.self (g.H.Host.seen c.to_stop.new.host) in
    broke_off m c.args.self.now.run.limit placed (set_now c.args.breaks.now) old mid (rw (c.in-Failed.is) at c.in-Some.ensures.stops)

pub returns-in_default-clause-carries : goal.returns-in_default-clause-carries
returns-in_default-clause-carries g c =
    let m = g.row.M in
    let placed = placed_texts c.args.assembled.now in
    let breaks = set_now c.args.breaks.now in
    let limit = c.args.self.now.run.limit in
    let old = cursor_state_of m c.args.self.now (g.H.Host.seen c.args.host.now) in
    let between = g.H.Host.seen c.to_stop.new.host in
    let mid = cursor_state_of m c.to_stop.new.self between in
    let after = g.H.Host.seen c.write_all-in_default.new.host in
    let how = c.write_all-in_default.result in
    ran_out m limit placed breaks old mid c.in-Some.how after how (to_the_last placed breaks m limit old mid c.in-Some.how c.in_default.not-Failed c.in-Some.ensures.stops)
    (subst (λ (text : List ℕ). Sends between after units.Report text how) (c.as_bytes-in_default.ensures.value ∙ c.deref-in_default.ensures.0 ∙ c.ending_line-line.ensures) c.write_all-in_default.ensures)
