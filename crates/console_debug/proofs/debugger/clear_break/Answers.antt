-- The breakpoints that stay, or the line of a statement that is no instruction.
use Rattle.std.proofs.Common.{◌∙◌, ℕ, Bool, List, sym, ap, subst}
use Rattle.std.specs.Prelude.{if◌then◌else◌}
use Rattle.outside_io.specs.declared.host.Unit.TheVariants as units
use Rattle.outside_io.specs.Whole.{Sends}
use Rattle.sps_listing.specs.Listing.{placed_texts}
use Rattle.console_debug.specs.Breakpoints.{set_now}
use Rattle.console_debug.specs.Session.{without_break}
use Rattle.console_debug.proofs.Commanding.{all_set, same_set}
use Rattle.console_debug.proofs.debugger.clear_break.Goals as goal

pub returns-then-clear-clause-sets : goal.returns-then-clear-clause-sets
returns-then-clear-clause-sets g c =
    all_set (placed_texts c.args.assembled.now) c.args.statement (without_break c.args.statement) (set_now c.args.breaks.now) (set_now c.clear.new.self) (g.H.Host.seen c.args.host.now)
    (sym c.clear.ensures.is ∙ c.if-clear.true)
    (c.clear.ensures.set ∙ ap (λ (b : Bool). if b then without_break c.args.statement (set_now c.args.breaks.now) else set_now c.args.breaks.now) c.if-clear.true)

pub returns-else-clear-clause-sets : goal.returns-else-clear-clause-sets
returns-else-clear-clause-sets g c =
    let before = g.H.Host.seen c.args.host.now in
    let after = g.H.Host.seen c.write_all.new.host in
    same_set (placed_texts c.args.assembled.now) c.args.statement (without_break c.args.statement) (set_now c.args.breaks.now) (set_now c.clear.new.self) before after c.write_all.result
    (sym c.clear.ensures.is ∙ c.if-clear.false)
    (c.clear.ensures.set ∙ ap (λ (b : Bool). if b then without_break c.args.statement (set_now c.args.breaks.now) else set_now c.args.breaks.now) c.if-clear.false)
    (subst (λ (text : List ℕ). Sends before after units.Report text c.write_all.result) (c.as_bytes.ensures.value ∙ c.deref.ensures.0 ∙ c.no_statement_line.ensures) c.write_all.ensures)
