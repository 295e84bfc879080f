-- The mark of the statement moves to the end of the log.
use Rattle.std.proofs.Common.{◌∙◌, ◌-◌, refl, sym, ap, arith}
use Rattle.std.specs.Prelude.{slice_index_or, slice_set}
use Rattle.std.specs.Vec.{with_item}
use Rattle.sps_listing.specs.Listing.{placed_texts}
use Rattle.console_debug.proofs.Tables.{inside_since, inside_times, read_times, counts_enough, cleared_on, tables_cleared}
use Rattle.console_debug.proofs.breaks.Breaks.clear.Goals as goal

pub index-requires : goal.index-requires
index-requires c =
    let inside = inside_times (placed_texts c.args.assembled.now) c.args.self.now c.args.self.now c.args.statement c.in-Some.address c.requires.tables (sym c.statement_address.ensures ∙ c.in-Some.is) in
    omega (arith, inside, c.args.self.now.times.ok.0)

pub lower-requires : goal.lower-requires
lower-requires c = counts_enough (placed_texts c.args.assembled.now) c.args.self.now c.args.self.now c.args.statement c.in-Some.address c.requires.tables (sym c.statement_address.ensures ∙ c.in-Some.is) c.index.result.now c.index.ensures

pub index_mut-requires : goal.index_mut-requires
index_mut-requires c =
    let inside = inside_since (placed_texts c.args.assembled.now) c.args.self.now c.args.self.now c.args.statement c.in-Some.address c.requires.tables (sym c.statement_address.ensures ∙ c.in-Some.is) in
    omega (arith, inside, c.args.self.now.since.ok.0)

pub index_mut-requires-2 : goal.index_mut-requires-2
index_mut-requires-2 c =
    let inside = inside_times (placed_texts c.args.assembled.now) c.args.self.now c.args.self.now c.args.statement c.in-Some.address c.requires.tables (sym c.statement_address.ensures ∙ c.in-Some.is) in
    omega (arith, inside, c.args.self.now.times.ok.0)

pub returns-clause-set : goal.returns-clause-set
returns-clause-set c =
    cleared_on (placed_texts c.args.assembled.now) c.args.self.now
    (record c.args.self.now { since = with_item c.args.self.now.since c.args.statement c.len.result; times = with_item c.args.self.now.times c.args.statement 0; counts = c.lower.new.table })
    c.args.statement c.in-Some.address c.requires.tables (sym c.statement_address.ensures ∙ c.in-Some.is) refl (ap (slice_set c.args.self.now.since.items c.args.statement) (c.len.ensures ∙ c.args.self.now.log.ok.0))

pub returns-clause-tables : goal.returns-clause-tables
returns-clause-tables c =
    let read = read_times (placed_texts c.args.assembled.now) c.args.self.now c.args.self.now c.args.statement c.in-Some.address c.requires.tables (sym c.statement_address.ensures ∙ c.in-Some.is) c.index.result.now c.index.ensures in
    tables_cleared (placed_texts c.args.assembled.now) c.args.self.now _ c.args.statement c.in-Some.address c.requires.tables (sym c.statement_address.ensures ∙ c.in-Some.is) refl
    (ap (slice_set c.args.self.now.since.items c.args.statement) (c.len.ensures ∙ c.args.self.now.log.ok.0))
    refl
    (c.lower.ensures ∙ ap (λ k. slice_set c.args.self.now.counts.items c.in-Some.address (slice_index_or c.args.self.now.counts.items c.in-Some.address 0 - k)) read)
    refl
