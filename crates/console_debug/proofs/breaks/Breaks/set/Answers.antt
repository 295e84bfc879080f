-- One entry of the log more, which counts.
use Rattle.std.proofs.Common.{◌∙◌, refl, sym, arith}
use Rattle.sps_listing.specs.Listing.{placed_texts}
use Rattle.console_debug.proofs.Tables.{times_few, counts_few, set_on, tables_set}
use Rattle.console_debug.proofs.breaks.Breaks.set.Goals as goal

pub raise-requires : goal.raise-requires
raise-requires c =
    let log = c.args.self.now.log in
    let few = times_few (placed_texts c.args.assembled.now) c.args.self.now c.args.self.now c.args.statement c.in-Some.address c.requires.tables (sym c.statement_address.ensures ∙ c.in-Some.is) in
    omega (arith, few, log.ok.0, log.ok.1, log.small)

pub raise-requires-2 : goal.raise-requires-2
raise-requires-2 c =
    let log = c.args.self.now.log in
    let few = counts_few (placed_texts c.args.assembled.now) c.args.self.now c.args.self.now c.args.statement c.in-Some.address c.requires.tables (sym c.statement_address.ensures ∙ c.in-Some.is) in
    omega (arith, few, log.ok.0, log.ok.1, log.small)

pub returns-clause-set : goal.returns-clause-set
returns-clause-set c =
    set_on (placed_texts c.args.assembled.now) c.args.self.now (record c.args.self.now { log = c.push_reserved.new.self; times = c.raise.new.table; counts = c.raise-2.new.table })
    c.args.statement c.in-Some.address c.requires.tables (sym c.statement_address.ensures ∙ c.in-Some.is) c.push_reserved.ensures.items refl

pub returns-clause-tables : goal.returns-clause-tables
returns-clause-tables c =
    tables_set (placed_texts c.args.assembled.now) c.args.self.now (record c.args.self.now { log = c.push_reserved.new.self; times = c.raise.new.table; counts = c.raise-2.new.table })
    c.args.statement c.in-Some.address c.requires.tables (sym c.statement_address.ensures ∙ c.in-Some.is) c.push_reserved.ensures.items refl c.raise.ensures c.raise-2.ensures refl
