-- No entry counts, and the tables are zeros.
use Rattle.std.proofs.Common.{ℕ, List, rules, ap, arith}
use Rattle.std.proofs.lemmas.List.{length-map}
use Rattle.sps_pass_two.specs.Making.{text_of_placed}
use Rattle.sps_listing.specs.Listing.{placed_texts}
use Rattle.console_debug.specs.declared.breaks.Breaks.{Breaks}
use Rattle.console_debug.specs.Breakpoints.{set_from, since_of}
use Rattle.console_debug.proofs.Tables.{tables_empty}
use Rattle.console_debug.proofs.breaks.Breaks.clear_all.Goals as goal

pub returns-clause-none_set : goal.returns-clause-none_set
unfolding set_from
returns-clause-none_set c = ap (λ (xs : List ℕ). set_from (since_of c.fill.new.self.items) 0 xs) c.clear.ensures.items

pub returns-clause-tables : goal.returns-clause-tables
returns-clause-tables c =
    let new : Breaks = record {
      statements = c.args.self.now.statements;
      log = c.clear.new.self;
      since = c.fill.new.self;
      times = c.fill-2.new.self;
      counts = c.fill-3.new.self;
      numbers = c.fill_numbers.new.numbers;
    } in
    let long = length-map c.args.assembled.now.placed text_of_placed in
    let few = c.args.assembled.now.few in
    tables_empty (placed_texts c.args.assembled.now) new _ _ _ c.clear.ensures.items
    (c.fill.ensures.items (λ y is. search (rules, is))) (c.fill-2.ensures.items (λ y is. search (rules, is))) (c.fill-3.ensures.items (λ y is. search (rules, is)))
    c.fill_numbers.ensures
    (omega (arith, long, few, c.requires.2, c.fill.ensures.len, c.fill.new.self.ok.0, c.args.self.now.since.ok.0))
    (omega (arith, long, few, c.requires.3, c.fill-2.ensures.len, c.fill-2.new.self.ok.0, c.args.self.now.times.ok.0))
