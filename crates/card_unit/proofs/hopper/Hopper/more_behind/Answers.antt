use Rattle.std.proofs.Common.{refl, rules}
use Rattle.outside_io.specs.declared.host.Unit.TheVariants as units
use Rattle.card_code.proofs.LineEntries.{more_moves}
use Rattle.card_unit.proofs.Hoppers.{looks_moved, more_same, rest_behind}
use Rattle.card_unit.proofs.Ahead.{some_ahead, failed_ahead, rest_ahead}
use Rattle.card_unit.proofs.hopper.Hopper.more_behind.Goals as goal

pub returns-in-Failed-clause-behind : goal.returns-in-Failed-clause-behind
returns-in-Failed-clause-behind g c = search rules

pub returns-in-Failed-clause-deck : goal.returns-in-Failed-clause-deck
returns-in-Failed-clause-deck g c = search rules

pub returns-clause-behind : goal.returns-clause-behind
returns-clause-behind g c =
    let now = c.args.self.now in
    let middle = g.H.Host.seen c.more.new.host in
    let after = g.H.Host.seen c.more-2.new.host in
    rest_behind now _ c.more.new.self (g.H.Host.seen c.args.host.now) middle after c.in-No.ensures.looks c.in-No.ensures.entry.0 refl refl
    (looks_moved units.Data now.data c.more-2.new.self _ _ now.data_is (more_moves now.data c.more-2.new.self _ _ c.more-2.result c.more-2.ensures.more))
    (more_same _ _ middle after c.more-2.result c.more-2.ensures.entry) c.more-2.result c.in-No.ensures.entry.1 c.more-2.ensures.entry

pub returns-in-Yes-clause-ahead : goal.returns-in-Yes-clause-ahead
returns-in-Yes-clause-ahead g c = λ front some ahead. some_ahead c.args.self.now _ _ _ front some c.in-Yes.ensures.looks ahead refl refl c.in-Yes.ensures.entry.0 c.in-Yes.ensures.ahead

pub returns-in-Failed-clause-ahead : goal.returns-in-Failed-clause-ahead
returns-in-Failed-clause-ahead g c = λ front some ahead. failed_ahead c.args.self.now _ _ _ front some c.in-Failed.ensures.looks ahead refl c.in-Failed.ensures.entry.0 (c.in-Failed.ensures.turn (λ is. cc))

pub returns-clause-ahead : goal.returns-clause-ahead
returns-clause-ahead g c = λ front some ahead.
    let now = c.args.self.now in
    rest_ahead now _ c.more.new.self _ _ _ front some c.in-No.ensures.looks ahead refl c.in-No.ensures.entry.0 (c.in-No.ensures.turn (λ is. cc))
    (looks_moved units.Data now.data c.more-2.new.self _ _ now.data_is (more_moves now.data c.more-2.new.self _ _ c.more-2.result c.more-2.ensures.more))
    c.more-2.ensures.ahead c.more-2.result c.in-No.ensures.entry.1 c.more-2.ensures.turn
