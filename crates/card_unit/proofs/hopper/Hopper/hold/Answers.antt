use Rattle.std.proofs.Common.{refl, ◌∙◌}
use Rattle.outside_io.specs.declared.host.Unit.TheVariants as units
use Rattle.card_unit.proofs.Hoppers.{looks_moved, pile_apart, none_held, pile_lacks, rest_lacks, held_stays}
use Rattle.card_unit.proofs.Ahead.{data_ahead}
use Rattle.card_unit.proofs.ReadOn.{none_came}
use Rattle.card_unit.proofs.hopper.Hopper.hold.Goals as goal

pub returns-in_default-clause-holds : goal.returns-in_default-clause-holds
returns-in_default-clause-holds g c = pile_lacks c.args.self.now _ _ _ c.in-None.is refl c.hold.ensures.looks c.hold.result c.in_default.not-AtFront c.in_default.not-Empty c.hold.ensures.entry

pub returns-in_default-hold_line-clause-holds : goal.returns-in_default-hold_line-clause-holds
returns-in_default-hold_line-clause-holds g c =
    rest_lacks c.args.self.now _ c.hold.new.self _ _ _ c.in-None.is c.in-Empty.ensures.looks c.in-Empty.ensures.entry.1 c.in-Empty.ensures.entry.2 refl
    (looks_moved units.Data c.args.self.now.data c.hold_line.new.lines _ _ c.args.self.now.data_is c.hold_line.ensures.moves) c.hold_line.result c.in_default-hold_line.not-AtFront
    (rw c.in-Empty.ensures.entry.0 at c.hold_line.ensures.entry)

pub returns-in_default-hold_line-clause-reads : goal.returns-in_default-hold_line-clause-reads
returns-in_default-hold_line-clause-reads g c = λ start readings had.
    let same = none_held _ _ _ _ (g.H.Host.seen c.hold.new.host) (g.H.Host.seen c.hold_line.new.host) c.hold_line.result c.in_default-hold_line.not-AtFront c.hold_line.ensures.entry in
    none_came start readings c.args.self.now _ _ _ had
    (data_ahead c.args.self.now _ c.hold.new.self _ _ _ c.in-None.is refl c.in-Empty.ensures.looks c.in-Empty.ensures.turn (looks_moved units.Data c.args.self.now.data c.hold_line.new.lines _ _ c.args.self.now.data_is c.hold_line.ensures.moves) c.hold_line.ensures.turn had.ahead)
    refl refl (held_stays c.args.self.now _ _ _ c.hold_line.result (returns-in_default-hold_line-clause-holds g c)).left (same.0 ∙ c.in-Empty.ensures.entry.0) refl
    (pile_apart c.hold.new.self _ _ c.hold.ensures.unit (looks_moved units.Data c.args.self.now.data c.hold_line.new.lines _ _ c.args.self.now.data_is c.hold_line.ensures.moves) ∙ c.in-Empty.ensures.entry.1)
