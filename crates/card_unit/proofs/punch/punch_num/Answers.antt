use Rattle.std.proofs.Common.{Ok}
use Rattle.traces.specs.Trace.{ends}
use Rattle.card_unit.specs.declared.reader.CardIo.TheVariants as io
use Rattle.card_unit.proofs.Punching.{card_sent, card_broken, ended_now}
use Rattle.card_unit.proofs.CardTexts.{numeric_card}
use Rattle.card_unit.proofs.punch.punch_num.Goals as goal

pub returns-in-Done : goal.returns-in-Done
returns-in-Done g c =
    let is = numeric_card c.args.core.now c.args.p c.in-Ok.card.0 c.in-Ok.ensures in
    rw is (card_sent c.in-Ok.card.0 (ends (Ok tt)) _ _ _ io.Done c.in-Done.ensures (ended_now _ (Ok tt)))

pub returns-in-Failed : goal.returns-in-Failed
returns-in-Failed g c =
    let is = numeric_card c.args.core.now c.args.p c.in-Ok.card.0 c.in-Ok.ensures in
    rw is (card_broken c.in-Ok.card.0 (ends (Ok tt)) _ _ c.in-Failed.ensures)
