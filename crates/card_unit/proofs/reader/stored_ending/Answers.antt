use Rattle.card_unit.proofs.CardsTallied.{none_taken_up}
use Rattle.card_unit.proofs.reader.stored_ending.Goals as goal

pub returns-else-panel-clause-tallied : goal.returns-else-panel-clause-tallied
returns-else-panel-clause-tallied c =
    let good = rw c.in-Ok.is at c.requires.good in
    none_taken_up c.args.hopper.now _ (good c.if-panel.false)
