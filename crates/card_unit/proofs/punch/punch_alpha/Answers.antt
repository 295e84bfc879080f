use Rattle.std.proofs.Common.{◌-◌}
use Rattle.card_unit.proofs.Punching.{pairs_sent, pairs_broken, pairs_stopped}
use Rattle.card_unit.specs.Punch.{pair_text}
use Rattle.card_unit.proofs.CardTexts.{pair_text_silent}
use Rattle.card_unit.proofs.punch.punch_alpha.Goals as goal

pub returns-in-Done : goal.returns-in-Done
returns-in-Done g c =
    let pairs = pair_text c.args.core.now (c.args.p - 1) 80 in
    pairs_sent pairs.effects _ _ (pair_text_silent 80 c.args.core.now (c.args.p - 1)) c.pairs_card.ensures.panel pairs.answer c.in-Ok.card.0 _ _ c.in-Ok.ensures.text c.in-Done.ensures

pub returns-in-Failed : goal.returns-in-Failed
returns-in-Failed g c =
    let pairs = pair_text c.args.core.now (c.args.p - 1) 80 in
    pairs_broken pairs.effects _ _ (pair_text_silent 80 c.args.core.now (c.args.p - 1)) c.pairs_card.ensures.panel pairs.answer c.in-Ok.card.0 _ _ c.in-Ok.ensures.text c.in-Failed.ensures

pub returns-in-Err : goal.returns-in-Err
returns-in-Err g c =
    let pairs = pair_text c.args.core.now (c.args.p - 1) 80 in
    pairs_stopped pairs.effects _ _ (pair_text_silent 80 c.args.core.now (c.args.p - 1)) c.pairs_card.ensures.panel pairs.answer c.in-Err.stop _ c.in-Err.ensures.text
