use Rattle.std.proofs.Common.{◌∙◌, ap, map, arith}
use Rattle.deck_punch.specs.declared.form.DeckForm.TheVariants.{SelfLoading}
use Rattle.deck_punch.specs.Types.{segment_run}
use Rattle.deck_punch.proofs.Pieces.{segment_placed}
use Rattle.deck_tests.proofs.segments.cards_of.Goals as goal

pub card_of-requires-clause-below : goal.card_of-requires-clause-below
card_of-requires-clause-below c =
    let placed = segment_placed SelfLoading c.deref-segment-items.result.now c.args.image.now.pieces c.loop-segment.segment-index c.segment-item.result (ap (map segment_run) c.deref-segment-items.ensures.value ∙ c.in_ok-cut.ensures) c.args.image.now.kept c.loop-segment-test.true c.segment-item.is in
    omega (arith, placed.below)

pub card_of-requires-clause-good : goal.card_of-requires-clause-good
card_of-requires-clause-good c =
    (segment_placed SelfLoading c.deref-segment-items.result.now c.args.image.now.pieces c.loop-segment.segment-index c.segment-item.result (ap (map segment_run) c.deref-segment-items.ensures.value ∙ c.in_ok-cut.ensures) c.args.image.now.kept c.loop-segment-test.true c.segment-item.is).good
