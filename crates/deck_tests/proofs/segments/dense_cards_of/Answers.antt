use Rattle.std.proofs.Common.{◌∙◌, ap, map, arith}
use Rattle.deck_punch.specs.declared.form.DeckForm.TheVariants.{Dense}
use Rattle.deck_punch.specs.Types.{segment_run}
use Rattle.deck_punch.proofs.Pieces.{segment_placed}
use Rattle.deck_tests.proofs.segments.dense_cards_of.Goals as goal

pub dense_card_of-requires-clause-below : goal.dense_card_of-requires-clause-below
dense_card_of-requires-clause-below c =
    let placed = segment_placed Dense c.deref-segment-items.result.now c.args.image.now.pieces c.loop-segment.segment-index c.segment-item.result (ap (map segment_run) c.deref-segment-items.ensures.value ∙ c.in_ok-cut_dense.ensures) c.args.image.now.kept c.loop-segment-test.true c.segment-item.is in
    omega (arith, placed.below)

pub dense_card_of-requires-clause-good : goal.dense_card_of-requires-clause-good
dense_card_of-requires-clause-good c =
    (segment_placed Dense c.deref-segment-items.result.now c.args.image.now.pieces c.loop-segment.segment-index c.segment-item.result (ap (map segment_run) c.deref-segment-items.ensures.value ∙ c.in_ok-cut_dense.ensures) c.args.image.now.kept c.loop-segment-test.true c.segment-item.is).good
