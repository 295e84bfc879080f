use Rattle.std.proofs.Common.{ap}
use Rattle.outside_io.specs.declared.host.Unit.TheVariants as units
use Rattle.sps_pass_two.specs.Kept.{IsPiece, IsRunBelow}
use Rattle.sps_listing.specs.Texts.{image_text}
use Rattle.sps_listing.proofs.ImageLines.{one_piece, no_piece, piece_at}
use Rattle.sps_listing.proofs.Sending.{begins_as, more_sent, cut_off, all_sent, left_as}
use Rattle.sps_listing.proofs.image.image_text.Goals as goal

pub loop-piece-init : goal.loop-piece-init
loop-piece-init g c = begins_as _ units.Image _ _ (ap image_text c.as_slice-piece-items.ensures)

pub write_piece-requires : goal.write_piece-requires
write_piece-requires g c = record {
  piece = piece_at IsPiece c.args.image.now.pieces c.as_slice-piece-items.result.now c.loop-piece.piece-index c.piece-item.result c.as_slice-piece-items.ensures c.args.image.now.kept.each c.loop-piece-test.true c.piece-item.is;
  below = piece_at (IsRunBelow 60000) c.args.image.now.pieces c.as_slice-piece-items.result.now c.loop-piece.piece-index c.piece-item.result c.as_slice-piece-items.ensures c.args.image.now.kept.below c.loop-piece-test.true c.piece-item.is;
}

pub returns-in-Failed : goal.returns-in-Failed
returns-in-Failed g c =
    let next = left_as _ _ units.Image _ _ _ (one_piece c.as_slice-piece-items.result.now c.loop-piece.piece-index c.piece-item.result c.loop-piece-test.true c.piece-item.is) c.loop-piece.invariant in
    cut_off _ _ _ units.Image _ _ _ next c.in-Failed.ensures

pub loop-piece-preserved : goal.loop-piece-preserved
loop-piece-preserved g c =
    let next = left_as _ _ units.Image _ _ _ (one_piece c.as_slice-piece-items.result.now c.loop-piece.piece-index c.piece-item.result c.loop-piece-test.true c.piece-item.is) c.loop-piece.invariant in
    more_sent _ _ _ units.Image _ _ _ next c.in-Done.ensures

pub returns : goal.returns
returns g c =
    all_sent _ _ units.Image _ (left_as _ _ units.Image _ _ _ (no_piece c.as_slice-piece-items.result.now c.loop-piece.piece-index c.loop-piece-test.false) c.loop-piece.invariant)
