use Rattle.std.proofs.Common.{◌∙◌, List, map, take, arith}
use Rattle.sps_pass_two.specs.Kept.{IsRunBelow}
use Rattle.sps_pass_two.specs.Image.{DigitRun}
use Rattle.sps_pass_two.specs.Types.{run_of}
use Rattle.deck_punch.proofs.Pieces.{piece_is}
use Rattle.disk_loader.proofs.Texts.{needed_all, needed_first, needed_no, needed_yes, pieces_all, pieces_on}
use Rattle.disk_loader.proofs.hundreds.is_needed.Goals as goal
use Rattle.disk_loader.proofs.hundreds.is_needed.Goals.{then-reached, else-reached}

pub reaches-reached-requires-clause-below : goal.reaches-reached-requires-clause-below
reaches-reached-requires-clause-below c =
    piece_is (IsRunBelow 60000) c.as_slice-piece-items.result.now c.args.assembled.now.image.pieces c.loop-piece.piece-index c.piece-item.result c.as_slice-piece-items.ensures c.args.assembled.now.image.kept.below c.loop-piece-test.true c.piece-item.is

pub loop-piece-init : goal.loop-piece-init
loop-piece-init c = c.holds_tables-needed.ensures ∙ needed_first c.args.h

pub loop-piece-preserved : goal.loop-piece-preserved
loop-piece-preserved c =
    let are = pieces_on c.as_slice-piece-items.result.now c.loop-piece.piece-index c.piece-item.result c.loop-piece-test.true c.piece-item.is in
    let gs : List DigitRun = map run_of (take c.loop-piece.piece-index c.as_slice-piece-items.result.now) in
    let r : DigitRun = run_of c.piece-item.result in
    elim c.if-reached.branch [
      | then-reached w ↦ needed_yes gs _ r c.args.h are c.reaches-reached.ensures w.if-reached.true (w.needed-is ∙ w.if-reached.true)
      | else-reached w ↦ needed_no gs _ r c.args.h are c.reaches-reached.ensures w.if-reached.false c.loop-piece.invariant w.needed-is
    ]

pub returns : goal.returns
returns c =
    needed_all _ c.args.assembled.now.image.pieces c.args.h (pieces_all c.as_slice-piece-items.result.now c.loop-piece.piece-index c.args.assembled.now.image.pieces (omega arith) c.as_slice-piece-items.ensures) c.loop-piece.invariant
