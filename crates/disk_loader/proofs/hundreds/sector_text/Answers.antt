use Rattle.std.proofs.Common.{◌*◌, ◌∙◌, List, map, take, arith, subst, sym}
use Rattle.sps_pass_two.specs.Kept.{IsPiece, IsRunBelow}
use Rattle.sps_pass_two.specs.Image.{DigitRun}
use Rattle.sps_pass_two.specs.Types.{run_of}
use Rattle.deck_punch.proofs.Pieces.{piece_is}
use Rattle.disk_loader.proofs.Texts.{HasText, needed_first, needed_no, needed_yes, none_in, pieces_all, pieces_on, some_in, text_first, text_on}
use Rattle.disk_loader.proofs.hundreds.sector_text.Goals as goal
use Rattle.disk_loader.proofs.hundreds.sector_text.Goals.{then-reached, else-reached}

pub lay-reached-requires-clause-piece : goal.lay-reached-requires-clause-piece
lay-reached-requires-clause-piece c =
    piece_is IsPiece c.as_slice-piece-items.result.now c.args.assembled.now.image.pieces c.loop-piece.piece-index c.piece-item.result c.as_slice-piece-items.ensures c.args.assembled.now.image.kept.each c.loop-piece-test.true c.piece-item.is

pub lay-reached-requires-clause-below : goal.lay-reached-requires-clause-below
lay-reached-requires-clause-below c =
    piece_is (IsRunBelow 60000) c.as_slice-piece-items.result.now c.args.assembled.now.image.pieces c.loop-piece.piece-index c.piece-item.result c.as_slice-piece-items.ensures c.args.assembled.now.image.kept.below c.loop-piece-test.true c.piece-item.is

pub loop-piece-init : goal.loop-piece-init
loop-piece-init c = (text_first (100 * c.args.h) c.beneath-text.result c.beneath-text.ensures, c.holds_tables-needed.ensures ∙ needed_first c.args.h)

pub loop-piece-preserved : goal.loop-piece-preserved
loop-piece-preserved c =
    let are = pieces_on c.as_slice-piece-items.result.now c.loop-piece.piece-index c.piece-item.result c.loop-piece-test.true c.piece-item.is in
    let gs : List DigitRun = map run_of (take c.loop-piece.piece-index c.as_slice-piece-items.result.now) in
    let r : DigitRun = run_of c.piece-item.result in (
      subst (λ (g : List DigitRun). HasText g (100 * c.args.h) c.lay-reached.new.text) (sym are)
          (text_on gs r (100 * c.args.h) c.loop-piece.text c.lay-reached.new.text c.type_inv.text c.lay-reached.ensures.text c.loop-piece.invariant.0),
      elim c.if-reached.branch [
        | then-reached w ↦ needed_yes gs _ r c.args.h are c.lay-reached.ensures.reaches w.if-reached.true (w.needed-is ∙ w.if-reached.true)
        | else-reached w ↦ needed_no gs _ r c.args.h are c.lay-reached.ensures.reaches w.if-reached.false c.loop-piece.invariant.1 w.needed-is
      ],
    )

pub returns-then-needed : goal.returns-then-needed
returns-then-needed c =
    let all = pieces_all c.as_slice-piece-items.result.now c.loop-piece.piece-index c.args.assembled.now.image.pieces (omega arith) c.as_slice-piece-items.ensures in
    some_in _ c.args.assembled.now.image.pieces c.args.h c.loop-piece.text all c.loop-piece.invariant.0 c.loop-piece.invariant.1 c.if-needed.true

pub returns-else-needed : goal.returns-else-needed
returns-else-needed c =
    let all = pieces_all c.as_slice-piece-items.result.now c.loop-piece.piece-index c.args.assembled.now.image.pieces (omega arith) c.as_slice-piece-items.ensures in
    none_in _ c.args.assembled.now.image.pieces c.args.h all c.loop-piece.invariant.1 c.if-needed.false
