use Rattle.std.proofs.Common.{◌∙◌, map, sym, append_assoc, rules}
use Rattle.std.proofs.lemmas.List.{append-nil}
use Rattle.sps_pass_two.specs.Kept.{IsRunBelow}
use Rattle.deck_punch.specs.Types.{segment_run}
use Rattle.deck_punch.proofs.Pieces.{piece_on, piece_none, piece_is}
use Rattle.deck_punch.proofs.cutting.cut_as.Goals as goal

pub cut_piece-requires : goal.cut_piece-requires
cut_piece-requires g c = (search rules, (search rules, piece_is (IsRunBelow 60000) c.as_slice-piece-items.result.now c.args.image.now.pieces c.loop-piece.piece-index c.piece-item.result c.as_slice-piece-items.ensures c.args.image.now.kept.below c.loop-piece-test.true c.piece-item.is))

pub loop-piece-preserved : goal.loop-piece-preserved
loop-piece-preserved g c =
    let on = piece_on c.args.form c.as_slice-piece-items.result.now c.loop-piece.piece-index c.piece-item.result c.loop-piece-test.true c.piece-item.is in
    let w = rw on at c.loop-piece.invariant.whole in
    record { are = c.as_slice-piece-items.ensures; whole = rw (c.in_ok-cut_piece.ensures, append_assoc) w }

pub returns : goal.returns
returns g c =
    let none = piece_none c.args.form c.as_slice-piece-items.result.now c.loop-piece.piece-index c.loop-piece-test.false in
    let w = rw none at c.loop-piece.invariant.whole in
    sym (append-nil (map segment_run c.loop-piece.segments.items)) ∙ w
