use Rattle.std.proofs.Common.{◌∙◌, map, sym, append_assoc}
use Rattle.std.proofs.lemmas.List.{append-nil}
use Rattle.sps_pass_two.specs.Kept.{IsRunBelow}
use Rattle.sps_pass_two.specs.Types.{run_of}
use Rattle.deck_punch.proofs.Pieces.{piece_is}
use Rattle.deck_punch.proofs.WithTables.{others_on, others_none}
use Rattle.deck_punch.proofs.tables.push_others.Goals as goal

pub push_left-requires : goal.push_left-requires
push_left-requires c = piece_is (IsRunBelow 60000) c.as_slice-piece-items.result.now c.args.image.now.pieces c.loop-piece.piece-index c.piece-item.result c.as_slice-piece-items.ensures c.args.image.now.kept.below c.loop-piece-test.true c.piece-item.is

pub loop-piece-preserved : goal.loop-piece-preserved
loop-piece-preserved c =
    let on = others_on c.as_slice-piece-items.result.now c.loop-piece.piece-index c.piece-item.result c.loop-piece-test.true c.piece-item.is in
    let w = rw on at c.loop-piece.invariant.whole in
    record { are = c.as_slice-piece-items.ensures; whole = rw (c.in_ok-push_left.ensures, append_assoc) w }

pub returns : goal.returns
returns c =
    let none = others_none c.as_slice-piece-items.result.now c.loop-piece.piece-index c.loop-piece-test.false in
    let w = rw none at c.loop-piece.invariant.whole in
    sym (append-nil (map run_of c.loop-piece.pieces.items)) ∙ w
