use Rattle.std.proofs.Common.{length, ap, arith}
use Rattle.sps_pass_two.proofs.Holding.{few_digits}
use Rattle.sps_pass_two.proofs.Counting.{one_piece, no_piece}
use Rattle.sps_pass_two.proofs.image.Image.digits.Goals as goal

pub overflow_cast-count : goal.overflow_cast-count
overflow_cast-count c =
    let few = few_digits c.args.self.now.pieces c.args.self.now.kept.rising c.args.self.now.kept.below in
    let one = one_piece c.as_slice-piece-items.result.now c.loop-piece.piece-index c.piece-item.result c.loop-piece-test.true c.piece-item.is in
    let size = ap length c.as_slice.ensures in
    let sum = c.loop-piece.invariant in
    omega (arith, few, one, size, sum)

pub overflow_add-count : goal.overflow_add-count
overflow_add-count c =
    let few = few_digits c.args.self.now.pieces c.args.self.now.kept.rising c.args.self.now.kept.below in
    let one = one_piece c.as_slice-piece-items.result.now c.loop-piece.piece-index c.piece-item.result c.loop-piece-test.true c.piece-item.is in
    let size = ap length c.as_slice.ensures in
    let sum = c.loop-piece.invariant in
    omega (arith, few, one, size, sum)

pub loop-piece-preserved : goal.loop-piece-preserved
loop-piece-preserved c =
    let one = one_piece c.as_slice-piece-items.result.now c.loop-piece.piece-index c.piece-item.result c.loop-piece-test.true c.piece-item.is in
    let size = ap length c.as_slice.ensures in
    let sum = c.loop-piece.invariant in
    omega (arith, one, size, sum)

pub returns : goal.returns
returns c =
    let none = no_piece c.as_slice-piece-items.result.now c.loop-piece.piece-index c.loop-piece-test.false in
    let sum = c.loop-piece.invariant in
    omega (arith, none, sum)
