use Rattle.std.proofs.Common.{◌/◌, ◌%◌, refl, arith}
use Rattle.feature_ops.proofs.Sums.{odd_are}
use Rattle.feature_ops.proofs.fives.odd_cells.Goals as goal

pub returns-clause-cells : goal.returns-clause-cells
returns-clause-cells c =
    let w = c.args.w in
    odd_are (w / 64 % 64) (w / 262144 % 64) (w / 1073741824 % 64) (w / 4398046511104 % 64) (w / 18014398509481984 % 64) w
    (omega arith) (omega arith) (omega arith) (omega arith) (omega arith) refl refl refl refl refl
