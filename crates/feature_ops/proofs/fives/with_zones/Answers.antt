use Rattle.std.proofs.Common.{ℕ, ◌≡◌, ◌/◌, ◌%◌, refl, arith}
use Rattle.digit_core.specs.Packed.{six}
use Rattle.feature_ops.proofs.Sums.{ten_zoned}
use Rattle.feature_ops.proofs.fives.with_zones.Goals as goal

lowest : (w : ℕ) → w % 64 ≡ six w 0
lowest w = omega arith

pub returns : goal.returns
returns c =
    let w = c.args.five in
    ten_zoned (w % 64) (w / 64 % 64) (w / 4096 % 64) (w / 262144 % 64) (w / 16777216 % 64)
    (omega arith) (omega arith) (omega arith) (omega arith) (omega arith) w (lowest w) refl refl refl refl
