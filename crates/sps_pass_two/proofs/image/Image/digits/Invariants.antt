use Rattle.std.proofs.Common.{◌≡◌, ◌+◌, drop, map}
use Rattle.sps_pass_two.specs.Kept.{digit_count}
use Rattle.sps_pass_two.specs.Types.{run_of}
use Rattle.sps_pass_two.proofs.image.Image.digits.Given as goal

abbrev pub invariant-loop-piece : goal.invariant-loop-piece
invariant-loop-piece l = l.count + digit_count (map run_of (drop l.piece-index l.piece-items)) ≡ digit_count l.self.pieces
