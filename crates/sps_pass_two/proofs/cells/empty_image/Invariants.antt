use Rattle.std.proofs.Common.{◌≡◌, replicate, None}
use Rattle.sps_pass_two.proofs.cells.empty_image.Given as goal

abbrev pub invariant-loop-i : goal.invariant-loop-i
invariant-loop-i l = l.image.items ≡ replicate l.i None
