use Rattle.std.proofs.Common.{◌≡◌, ◌++◌, drop}
use Rattle.sps_pass_two.specs.Writing.{front_digits}
use Rattle.sps_pass_two.proofs.cells.run_at.Given as goal

abbrev pub invariant-loop-a : goal.invariant-loop-a
invariant-loop-a l = l.digits.items ++ front_digits (drop l.a l.image) ≡ front_digits (drop l.from l.image)
