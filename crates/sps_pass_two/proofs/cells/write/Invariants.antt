use Rattle.std.proofs.Common.{◌≡◌, ◌+◌, drop}
use Rattle.sps_pass_two.specs.Writing.{with_digits}
use Rattle.sps_pass_two.proofs.cells.write.Given as goal

abbrev pub invariant-loop-i : goal.invariant-loop-i
invariant-loop-i l = with_digits l.image.items (l.from + l.i) (drop l.i l.digits) ≡ with_digits l.initial.image.items l.from l.digits
