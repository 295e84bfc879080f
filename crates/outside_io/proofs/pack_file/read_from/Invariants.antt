use Rattle.std.proofs.Common.{◌-◌, ◌≤◌}
use Rattle.outside_io.proofs.pack_file.read_from.Given as goal

abbrev pub invariant-loop-n : goal.invariant-loop-n
invariant-loop-n g l = l.n ≤ 100

abbrev pub decreases-loop-n : goal.decreases-loop-n
decreases-loop-n g l = 100 - l.n
