use Rattle.std.proofs.Common.{◌-◌}
use Rattle.outside_io.proofs.pack_file.fill_up.Given as goal

abbrev pub decreases-loop-has : goal.decreases-loop-has
decreases-loop-has g l = l.wanted - l.has
