-- The host is fresh all the while: sectors are no texts, and no unit is bound.
use Rattle.outside_io.specs.World.{IsFresh}
use Rattle.outside_io.specs.Mem.{mem_world}
use Rattle.job_rows.proofs.files.write_all.Given as goal

abbrev pub invariant-loop-a : goal.invariant-loop-a
invariant-loop-a l = IsFresh (mem_world l.host)
