-- The host is fresh all the while: a file more binds no unit.
use Rattle.outside_io.specs.World.{IsFresh}
use Rattle.outside_io.specs.Mem.{mem_world}
use Rattle.job_rows.proofs.files.Files.host.Given as goal

abbrev pub invariant-loop-unit : goal.invariant-loop-unit
invariant-loop-unit l = IsFresh (mem_world l.host)
