use Rattle.disk_1311.specs.Sector.{compare_sector}
use Rattle.disk_1311.proofs.SectorsRead.{Comparing}
use Rattle.disk_1311.proofs.sector.compare_bytes.Given as goal

abbrev pub invariant-loop-k : goal.invariant-loop-k
invariant-loop-k g l = Comparing l.core l.panel l.initial.panel (compare_sector l.core l.a l.bytes) l.a l.k l.bytes
