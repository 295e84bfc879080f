use Rattle.disk_1311.specs.Sector.{read_sector}
use Rattle.disk_1311.proofs.SectorsRead.{Reading}
use Rattle.disk_1311.proofs.sector.read_bytes.Given as goal

abbrev pub invariant-loop-k : goal.invariant-loop-k
invariant-loop-k g l = Reading l.core l.initial.core l.panel l.initial.panel (read_sector l.a l.bytes) l.a l.k l.bytes
