use Rattle.std.proofs.Common.{◌+◌, ◌*◌, drop}
use Rattle.card_code.proofs.TextsStored.{Rest}
use Rattle.disk_1311.specs.Sector.{compare_sector}
use Rattle.disk_1311.proofs.sector.compare_sector.Given as goal

abbrev pub invariant-loop-k : goal.invariant-loop-k
invariant-loop-k g l = Rest l.core l.panel (compare_sector l.core (l.a + 10 * l.k) (drop (10 * l.k) l.bytes)) l.core l.initial.panel (compare_sector l.core l.a l.bytes)
