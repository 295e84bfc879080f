use Rattle.std.proofs.Common.{◌+◌, ◌*◌, drop}
use Rattle.card_code.proofs.TextsStored.{Rest}
use Rattle.disk_1311.specs.Sector.{read_sector}
use Rattle.disk_1311.proofs.sector.read_sector.Given as goal

abbrev pub invariant-loop-k : goal.invariant-loop-k
invariant-loop-k g l = Rest l.core l.panel (read_sector (l.a + 10 * l.k) (drop (10 * l.k) l.bytes)) l.initial.core l.initial.panel (read_sector l.a l.bytes)
