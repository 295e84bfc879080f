use Rattle.std.proofs.Common.{◌≡◌, ◌+◌, ◌*◌, ◌-◌, length, take, map}
use Rattle.addr_indirect.specs.Reading.{read_up}
use Rattle.traces.specs.Trace.{map_answer}
use Rattle.card_code.specs.Characters.{object_char}
use Rattle.disk_1311.proofs.SectorsRead.{joined}
use Rattle.disk_1311.proofs.sector.sector_text.Given as goal

abbrev pub invariant-loop-k : goal.invariant-loop-k
invariant-loop-k g l = record {
  all : length l.text ≡ 100;
  rest : joined (take (10 * l.k) l.text) (read_up l.core (l.a + 10 * l.k) (100 - 10 * l.k)) ≡ map_answer (map object_char) (read_up l.core l.a 100);
}
