use Rattle.std.proofs.Common.{◌≡◌, ◌+◌, ◌-◌, length, take, map}
use Rattle.addr_indirect.specs.Reading.{read_up}
use Rattle.traces.specs.Trace.{map_answer}
use Rattle.card_code.specs.Characters.{object_char}
use Rattle.disk_1311.proofs.SectorsRead.{joined}
use Rattle.disk_1311.proofs.sector.cell_chars.Given as goal

abbrev pub invariant-loop-k : goal.invariant-loop-k
invariant-loop-k g l = record {
  all : length l.chars ≡ 10;
  rest : joined (take l.k l.chars) (read_up l.core (l.a + l.k) (10 - l.k)) ≡ map_answer (map object_char) (read_up l.core l.a 10);
}
