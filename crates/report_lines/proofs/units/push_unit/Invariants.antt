use Rattle.std.proofs.Common.{◌≡◌, ◌+◌, ◌++◌, drop, map}
use Rattle.std.specs.Char.{to_ascii_uppercase}
use Rattle.arrayvec.specs.ArrayString.{array_string_len}
use Rattle.report_lines.proofs.units.push_unit.Given as goal

abbrev pub invariant-loop-letter : goal.invariant-loop-letter
invariant-loop-letter l = record {
  len : array_string_len l.line ≡ array_string_len l.initial.line + l.letter-index;
  bytes : l.line.bytes ++ map to_ascii_uppercase (drop l.letter-index l.letter-items) ≡ l.initial.line.bytes ++ map to_ascii_uppercase l.letter-items;
}
