use Rattle.std.proofs.Common.{◌≡◌, ◌+◌, ◌++◌, replicate}
use Rattle.arrayvec.specs.ArrayString.{array_string_len}
use Rattle.report_lines.proofs.numbers.push_filled.Given as goal

abbrev pub invariant-loop-zero : goal.invariant-loop-zero
invariant-loop-zero l = record {
  bytes : l.line.bytes ≡ l.initial.line.bytes ++ replicate l._zero 48;
  len : array_string_len l.line ≡ array_string_len l.initial.line + l._zero;
}
