use Rattle.std.proofs.Common.{◌≡◌, ◌+◌, ◌++◌, replicate}
use Rattle.arrayvec.specs.ArrayString.{array_string_len}
use Rattle.sps_listing.proofs.columns.push_columns.Given as goal

abbrev pub invariant-loop-blank : goal.invariant-loop-blank
invariant-loop-blank l = record {
  bytes : l.line.bytes ≡ l.initial.line.bytes ++ replicate l._blank 32;
  len : array_string_len l.line ≡ array_string_len l.initial.line + l._blank;
}
