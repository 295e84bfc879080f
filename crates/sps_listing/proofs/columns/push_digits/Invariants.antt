use Rattle.std.proofs.Common.{◌≡◌, ◌+◌, ◌++◌, drop}
use Rattle.arrayvec.specs.ArrayString.{array_string_len}
use Rattle.sps_listing.specs.Texts.{object_text}
use Rattle.sps_listing.proofs.columns.push_digits.Given as goal

abbrev pub invariant-loop-digit : goal.invariant-loop-digit
invariant-loop-digit l = record {
  len : array_string_len l.line ≡ array_string_len l.initial.line + l.digit-index;
  text : l.line.bytes ++ object_text (drop l.digit-index l.digits) ≡ l.initial.line.bytes ++ object_text l.digits;
}
