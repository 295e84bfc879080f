use Rattle.std.proofs.Common.{◌≡◌, ◌≤◌, ◌+◌, ◌*◌, ◌++◌, take}
use Rattle.arrayvec.specs.ArrayString.{array_string_len}
use Rattle.messages.specs.Console.{further_numbers}
use Rattle.messages.proofs.console.push_further.Given as goal

abbrev pub invariant-loop-number : goal.invariant-loop-number
invariant-loop-number l = record {
  bytes : l.line.bytes ≡ l.fn.line.bytes ++ further_numbers l.width (take l.number-index l.numbers);
  len : array_string_len l.line ≤ array_string_len l.fn.line + 11 * l.number-index;
}
