use Rattle.std.proofs.Common.{◌≡◌, ◌≤◌, ◌+◌, drop}
use Rattle.disk_1311.specs.Control.{number_from, number_of_digits}
use Rattle.disk_1311.proofs.Numbers.{cap}
use Rattle.disk_1311.proofs.control.number_of_digits.Given as goal

abbrev pub invariant-loop-digit : goal.invariant-loop-digit
invariant-loop-digit l = record {
  rest : number_from l.number (drop l.digit-index l.digits) ≡ number_of_digits l.digits;
  small : l.number + 29 ≤ cap l.digit-index;
}
