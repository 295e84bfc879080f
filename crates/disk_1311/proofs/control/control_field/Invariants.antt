use Rattle.std.proofs.Common.{◌≡◌, ◌≤◌, ◌+◌, ◌-◌, length, take}
use Rattle.std.specs.List.{All}
use Rattle.addr_indirect.specs.Reading.{decimals_up}
use Rattle.disk_1311.proofs.Fields.{joined}
use Rattle.disk_1311.proofs.control.control_field.Given as goal

abbrev pub invariant-loop-k : goal.invariant-loop-k
invariant-loop-k g l = record {
  all : length l.digits ≡ 14;
  decimal : All (λ v. v ≤ 9) l.digits;
  rest : joined (take l.k l.digits) (decimals_up l.core (l.at + l.k) (14 - l.k)) ≡ decimals_up l.core l.at 14;
}
