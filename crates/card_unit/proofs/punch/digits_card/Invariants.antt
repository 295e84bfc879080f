use Rattle.std.proofs.Common.{◌≡◌, ◌≤◌, ◌+◌, ◌-◌, [], length, take}
use Rattle.addr_indirect.specs.Reading.{read_up}
use Rattle.card_unit.proofs.CardsPunched.{IsBlankFrom, joined}
use Rattle.card_unit.proofs.punch.digits_card.Given as goal

abbrev pub invariant-loop-k : goal.invariant-loop-k
invariant-loop-k g l = record {
  within : l.k ≤ l.count;
  all : length l.columns ≡ 80;
  blank : IsBlankFrom l.k l.columns;
  rest : joined (take l.k l.columns) (read_up l.core (l.a + l.k) (l.count - l.k)) ≡ joined [] (read_up l.core l.a l.count);
}

abbrev pub decreases-loop-k : goal.decreases-loop-k
decreases-loop-k g l = l.count - l.k
