use Rattle.std.proofs.Common.{◌≡◌, ◌+◌, ◌*◌, length}
use Rattle.card_unit.specs.Punch.{pair_text}
use Rattle.card_unit.proofs.CardsPunched.{PairsGoing}
use Rattle.card_unit.proofs.punch.pairs_card.Given as goal

abbrev pub invariant-loop-i : goal.invariant-loop-i
invariant-loop-i g l = record {
  all : length l.columns ≡ 80;
  going : PairsGoing l.core l.a (5 * l.i) l.columns l.panel l.fn.panel (pair_text l.core l.a 80);
}

abbrev pub invariant-loop-j : goal.invariant-loop-j
invariant-loop-j g l = record {
  all : length l.columns ≡ 80;
  going : PairsGoing l.core l.a (5 * l.i + l.j) l.columns l.panel l.fn.panel (pair_text l.core l.a 80);
}
