use Rattle.std.proofs.Common.{◌≡◌, ◌+◌, ◌-◌, ◌*◌, drop, length}
use Rattle.digit_core.specs.Size.{size}
use Rattle.card_code.specs.TextIn.{store_pairs}
use Rattle.card_code.proofs.TextsStored.{Rest}
use Rattle.card_code.proofs.storing.store_pairs.Given as goal

abbrev pub invariant-loop-k : goal.invariant-loop-k
invariant-loop-k g l = record {
  place : l.at ≡ l.a + 2 * l.k;
  rest : Rest l.core l.panel (store_pairs (size g.row.M) l.at (drop l.k l.text)) l.initial.core l.initial.panel (store_pairs (size g.row.M) l.a l.text);
}

abbrev pub decreases-loop-k : goal.decreases-loop-k
decreases-loop-k g l = length l.text - l.k
