use Rattle.std.proofs.Common.{◌+◌, ◌-◌, drop, length}
use Rattle.digit_core.specs.Size.{size}
use Rattle.card_code.specs.TextIn.{store_digits}
use Rattle.card_code.proofs.TextsStored.{Rest}
use Rattle.card_code.proofs.storing.store_digits.Given as goal

abbrev pub invariant-loop-k : goal.invariant-loop-k
invariant-loop-k g l = Rest l.core l.panel (store_digits (size g.row.M) (l.a + l.k) (drop l.k l.text)) l.initial.core l.initial.panel (store_digits (size g.row.M) l.a l.text)

abbrev pub decreases-loop-k : goal.decreases-loop-k
decreases-loop-k g l = length l.text - l.k
