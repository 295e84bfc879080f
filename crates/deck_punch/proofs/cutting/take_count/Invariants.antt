use Rattle.std.proofs.Common.{◌≡◌, ◌≤◌, ◌+◌, ◌-◌, drop}
use Rattle.deck_punch.specs.Cut.{take_count}
use Rattle.deck_punch.proofs.cutting.take_count.Given as goal

abbrev pub invariant-loop-i : goal.invariant-loop-i
invariant-loop-i l = record {
  some : 1 ≤ l.left;
  whole : take_count l.flags l.room l.digits ≡ l.i + take_count l.left (l.room - l.i) (drop l.i l.digits);
}
