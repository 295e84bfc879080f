use Rattle.std.proofs.Common.{◌≡◌, ◌≤◌, ◌-◌, [], length}
use Rattle.card_unit.proofs.CardTexts.{dumped}
use Rattle.card_unit.proofs.Punching.{Onward}
use Rattle.card_unit.proofs.punch.dump.Given as goal

abbrev pub invariant-loop-a : goal.invariant-loop-a
invariant-loop-a g l = record {
  long : length l.core ≡ l.size;
  within : l.a ≤ l.size;
  onward : Onward (dumped l.core l.a []) (g.H.Host.seen l.host) (dumped l.core l.p []) (g.H.Host.seen l.initial.host);
}

abbrev pub decreases-loop-a : goal.decreases-loop-a
decreases-loop-a g l = l.size - l.a
