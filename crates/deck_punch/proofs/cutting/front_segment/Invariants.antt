use Rattle.std.proofs.Common.{◌≡◌, take}
use Rattle.deck_punch.proofs.cutting.front_segment.Given as goal

abbrev pub invariant-loop-digit : goal.invariant-loop-digit
invariant-loop-digit g l = l.front.items ≡ take l.digit-index l.digit-items
