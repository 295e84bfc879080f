-- So many cores are there.
use Rattle.std.proofs.Common.{◌≡◌}
use Rattle.std.specs.Prelude.{vec_len, vec_capacity}
use Rattle.rewind_log.specs.Kept.{most_places}
use Rattle.rewind_log.proofs.Rewind.new.Given as goal

abbrev pub invariant-loop-place : goal.invariant-loop-place
invariant-loop-place g l = record {
  len : vec_len l.spare ≡ l._place;
  capacity : vec_capacity l.spare ≡ most_places;
}
