use Rattle.std.proofs.Common.{◌≡◌, ◌++◌, drop, map}
use Rattle.sps_pass_two.specs.Types.{run_of}
use Rattle.deck_punch.specs.Cut.{cut_as}
use Rattle.deck_punch.specs.Types.{segment_run}
use Rattle.deck_punch.proofs.cutting.cut_as.Given as goal

abbrev pub invariant-loop-piece : goal.invariant-loop-piece
invariant-loop-piece g l = record {
  are : map run_of l.piece-items ≡ l.image.pieces;
  whole : map segment_run l.segments.items ++ cut_as l.form (map run_of (drop l.piece-index l.piece-items)) ≡ map segment_run l.initial.segments.items ++ cut_as l.form l.image.pieces;
}
