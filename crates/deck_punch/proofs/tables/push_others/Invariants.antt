use Rattle.std.proofs.Common.{◌≡◌, ◌++◌, drop, map}
use Rattle.sps_pass_two.specs.Types.{run_of}
use Rattle.deck_punch.specs.Tables.{other_pieces}
use Rattle.deck_punch.proofs.tables.push_others.Given as goal

abbrev pub invariant-loop-piece : goal.invariant-loop-piece
invariant-loop-piece l = record {
  are : map run_of l.piece-items ≡ l.image.pieces;
  whole : map run_of l.pieces.items ++ other_pieces (map run_of (drop l.piece-index l.piece-items)) ≡ map run_of l.initial.pieces.items ++ other_pieces l.image.pieces;
}
