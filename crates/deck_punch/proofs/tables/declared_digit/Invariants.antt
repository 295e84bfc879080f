use Rattle.std.proofs.Common.{◌≡◌, drop, map}
use Rattle.sps_pass_two.specs.Image.{declared_digit, or_else}
use Rattle.sps_pass_two.specs.Types.{run_of}
use Rattle.deck_punch.proofs.tables.declared_digit.Given as goal

abbrev pub invariant-loop-piece : goal.invariant-loop-piece
invariant-loop-piece l = record {
  are : map run_of l.piece-items ≡ l.image.pieces;
  whole : or_else (declared_digit (map run_of (drop l.piece-index l.piece-items)) l.a) l.found ≡ declared_digit l.image.pieces l.a;
}
