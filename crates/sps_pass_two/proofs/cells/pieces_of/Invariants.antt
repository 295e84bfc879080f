use Rattle.std.proofs.Common.{◌≡◌, ◌≤◌, ◌++◌, ◌-◌, drop, map, length}
use Rattle.sps_pass_two.specs.Image.{pieces_from}
use Rattle.sps_pass_two.specs.Types.{run_of}
use Rattle.sps_pass_two.proofs.cells.pieces_of.Given as goal

abbrev pub invariant-loop-a : goal.invariant-loop-a
invariant-loop-a l = record {
  inside : l.a ≤ length l.image;
  whole : map run_of l.found.items ++ pieces_from l.a (drop l.a l.image) ≡ pieces_from 0 l.image;
}

abbrev pub decreases-loop-a : goal.decreases-loop-a
decreases-loop-a l = length l.image - l.a
