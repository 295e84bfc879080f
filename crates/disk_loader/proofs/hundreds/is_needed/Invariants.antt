use Rattle.std.proofs.Common.{◌≡◌, map, take}
use Rattle.sps_pass_two.specs.Types.{run_of}
use Rattle.disk_loader.specs.Hundreds.{is_needed}
use Rattle.disk_loader.proofs.hundreds.is_needed.Given as goal

abbrev pub invariant-loop-piece : goal.invariant-loop-piece
invariant-loop-piece l = l.needed ≡ is_needed (map run_of (take l.piece-index l.piece-items)) l.h
