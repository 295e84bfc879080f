use Rattle.sps_pass_two.proofs.KeptPieces.{are_kept}
use Rattle.sps_pass_two.proofs.cells.kept_law.Goals as goal

pub returns : goal.returns
returns c = are_kept
