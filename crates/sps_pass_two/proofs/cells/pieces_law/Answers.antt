use Rattle.sps_pass_two.proofs.Apart.{are_pieces}
use Rattle.sps_pass_two.proofs.cells.pieces_law.Goals as goal

pub returns : goal.returns
returns c = are_pieces
