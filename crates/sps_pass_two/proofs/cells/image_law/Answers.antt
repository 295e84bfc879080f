use Rattle.sps_pass_two.proofs.Overlay.{image_is}
use Rattle.sps_pass_two.proofs.cells.image_law.Goals as goal

pub returns : goal.returns
returns c = image_is
