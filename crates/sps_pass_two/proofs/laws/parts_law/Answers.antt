use Rattle.sps_pass_two.proofs.PartNames.{parted_alike}
use Rattle.sps_pass_two.proofs.laws.parts_law.Goals as goal

pub returns : goal.returns
returns c = parted_alike
