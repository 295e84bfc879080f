use Rattle.ibm1620_cli.proofs.PlacingOrder.{placing_order}
use Rattle.ibm1620_cli.proofs.disk.placing_law.Goals as goal

pub returns : goal.returns
returns c = placing_order
