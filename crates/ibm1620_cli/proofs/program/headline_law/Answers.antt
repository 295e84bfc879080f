use Rattle.ibm1620_cli.proofs.Entering.{headline}
use Rattle.ibm1620_cli.proofs.program.headline_law.Goals as goal

pub returns : goal.returns
returns c = headline
