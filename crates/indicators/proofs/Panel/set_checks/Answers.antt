use Rattle.std.proofs.Common.{rules}
use Rattle.indicators.proofs.Panel.set_checks.Goals as goal

pub returns : goal.returns
returns c = search rules
