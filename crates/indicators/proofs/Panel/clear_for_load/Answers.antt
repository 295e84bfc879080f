use Rattle.std.proofs.Common.{rules}
use Rattle.indicators.proofs.Panel.clear_for_load.Goals as goal

pub returns : goal.returns
unfolding Rattle.indicators.specs.Panel.set
returns c = search rules
