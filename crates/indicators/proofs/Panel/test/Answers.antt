use Rattle.std.proofs.Common.{tests, rules}
use Rattle.indicators.proofs.Panel.test.Goals as goal

pub returns-then-matches-clause-panel : goal.returns-then-matches-clause-panel
unfolding Rattle.indicators.specs.Panel.goes_off
returns-then-matches-clause-panel c = search (tests, rules)
