use Rattle.std.proofs.Common.{rules}
use Rattle.card_code.proofs.storing.store_pair.Goals as goal

pub returns-then-at-end-2 : goal.returns-then-at-end-2
returns-then-at-end-2 c = search rules

pub returns : goal.returns
returns c = search rules

pub returns-then-at-end : goal.returns-then-at-end
returns-then-at-end c = search rules
