use Rattle.std.proofs.Common.{rules}
use Rattle.card_code.proofs.pairs.char_of_pair.Goals as goal

pub returns-in-None-clause-seen : goal.returns-in-None-clause-seen
returns-in-None-clause-seen c = search rules
