use Rattle.sps_pass_two.proofs.SourceCharacters.{allowed_is, in_order}
use Rattle.sps_pass_two.proofs.laws.characters_law.Goals as goal

pub returns-clause-allowed : goal.returns-clause-allowed
returns-clause-allowed c = allowed_is

pub returns-clause-order : goal.returns-clause-order
returns-clause-order c = in_order
