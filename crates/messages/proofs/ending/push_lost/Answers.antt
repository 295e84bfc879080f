use Rattle.messages.proofs.Whole.{whole_end}
use Rattle.messages.proofs.ending.push_lost.Goals as goal

pub returns-clause-whole : goal.returns-clause-whole
returns-clause-whole c = λ _. rw c.push_str-4.ensures.bytes (whole_end _)
