use Rattle.messages.proofs.Whole.{whole_end}
use Rattle.messages.proofs.console.console_line.Goals as goal

pub returns-clause-whole : goal.returns-clause-whole
returns-clause-whole c = rw c.push_str-4.ensures.bytes (whole_end _)
