use Rattle.std.proofs.Common.{rules}
use Rattle.card_code.proofs.lines.Lines.hand_out.Goals as goal

pub returns-then-text-gt80 : goal.returns-then-text-gt80
returns-then-text-gt80 c = search rules

pub returns-then-ends : goal.returns-then-ends
returns-then-ends c = search rules

pub returns-else-ends : goal.returns-else-ends
returns-else-ends c = search rules
