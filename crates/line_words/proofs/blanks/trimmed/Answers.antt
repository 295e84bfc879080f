use Rattle.std.proofs.Common.{rules}
use Rattle.line_words.proofs.blanks.trimmed.Goals as goal

pub returns : goal.returns
returns c = search rules
