-- The table of the code is that of the definition.
use Rattle.std.proofs.Common.{◌∙◌, ap}
use Rattle.line_words.specs.Rows.{value_by_name}
use Rattle.command_line.specs.Words.{commands}
use Rattle.command_line.proofs.words.command_of.Goals as goal

pub returns : goal.returns
returns c = c.find.ensures ∙ ap (value_by_name commands) c.as_bytes.ensures.value
