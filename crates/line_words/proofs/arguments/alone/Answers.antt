use Rattle.std.proofs.Common.{sym}
use Rattle.line_words.proofs.WordsBehind.{not_alone}
use Rattle.line_words.proofs.arguments.alone.Goals as goal

pub returns-in-Some : goal.returns-in-Some
returns-in-Some g c = sym (not_alone c.args.item c.args.behind c.in-Some.field-0 c.in-Some.is)
