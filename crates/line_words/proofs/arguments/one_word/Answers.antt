use Rattle.std.proofs.Common.{sym}
use Rattle.line_words.proofs.WordsBehind.{not_one}
use Rattle.line_words.proofs.arguments.one_word.Goals as goal

pub returns-in_default-Some : goal.returns-in_default-Some
returns-in_default-Some c =
    sym (not_one c.args.behind c.cut_word.result.1 c.in_ok-behind.field-0 c.in_default-Some.field-0-1 c.cut_word.result.0.now c.in_ok-behind.was c.cut_word.ensures c.in_default-Some.is-1)
