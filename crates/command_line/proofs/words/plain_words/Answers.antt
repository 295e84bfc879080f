use Rattle.std.proofs.Common.{◌∙◌, sym, map, string_bytes}
use Rattle.std.proofs.lemmas.Result.{IfOk-weaker}
use Rattle.command_line.proofs.Walks.{plain_matched}
use Rattle.command_line.proofs.words.plain_words.Goals as goal

pub returns-clause-is : goal.returns-clause-is
returns-clause-is c = IfOk-weaker c.matched.result _ _ (λ said is. is ∙ plain_matched (map string_bytes c.args.words.now) (sym c.if-not-is_plain.ensures)) c.matched.ensures
