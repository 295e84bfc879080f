-- A blank was found, or none.
use Rattle.std.proofs.Common.{◌∙◌, sym}
use Rattle.line_words.proofs.Cutting.{words_cut, words_uncut}
use Rattle.line_words.proofs.words.cut_word.Goals as goal

pub returns-in-Some : goal.returns-in-Some
returns-in-Some c = words_cut c.args.text.now c.in-Some.end (sym c.first_blank.ensures ∙ c.in-Some.is)

pub returns-in-None : goal.returns-in-None
returns-in-None c = words_uncut c.args.text.now (sym c.first_blank.ensures ∙ c.in-None.is)
