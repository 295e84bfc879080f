use Rattle.std.proofs.Common.{◌∙◌, sym, arith}
use Rattle.line_words.proofs.EndBlanks.{back_blank, back_other}
use Rattle.line_words.proofs.blanks.without_back.Goals as goal

pub returns-then-text-len-ne32 : goal.returns-then-text-len-ne32
returns-then-text-len-ne32 c = sym (back_other c.args.text.now c.loop-len.len (omega arith) c.loop-len.invariant.0 c.if-text-len-ne32.true) ∙ c.loop-len.invariant.1

pub loop-len-preserved : goal.loop-len-preserved
loop-len-preserved c = (omega arith, back_blank c.args.text.now c.loop-len.len (omega arith) c.loop-len.invariant.0 c.if-text-len-ne32.false ∙ c.loop-len.invariant.1)
