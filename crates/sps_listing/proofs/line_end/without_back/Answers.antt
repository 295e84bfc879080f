use Rattle.std.proofs.Common.{◌∙◌, sym, arith}
use Rattle.line_words.proofs.EndBlanks.{back_blank, back_other}
use Rattle.sps_listing.proofs.line_end.without_back.Goals as goal

pub returns-then-line-len-ne32 : goal.returns-then-line-len-ne32
returns-then-line-len-ne32 c =
    let i = c.loop-len.invariant in
    sym (back_other c.args.line.now c.loop-len.len (omega arith) i.fits c.if-line-len-ne32.true) ∙ i.same

pub loop-len-preserved : goal.loop-len-preserved
loop-len-preserved c =
    let i = c.loop-len.invariant in
    record {
      fits = omega arith;
      same = back_blank c.args.line.now c.loop-len.len (omega arith) i.fits c.if-line-len-ne32.false ∙ i.same;
    }
