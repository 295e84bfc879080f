-- One cell's character more.
use Rattle.card_code.proofs.CellWords.{shown_more}
use Rattle.card_code.proofs.words.put_by.Goals as goal

pub loop-j-preserved : goal.loop-j-preserved
loop-j-preserved c = shown_more c.args.table.now c.args.word c.loop-j.into c.loop-j.bits c.loop-j.j c.loop-j-test.true c.loop-j.invariant
