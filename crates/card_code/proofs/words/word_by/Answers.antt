-- One character's cell more is joined to the word.
use Rattle.std.proofs.Common.{get_or, rules}
use Rattle.card_code.proofs.CellWords.{joined_more}
use Rattle.card_code.proofs.words.word_by.Goals as goal

pub loop-j-preserved : goal.loop-j-preserved
loop-j-preserved c =
    rw c.from.ensures
    (joined_more c.args.table.now c.args.text.now c.loop-j.word c.loop-j.j c.loop-j-test.true
    (c.requires.sixes (get_or c.args.text.now c.loop-j.j 0) (let f = c.type_inv.text c.loop-j.j in search rules)) c.loop-j.invariant)
