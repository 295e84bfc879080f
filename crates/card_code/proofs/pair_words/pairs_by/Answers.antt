-- One character's pair more is joined to the word.
use Rattle.card_code.proofs.PairCells.{pair_joined}
use Rattle.card_code.proofs.pair_words.pairs_by.Goals as goal

pub loop-j-preserved : goal.loop-j-preserved
loop-j-preserved c = rw c.from.ensures (pair_joined c.args.table.now c.args.text.now c.loop-j.word c.loop-j.bits c.loop-j.j c.loop-j-test.true c.loop-j.invariant)
