use Rattle.card_code.proofs.PairCells.{PairsJoined}
use Rattle.card_code.proofs.pair_words.pairs_by.Given as goal

abbrev pub invariant-loop-j : goal.invariant-loop-j
invariant-loop-j l = PairsJoined l.table l.text l.word l.bits l.j
